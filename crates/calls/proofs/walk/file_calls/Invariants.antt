-- `calls::walk::file_calls` meets its contract: the loop keeps the first no of the classes passed. Assumes nothing.
use Prim.Native.Nat.{◌-◌}
use mathlib.Core.Path.{◌≡◌}
use lib.ListN.{length}
use Rattle.homes.specs.Homes.{aid_at}
use Rattle.calls.specs.Maps.{MapTrue}
use Rattle.references.specs.Kept.{SameTold}
use Rattle.refusals.specs.Order.{call_told, Before}
use Rattle.calls.specs.Calls.{with_table}
use Rattle.calls.proofs.Walked as walked
use Rattle.calls.proofs.walk.file_calls.Given as goal

abbrev pub invariant-loop : goal.invariant-loop
invariant-loop l =
    (length l.kept ≡ length l.initial.kept) × (length l.map ≡ length l.initial.map) × SameTold l.initial.kept l.kept × MapTrue l.f l.s l.a.group.end (aid_at l.s l.a.domain) l.map
    × walked.ClassesLoop l.f l.s l.a.group.end (aid_at l.s l.a.domain) (with_table l.a.group l.initial.kept) l.start (call_told l.number) (l.end - l.counter) l.c × Before 0 l.number
