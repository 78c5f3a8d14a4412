-- `calls::walk::method_calls` meets its contract: the loop keeps the first no of the calls passed; what is left of the code falls. Assumes nothing.
use Prim.Native.Nat.{◌-◌}
use mathlib.Core.Path.{◌≡◌}
use lib.ListN.{length}
use Rattle.homes.specs.Homes.{aid_at}
use Rattle.calls.specs.Maps.{MapTrue}
use Rattle.references.specs.Kept.{SameTold}
use Rattle.refusals.specs.Order.{call_told, Before}
use Rattle.calls.specs.Calls.{with_table}
use Rattle.calls.proofs.Asked as asked
use Rattle.calls.proofs.walk.method_calls.Given as goal

abbrev pub invariant-loop-call : goal.invariant-loop-call
invariant-loop-call l =
    (length l.kept ≡ length l.initial.kept) × (length l.map ≡ length l.initial.map) × SameTold l.initial.kept l.kept × MapTrue l.f l.s l.a.group.end (aid_at l.s l.a.domain) l.map
    × asked.CallLoop l.f l.s l.a.group.end (aid_at l.s l.a.domain) (with_table l.a.group l.initial.kept) l.a.at l.code l.from.0 (call_told l.number) × Before 0 l.number

abbrev pub decreases-loop-call : goal.decreases-loop-call
decreases-loop-call l = length l.code - l.from.0
