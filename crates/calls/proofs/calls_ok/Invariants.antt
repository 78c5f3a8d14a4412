-- `calls::calls_ok` meets its contract: the loop keeps the first no of the calls asked with the groups passed. Assumes nothing.
use Prim.Native.Nat.{◌-◌, ◌≤◌}
use mathlib.Core.Path.{◌≡◌}
use lib.ListN.{length}
use Rattle.homes.specs.Homes.{aid_at}
use Rattle.slots.specs.Slots.{SlotsTrue}
use Rattle.references.specs.Kept.{kept_length}
use Rattle.refusals.specs.Order.{call_told, Before}
use Rattle.calls.specs.Calls.{asking, FileCallsAre}
use Rattle.calls.proofs.Groups as groups
use Rattle.calls.proofs.calls_ok.Given as goal

abbrev pub invariant-loop-first : goal.invariant-loop-first
invariant-loop-first l =
    (length l.slots ≡ length l.initial.slots) × (length l.seen ≡ length l.initial.seen) × (length l.kept ≡ kept_length) × SlotsTrue l.f l.s l.slots × (l.first ≤ 65535)
    × FileCallsAre l.f l.s l.told.group.end (aid_at l.s l.told.domain) (asking (groups.asked_to l.told.group.count l.first)) (call_told l.number) × Before 0 l.number

abbrev pub decreases-loop-first : goal.decreases-loop-first
decreases-loop-first l = l.told.group.count - l.first
