-- `codes::next_call` meets its contract. The invariant: the calls from here on are the calls from the start of the walk on. Assumes nothing.
use Prim.Native.Nat.{◌-◌, ◌≤◌}
use mathlib.Core.Path.{◌≡◌}
use lib.ListN.{length}
use Rattle.codes.specs.Calls.{SplitsFrom, calls_from}
use Rattle.codes.proofs.next_call.Given as goal

abbrev pub invariant-loop-at : goal.invariant-loop-at
invariant-loop-at l = SplitsFrom l.code l.at × (calls_from l.code l.initial.at ≡ calls_from l.code l.at) × (l.initial.at ≤ l.at)

abbrev pub decreases-loop-at : goal.decreases-loop-at
decreases-loop-at l = length l.code - l.at
