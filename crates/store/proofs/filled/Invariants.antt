-- `store::filled` tells whether entries stand back to back up to a place: those passed stand before the place reached. Assumes nothing.
use Rattle.store.specs.Entries.{StandFrom}
use Prim.Native.Nat.{◌-◌, ◌≤◌}
use Rattle.store.proofs.filled.Given as goal

abbrev pub invariant-loop-at : goal.invariant-loop-at
invariant-loop-at l = StandFrom l.s l.from l.at × (l.at ≤ l.end)

abbrev pub decreases-loop-at : goal.decreases-loop-at
decreases-loop-at l = l.end - l.at
