-- `halving::partition_point` meets its contract: the test says yes right before the lower bound, and no at the upper one. Assumes nothing.
use Prim.Native.Nat.{◌-◌, ◌≤◌, ◌<◌}
use mathlib.Core.Bool.{true, false}
use Rattle.halving.proofs.partition_point.Given as goal

abbrev pub invariant-loop-lo : goal.invariant-loop-lo
invariant-loop-lo g l = record {
  start : l.a ≤ l.lo;
  low : l.lo ≤ l.hi;
  high : l.hi ≤ l.e;
  before : l.a < l.lo → goal.F-post g l.holds (l.lo - 1) true;
  there : l.hi < l.e → goal.F-post g l.holds l.hi false;
}

abbrev pub decreases-loop-lo : goal.decreases-loop-lo
decreases-loop-lo g l = l.hi - l.lo
