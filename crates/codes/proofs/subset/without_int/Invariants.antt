-- `codes::subset::without_int` meets its contract. The invariant: none of the instructions passed is barred. Assumes nothing.
use Prim.Native.Nat.{◌-◌}
use lib.ListN.{length}
use Rattle.codes.proofs.Barred.{Unbarred}
use Rattle.codes.proofs.subset.without_int.Given as goal

abbrev pub invariant-loop-at : goal.invariant-loop-at
invariant-loop-at l = Unbarred l.code l.at

abbrev pub decreases-loop-at : goal.decreases-loop-at
decreases-loop-at l = length l.code - l.at
