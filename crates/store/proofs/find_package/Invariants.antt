-- `store::find_package` tells where a package stands: none of the entries passed is the package's. Assumes nothing.
use Rattle.store.proofs.Asked as asked
use Rattle.store.proofs.Find as found
use Prim.Native.Nat.{◌-◌}
use Rattle.store.proofs.find_package.Given as goal

abbrev pub invariant-loop-part : goal.invariant-loop-part
invariant-loop-part l = found.Walks (asked.named_by l.aid) l.s l.end l.at

abbrev pub decreases-loop-part : goal.decreases-loop-part
decreases-loop-part l = l.end - l.at
