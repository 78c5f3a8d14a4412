-- `services::imported` meets its contract: none of the entries passed imports the AID. Assumes nothing.
use Rattle.rules.specs.Store.{store_limits}
use Rattle.store.proofs.Find as found
use Rattle.services.specs.Answers.{importer}
use Prim.Native.Nat.{◌-◌}
use Rattle.services.proofs.imported.Given as goal

abbrev pub invariant-loop-part : goal.invariant-loop-part
invariant-loop-part l = found.Walks (importer (store_limits l.s) l.aid) l.s l.end l.at

abbrev pub decreases-loop-part : goal.decreases-loop-part
decreases-loop-part l = l.end - l.at
