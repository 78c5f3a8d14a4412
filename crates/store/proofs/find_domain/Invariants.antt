-- `store::find_domain` tells where a domain's entry stands: none of the entries passed is the domain's. Assumes nothing.
use Rattle.store.proofs.Find as found
use Rattle.rules.specs.Operations.{is_domain}
use Prim.Native.Nat.{◌-◌}
use Rattle.store.proofs.find_domain.Given as goal

abbrev pub invariant-loop-part : goal.invariant-loop-part
invariant-loop-part l = found.Walks (is_domain l.aid) l.s l.end l.at

abbrev pub decreases-loop-part : goal.decreases-loop-part
decreases-loop-part l = l.end - l.at
