-- `store::domain_in_use` tells whether a package lies in a domain: none of those passed does. Assumes nothing.
use Rattle.store.specs.Entries.{lies_in}
use Rattle.store.proofs.Find as found
use Prim.Native.Nat.{◌-◌}
use Rattle.store.proofs.domain_in_use.Given as goal

abbrev pub invariant-loop-part : goal.invariant-loop-part
invariant-loop-part l = found.Walks (lies_in l.aid) l.s l.end l.at

abbrev pub decreases-loop-part : goal.decreases-loop-part
decreases-loop-part l = l.end - l.at
