-- `store::subset::keeps_subset` tells whether a domain is of kind 3: none of the entries passed is such a domain. Assumes nothing.
use Rattle.store.specs.Entries.{is_without_int}
use Rattle.store.proofs.Find as found
use Prim.Native.Nat.{◌-◌}
use Rattle.store.proofs.subset.keeps_subset.Given as goal

abbrev pub invariant-loop-part : goal.invariant-loop-part
invariant-loop-part l = found.Walks (is_without_int l.aid) l.s l.end l.at

abbrev pub decreases-loop-part : goal.decreases-loop-part
decreases-loop-part l = l.end - l.at
