-- `policies::listed_domain` meets its contract: the loop passes one domain a turn, and none passed is x and listed. Assumes nothing.
use Prim.Native.Nat.{◌-◌}
use Rattle.policies.proofs.Listed as listed
use Rattle.policies.proofs.listed_domain.Given as goal

abbrev pub invariant-loop-k : goal.invariant-loop-k
invariant-loop-k l = listed.ListedLoop l.s l.domains l.at l.x l.k (l.k-end - l.k) l.c
