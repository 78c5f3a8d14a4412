-- `policies::number_of` meets its contract: the loop passes one domain a turn, and none passed is x; the loading domain is compared last. Assumes nothing.
use Prim.Native.Nat.{◌-◌}
use Rattle.policies.proofs.Numbers as numbers
use Rattle.policies.proofs.number_of.Given as goal

abbrev pub invariant-loop-k : goal.invariant-loop-k
invariant-loop-k l = numbers.NumberLoop l.f l.u l.domain l.x l.k (l.count - l.k) l.c
