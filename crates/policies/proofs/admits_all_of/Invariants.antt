-- `policies::admits_all_of` meets its contract: FF is answered first; the loop goes on while what the indexes passed mean is allowed. Assumes nothing.
use Rattle.policies.proofs.Rules as rules
use Rattle.policies.proofs.admits_all_of.Given as goal

abbrev pub invariant-loop-i : goal.invariant-loop-i
invariant-loop-i l = rules.IndexLoop l.s l.p.domains l.own l.p.policy l.t l.q.domains l.other l.q.policy l.i-index
