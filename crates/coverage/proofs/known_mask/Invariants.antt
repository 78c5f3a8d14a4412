-- `coverage::known_mask` meets its contract: the entries of the slots passed are bits. Assumes nothing.
use Rattle.policies.specs.Say.{slot_of, indexes_at}
use Rattle.policies.proofs.Gathered as gathered
use Rattle.coverage.specs.Covers.{entry_bit}
use Rattle.coverage.proofs.known_mask.Given as goal

abbrev pub invariant-loop-i : goal.invariant-loop-i
invariant-loop-i l = gathered.Gathered (λ k. entry_bit l.l l.row (slot_of k)) (indexes_at l.g l.at) l.i-index l.m
