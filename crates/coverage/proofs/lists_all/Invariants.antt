-- `coverage::lists_all` meets its contract: each index passed is FE, or of a domain that the policy called lists. Assumes nothing.
use mathlib.Core.Path.{◌≡◌}
use lib.ListN.{length}
use Rattle.coverage.proofs.AllListed as listed
use Rattle.coverage.proofs.lists_all.Given as goal

abbrev pub invariant-loop-k : goal.invariant-loop-k
invariant-loop-k l =
    (length l.map ≡ length l.initial.map) × listed.AllLoop l.f l.domain l.g l.other l.l l.p l.initial.map l.map l.bits l.k-index
