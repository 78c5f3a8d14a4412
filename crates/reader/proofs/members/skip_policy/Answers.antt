-- `reader::members::skip_policy` meets its contract: FF alone, or the indexes. Assumes nothing.
use native.Mathlib.Omega.{arith}
use Rattle.cursor.proofs.Steps.{said_inside}
use Rattle.reader.proofs.Formats.{policy_none, policy_every, policy_many, policy_leads}
use Rattle.reader.proofs.members.skip_policy.Goals as goal

pub returns-in_err-count : goal.returns-in_err-count
returns-in_err-count c =
    λ ds e. rw c.from_residual.ensures (policy_none ds c.in_err-count.ensures)

pub returns-then-count-eq-EVERY : goal.returns-then-count-eq-EVERY
returns-then-count-eq-EVERY c =
    λ ds e. policy_every ds c.in_ok-count.ensures (omega arith)

pub returns-then-count-gt-MOST_ALLOWED : goal.returns-then-count-gt-MOST_ALLOWED
returns-then-count-gt-MOST_ALLOWED c =
    λ ds e. policy_many ds c.in_ok-count.ensures c.if-count-eq-EVERY.false (omega arith)

pub skip_indexes-requires : goal.skip_indexes-requires
skip_indexes-requires c =
    said_inside c.in_ok-count.ensures

pub returns : goal.returns
returns c =
    λ ds e. policy_leads ds c.in_ok-count.ensures c.if-count-eq-EVERY.false (omega arith) _ (c.skip_indexes.ensures ds e)
