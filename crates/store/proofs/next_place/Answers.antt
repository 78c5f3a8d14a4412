-- `store::next_place` tells where the entry at a place ends, or that none reads there. Assumes nothing.
use Rattle.store.proofs.Checks as checks
use mathlib.Core.Path.{sym, ◌∙◌}
use native.Mathlib.Omega.{arith}
use Rattle.store.proofs.next_place.Goals as goal
use Rattle.store.proofs.next_place.Goals.{After-u2_at-n}

pub overflow_sub-end : goal.overflow_sub-end
overflow_sub-end c = omega arith

pub returns-then-end-at-lt3 : goal.returns-then-end-at-lt3
returns-then-end-at-lt3 c = checks.next_short _ _ _ c.if-end-at-lt3.true c.requires.0

pub overflow_add-at : goal.overflow_add-at
overflow_add-at c = omega arith

pub u2_at-n-requires : goal.u2_at-n-requires
u2_at-n-requires c = omega arith

pub overflow_sub-end-2 : goal.overflow_sub-end-2
overflow_sub-end-2 c = omega arith

pub overflow_sub-end-3 : goal.overflow_sub-end-3
overflow_sub-end-3 c = omega arith

pub returns-then-n-end : goal.returns-then-n-end
returns-then-n-end c =
    checks.next_long _ _ _ _ c.u2_at-n.ensures.0 c.requires.1 c.if-n-end.true

pub body_reads-requires : goal.body_reads-requires
body_reads-requires c = omega arith

pub overflow_add-result : goal.overflow_add-result
overflow_add-result c = omega arith

pub overflow_add-result-then-body_reads : goal.overflow_add-result-then-body_reads
overflow_add-result-then-body_reads c = omega arith

pub returns-then-body_reads : goal.returns-then-body_reads
returns-then-body_reads c =
    let reads = sym c.body_reads.ensures ∙ c.if-body_reads.true in
    checks.next_body _ _ _ _ c.u2_at-n.ensures.0 c.requires.1 (omega arith) (omega arith) reads

pub returns : goal.returns
returns c =
    let fails = sym c.body_reads.ensures ∙ c.if-body_reads.false in
    checks.next_other _ _ _ _ c.u2_at-n.ensures.0 c.requires.1 fails
