-- `store::body_reads` tells whether kind and body read: kind 1 or 3, or kind 2 with the domain's length inside the body. Assumes nothing.
use Rattle.store.proofs.Checks as checks
use native.Mathlib.Omega.{arith}
use Rattle.rules.specs.Store.{full, without_int}
use Rattle.store.proofs.body_reads.Goals as goal
use Rattle.store.proofs.body_reads.Goals.{Else-n-eq0, Else-s-at-eq3, Start}

pub bounds-s-at : goal.bounds-s-at
bounds-s-at c = omega arith

pub returns-then-s-at-eq1 : goal.returns-then-s-at-eq1
returns-then-s-at-eq1 c = checks.body_domain _ _ full c.if-s-at-eq1.true

pub bounds-s-at-2 : goal.bounds-s-at-2
bounds-s-at-2 c = omega arith

pub returns-then-s-at-eq3 : goal.returns-then-s-at-eq3
returns-then-s-at-eq3 c = checks.body_domain _ _ without_int c.if-s-at-eq3.true

pub bounds-s-at-3 : goal.bounds-s-at-3
bounds-s-at-3 c = omega arith

pub returns-then-s-at-ne2 : goal.returns-then-s-at-ne2
returns-then-s-at-ne2 c =
    checks.body_other _ _ c.if-s-at-eq1.false c.if-s-at-eq3.false c.if-s-at-ne2.true

pub returns-then-n-eq0 : goal.returns-then-n-eq0
returns-then-n-eq0 c = checks.body_nil _ _ _ c.if-s-at-ne2.false c.if-n-eq0.true

pub overflow_add-at : goal.overflow_add-at
overflow_add-at c = omega arith

pub bounds-s-at-4 : goal.bounds-s-at-4
bounds-s-at-4 c = omega arith

pub overflow_sub-result : goal.overflow_sub-result
overflow_sub-result c = omega arith

pub returns : goal.returns
returns c =
    checks.body_loaded c.args.s.now _ _ _ c.requires c.if-s-at-ne2.false c.if-n-eq0.false c.wide.ensures.0
