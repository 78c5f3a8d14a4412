-- `files::reference_at` meets its contract: a reference is four bytes, so the one with a number is found without a loop. Assumes nothing.
use native.Mathlib.Omega.{arith}
use Rattle.files.proofs.Steps as steps
use Rattle.files.proofs.reference_at.Goals as goal
use Rattle.files.proofs.reference_at.Goals.{After-u2_at, After-wide, Else-u2_at-k}

pub u2_at-requires : goal.u2_at-requires
u2_at-requires c = (steps.references_in c.requires).0

pub returns-then-u2_at-k : goal.returns-then-u2_at-k
returns-then-u2_at-k c = steps.reference_none (rw c.u2_at.ensures.0 at c.if-u2_at-k.true)

pub overflow_add-c : goal.overflow_add-c
overflow_add-c c =
    let pre = c.requires in
    omega (arith, (steps.references_in pre).1, c.u2_at.ensures.0, c.if-u2_at-k.false)

pub overflow_mul-c : goal.overflow_mul-c
overflow_mul-c c =
    let pre = c.requires in
    omega (arith, (steps.references_in pre).1, c.u2_at.ensures.0, c.if-u2_at-k.false)

pub overflow_add-c-2 : goal.overflow_add-c-2
overflow_add-c-2 c =
    let pre = c.requires in
    omega (arith, (steps.references_in pre).1, c.u2_at.ensures.0, c.if-u2_at-k.false)

pub bounds-s-c : goal.bounds-s-c
bounds-s-c c =
    let pre = c.requires in
    omega (arith, (steps.references_in pre).1, c.u2_at.ensures.0, c.if-u2_at-k.false)

pub overflow_add-c-3 : goal.overflow_add-c-3
overflow_add-c-3 c =
    let pre = c.requires in
    omega (arith, (steps.references_in pre).1, c.u2_at.ensures.0, c.if-u2_at-k.false)

pub bounds-s-c-2 : goal.bounds-s-c-2
bounds-s-c-2 c =
    let pre = c.requires in
    omega (arith, (steps.references_in pre).1, c.u2_at.ensures.0, c.if-u2_at-k.false)

pub overflow_add-c-4 : goal.overflow_add-c-4
overflow_add-c-4 c =
    let pre = c.requires in
    omega (arith, (steps.references_in pre).1, c.u2_at.ensures.0, c.if-u2_at-k.false)

pub u2_at-requires-2 : goal.u2_at-requires-2
u2_at-requires-2 c =
    let pre = c.requires in
    omega (arith, (steps.references_in pre).1, c.u2_at.ensures.0, c.if-u2_at-k.false)

pub returns : goal.returns
returns c =
    rw (c.wide.ensures.0, c.wide-2.ensures.0, c.u2_at-2.ensures.0) (steps.reference_some (omega (arith, c.u2_at.ensures.0, c.if-u2_at-k.false)))
