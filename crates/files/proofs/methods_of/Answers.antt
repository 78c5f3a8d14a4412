-- `files::methods_of` meets its contract: a parent is two bytes. Assumes nothing.
use native.Mathlib.Omega.{arith}
use Rattle.files.proofs.Steps as steps
use Rattle.files.proofs.methods_of.Goals as goal

pub overflow_add-result : goal.overflow_add-result
overflow_add-result c = omega (arith, (steps.class_in_lem c.requires).0, (steps.class_in_lem c.requires).1)

pub overflow_add-at : goal.overflow_add-at
overflow_add-at c = omega (arith, (steps.class_in_lem c.requires).0, (steps.class_in_lem c.requires).1)

pub bounds-s-at : goal.bounds-s-at
bounds-s-at c = omega (arith, (steps.class_in_lem c.requires).0, (steps.class_in_lem c.requires).1)

pub overflow_mul-result : goal.overflow_mul-result
overflow_mul-result c =
    let pre = c.requires in
    omega (arith, (steps.class_in_lem pre).1, c.wide.ensures.0)

pub overflow_add-result-2 : goal.overflow_add-result-2
overflow_add-result-2 c =
    let pre = c.requires in
    omega (arith, (steps.class_in_lem pre).1, c.wide.ensures.0)

pub returns : goal.returns
returns c = rw c.wide.ensures.0 steps.class_methods
