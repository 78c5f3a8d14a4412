-- `files::after_references` meets its contract: a reference is four bytes. Assumes nothing.
use native.Mathlib.Omega.{arith}
use Rattle.files.proofs.Steps as steps
use Rattle.files.proofs.after_references.Goals as goal

pub overflow_add-result : goal.overflow_add-result
overflow_add-result c = omega (arith, (steps.references_in c.requires).0, (steps.references_in c.requires).1)

pub u2_at-requires : goal.u2_at-requires
u2_at-requires c = (steps.references_in c.requires).0

pub overflow_mul-result : goal.overflow_mul-result
overflow_mul-result c = omega (arith, (steps.references_in c.requires).1, c.u2_at.ensures.0)

pub overflow_add-result-2 : goal.overflow_add-result-2
overflow_add-result-2 c = omega (arith, (steps.references_in c.requires).1, c.u2_at.ensures.0)

pub returns : goal.returns
returns c = rw c.u2_at.ensures.0 steps.references_next
