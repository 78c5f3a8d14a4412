-- `files::parents_of` meets its contract: the parents follow the kind. Assumes nothing.
use native.Mathlib.Omega.{arith}
use Rattle.files.proofs.Steps as steps
use Rattle.files.proofs.parents_of.Goals as goal

pub overflow_add-result : goal.overflow_add-result
overflow_add-result c = omega (arith, (steps.class_in_lem c.requires).0, (steps.class_in_lem c.requires).1)

pub returns : goal.returns
returns c = steps.class_parents
