-- `files::policy_of` meets its contract: the policy follows bitfield and name. Assumes nothing.
use native.Mathlib.Omega.{arith}
use Rattle.files.proofs.Steps as steps
use Rattle.files.proofs.policy_of.Goals as goal

pub overflow_add-result : goal.overflow_add-result
overflow_add-result c = omega (arith, steps.method_in_lem c.requires)

pub returns : goal.returns
returns c = steps.policy_at
