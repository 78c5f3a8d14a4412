-- `names::name_at` meets its contract: the name follows the bitfield. Assumes nothing.
use native.Mathlib.Omega.{arith}
use Rattle.files.proofs.Steps as steps
use Rattle.names.proofs.name_at.Goals as goal

pub u2_at-requires : goal.u2_at-requires
u2_at-requires c = omega (arith, steps.method_in_lem c.requires)

pub returns : goal.returns
returns c = rw c.u2_at.ensures.0 steps.method_name
