-- `files::is_implemented` meets its contract: the bit of weight 40. Assumes nothing.
use native.Mathlib.Omega.{arith}
use Rattle.files.proofs.Steps as steps
use Rattle.files.proofs.is_implemented.Goals as goal

pub bounds-s-at : goal.bounds-s-at
bounds-s-at c = omega (arith, steps.method_in_lem c.requires)

pub returns : goal.returns
returns c = steps.method_implemented c.wide.ensures.0
