-- `files::is_visible` meets its contract: the bit of weight 80. Assumes nothing.
use native.Mathlib.Omega.{arith}
use Rattle.files.proofs.Steps as steps
use Rattle.files.proofs.is_visible.Goals as goal

pub bounds-s-at : goal.bounds-s-at
bounds-s-at c = omega (arith, steps.method_in_lem c.requires)

pub returns : goal.returns
returns c = steps.method_visible c.wide.ensures.0
