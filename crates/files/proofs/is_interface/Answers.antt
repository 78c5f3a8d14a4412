-- `files::is_interface` meets its contract: kind 1. Assumes nothing.
use native.Mathlib.Omega.{arith}
use Rattle.files.proofs.Steps as steps
use Rattle.files.proofs.is_interface.Goals as goal

pub bounds-s-at : goal.bounds-s-at
bounds-s-at c = omega (arith, (steps.class_in_lem c.requires).0, (steps.class_in_lem c.requires).1)

pub returns : goal.returns
returns c = steps.class_interface c.wide.ensures.0
