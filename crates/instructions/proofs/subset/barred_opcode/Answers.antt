-- `instructions::subset::barred_opcode` meets its contract: the set's rule is carried to the opcode. Assumes nothing.
use mathlib.Core.Path.{◌∙◌}
use Rattle.instructions.proofs.subset.barred_opcode.Goals as goal
use Rattle.instructions.proofs.subset.barred_opcode.Goals.{Start}

pub returns : goal.returns
returns c =
    c.get.ensures ∙ c.barred-set.ensures.0.says c.args.opcode c.ranges.opcode.fits
