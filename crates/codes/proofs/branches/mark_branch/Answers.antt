-- `codes::branches::mark_branch` meets its contract: the bit of where a branch lands is set, if that is in the code. Assumes nothing.
use Rattle.codes.proofs.Adding.{adds_lands}
use Rattle.codes.proofs.branches.mark_branch.Goals as goal

pub returns : goal.returns
returns c =
    adds_lands _ _ _ _ _ c.target_of.result c.target_of.ensures c.mark.ensures
