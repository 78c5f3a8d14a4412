-- `codes::branches::mark` meets its contract: the bit of an offset in the code is set, and of one past it none. Assumes nothing.
use Rattle.codes.proofs.Adding.{adds_in, adds_past}
use Rattle.codes.proofs.branches.mark.Goals as goal

pub returns-then-to-n : goal.returns-then-to-n
returns-then-to-n c =
    let a = c.args in adds_in a.n a.targets.now _ a.to c.if-to-n.true c.set.ensures

pub returns : goal.returns
returns c = let a = c.args in adds_past a.n a.targets.now a.to c.if-to-n.false
