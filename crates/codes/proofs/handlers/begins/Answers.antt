-- `codes::handlers::begins` meets its contract: the bit of an offset in the code, and past the code none. Assumes nothing.
use Rattle.codes.proofs.Fitting.{begins_in, begins_past}
use Rattle.codes.proofs.handlers.begins.Goals as goal

pub returns-then-k-n : goal.returns-then-k-n
returns-then-k-n c =
    let a = c.args in begins_in a.n a.starts.now a.k c.get.result c.get.ensures

pub returns : goal.returns
returns c =
    let a = c.args in begins_past a.n a.starts.now a.k c.if-k-n.false
