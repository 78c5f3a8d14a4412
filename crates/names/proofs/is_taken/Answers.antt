-- `names::is_taken` meets its contract: a name that is not below all of them is not among them. Assumes nothing.
use native.Mathlib.Omega.{arith}
use mathlib.Core.Path.{sym}
use Rattle.names.proofs.Table.{among_below}
use Rattle.names.proofs.is_taken.Goals as goal

pub returns-then-top-x : goal.returns-then-top-x
returns-then-top-x c =
    let a = c.args in
    sym (among_below a.names.now a.n a.top a.name c.requires.1 (omega arith))
