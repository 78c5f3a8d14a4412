-- `depths::table::width_of` meets its contract: by the limit. Assumes nothing.
use native.Mathlib.Omega.{arith}
use borrow.Author.Tests.{le-leb, lt-leb}
use Rattle.depths.proofs.table.width_of.Goals as goal

pub returns-then-most-le8 : goal.returns-then-most-le8
returns-then-most-le8 c = rw (le-leb c.args.most 8 c.if-most-le8.true)

pub returns-else-most-le8 : goal.returns-else-most-le8
returns-else-most-le8 c = rw (lt-leb c.args.most 8 (omega (arith, c.if-most-le8.false)))
