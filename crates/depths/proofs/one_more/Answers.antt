-- `depths::one_more` meets its contract: counted up to the limit. Assumes nothing.
use native.Mathlib.Omega.{arith}
use Rattle.depths.proofs.Walk as walk
use Rattle.depths.proofs.one_more.Goals as goal

pub returns-then-d-most : goal.returns-then-d-most
returns-then-d-most c = (walk.more_low c.args.most c.args.d c.if-d-most.true, omega arith)

pub returns : goal.returns
returns c = (walk.more_high c.args.most c.args.d c.if-d-most.false, omega arith)
