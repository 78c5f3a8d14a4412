-- `instructions::biased` meets its contract: half the range more, by the two cases. Assumes nothing.
use native.Mathlib.Omega.{arith}
use borrow.Author.Tests.{lt-ltb, le-ltb}
use Rattle.instructions.proofs.biased.Goals as goal

pub returns-then-n-half : goal.returns-then-n-half
returns-then-n-half c = (rw (lt-ltb _ _ c.if-n-half.true), omega arith)

pub returns-else-n-half : goal.returns-else-n-half
returns-else-n-half c = (rw (le-ltb _ _ c.if-n-half.false), omega arith)
