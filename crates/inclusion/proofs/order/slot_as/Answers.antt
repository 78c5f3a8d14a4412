-- `inclusion::order::slot_as` meets its contract: an index that is not below 32 is FE. Assumes nothing.
use borrow.Author.Tests.{lt-ltb, le-ltb}
use Rattle.inclusion.proofs.order.slot_as.Goals as goal

pub returns-then-i-lt32 : goal.returns-then-i-lt32
returns-then-i-lt32 c = rw (lt-ltb c.args.i 32 c.if-i-lt32.true)

pub returns : goal.returns
returns c = rw (le-ltb c.args.i 32 c.if-i-lt32.false)
