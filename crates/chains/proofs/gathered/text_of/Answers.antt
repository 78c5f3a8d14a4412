-- `chains::gathered::text_of` meets its contract: an own file stands by itself. Assumes nothing.
use borrow.Author.Tests.{eq-eqb, ne_eqb}
use Rattle.chains.proofs.gathered.text_of.Goals as goal

pub returns-then-h-eq0 : goal.returns-then-h-eq0
returns-then-h-eq0 c = let z = eq-eqb c.args.h.from 0 c.if-h-eq0.true in rw z

pub returns : goal.returns
returns c = let z = ne_eqb c.args.h.from 0 c.if-h-eq0.false in rw z
