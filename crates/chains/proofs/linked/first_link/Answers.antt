-- `chains::linked::first_link` meets its contract: own classes stand from link 16 on, stored ones from 0 on. Assumes nothing.
use borrow.Author.Tests.{eq-eqb, ne_eqb}
use Rattle.chains.proofs.linked.first_link.Goals as goal

pub returns-then-h-eq0 : goal.returns-then-h-eq0
returns-then-h-eq0 c = let z = eq-eqb c.args.h.from 0 c.if-h-eq0.true in rw z

pub returns : goal.returns
returns c = let z = ne_eqb c.args.h.from 0 c.if-h-eq0.false in rw z
