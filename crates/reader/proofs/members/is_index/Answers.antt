-- `reader::members::is_index` meets its contract: FE, or a number below the count. Assumes nothing.
use borrow.Author.Tests.{eq-eqb, ne_eqb}
use Rattle.rules.specs.Package.{own_index}
use Rattle.reader.proofs.members.is_index.Goals as goal

pub returns-then-index-eq-OWN : goal.returns-then-index-eq-OWN
returns-then-index-eq-OWN c = rw (eq-eqb c.args.index own_index c.if-index-eq-OWN.true)

pub returns : goal.returns
returns c = rw (ne_eqb c.args.index own_index c.if-index-eq-OWN.false)
