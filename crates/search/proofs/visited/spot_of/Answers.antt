-- `search::visited::spot_of` meets its contract: the parts of the number. Assumes nothing.
use borrow.Author.Rules.{rules}
use Rattle.search.specs.Walk.{spot_in}
use Rattle.search.proofs.visited.spot_of.Goals as goal

pub returns : goal.returns
unfolding spot_in
returns c = search rules
