-- `search::visited::bit_of` meets its contract: the number of the class's bit. Assumes nothing.
use mathlib.Core.Path.{sym}
use Rattle.search.proofs.Codes.{key_in}
use Rattle.search.proofs.visited.bit_of.Goals as goal

pub returns : goal.returns
returns c = sym (key_in _)
