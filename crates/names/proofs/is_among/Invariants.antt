-- `names::is_among` meets its contract: what is found is what is among the names passed. Assumes nothing.
use mathlib.Core.Path.{◌≡◌}
use Rattle.names.specs.Say.{among}
use Rattle.names.proofs.is_among.Given as goal

abbrev pub invariant-loop-i : goal.invariant-loop-i
invariant-loop-i l = l.found ≡ among l.names l.i l.name
