-- `store::zeros_from` tells whether only zeros follow: the greatest byte passed and what is left to compare decide. Assumes nothing.
use Rattle.rules.specs.Store.{is_zero}
use Rattle.rules.specs.Bytes.{all}
use mathlib.Core.Path.{◌≡◌}
use mathlib.Core.Bool.{◌&&◌}
use lib.Dec.{eqb}
use lib.ListN.{drop}
use Rattle.store.proofs.zeros_from.Given as goal

abbrev pub invariant-loop-i : goal.invariant-loop-i
invariant-loop-i l = all is_zero (drop l.from l.s) ≡ (eqb l.greatest 0 && all is_zero (drop l.i l.s))
