-- `sorted::before` compares one byte of both a turn. Assumes nothing.
use mathlib.Core.Path.{◌≡◌}
use lib.ListN.{drop}
use Rattle.sorted.specs.Sorted.{below}
use Rattle.sorted.proofs.before.Given as goal

abbrev pub invariant-loop-i : goal.invariant-loop-i
invariant-loop-i l = below l.a l.b ≡ below (drop l.i l.a) (drop l.i l.b)
