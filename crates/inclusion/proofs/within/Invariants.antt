-- `inclusion::within` meets its contract: the loop goes on while the numbers of the slots passed are bits of the mask. Assumes nothing.
use mathlib.Core.Path.{◌≡◌}
use lib.ListN.{length}
use Rattle.inclusion.proofs.Passing as passing
use Rattle.inclusion.proofs.within.Given as goal

abbrev pub invariant-loop-i : goal.invariant-loop-i
invariant-loop-i l =
    (length l.row ≡ length l.initial.row) × passing.WithinLoop l.f l.domain l.m l.g l.other l.fn.q l.initial.row l.row l.i-index
