-- `bits::is_within` meets its contract. The invariant: the bits of the bytes before i are within. Assumes nothing.
use Rattle.bits.proofs.Within.{WithinTo}
use Rattle.bits.proofs.is_within.Given as goal

abbrev pub invariant-loop-i : goal.invariant-loop-i
invariant-loop-i l = WithinTo l.a l.b l.i
