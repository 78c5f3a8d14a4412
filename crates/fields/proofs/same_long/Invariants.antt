-- `fields::same_long` compares eight bytes of both a turn, and the last eight at the end. Assumes nothing.
use Prim.Native.Nat.{◌+◌, ◌-◌, ◌≤◌}
use Rattle.fields.proofs.Words.{SameTo}
use Rattle.fields.proofs.same_long.Given as goal

abbrev pub invariant-loop-i : goal.invariant-loop-i
invariant-loop-i l = (l.i ≤ l.last + 7) × SameTo l.a l.b l.i

abbrev pub decreases-loop-i : goal.decreases-loop-i
decreases-loop-i l = l.last + 7 - l.i
