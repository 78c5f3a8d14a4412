-- `chains::gathered::gather` meets its contract: the names of the classes so far are in the table, and what follows them is left. Assumes nothing.
use Rattle.chains.proofs.Collecting as collecting
use Prim.Native.Nat.{◌≤◌}
use Rattle.chains.proofs.gathered.gather.Given as goal

abbrev pub invariant-loop-i : goal.invariant-loop-i
invariant-loop-i l = (l.i ≤ l.last) × collecting.Collecting l.f l.s l.initial.names l.names l.h l.n l.last l.a l.i l.to
