-- `files::nth_class` meets its contract: the loop passes one class a turn, and none passed has the number. Assumes nothing.
use Rattle.std.specs.Prelude.{◌-◌, ◌≤◌}
use Rattle.rules.specs.Bytes.{at}
use Rattle.files.proofs.Loops as loops
use Rattle.files.proofs.nth_class.Given as goal

abbrev pub invariant-loop-i : goal.invariant-loop-i
invariant-loop-i l = loops.ClassLoop (λ xs. at xs l.k) (λ ys. at ys (l.k - l.i)) l.s l.at (l.i-end - l.i) l.c × (l.i ≤ l.k)
