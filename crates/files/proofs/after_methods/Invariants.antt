-- `files::after_methods` meets its contract: the loop passes one method a turn, and its invariant is that the methods left are still to be read. Assumes nothing.
use Rattle.std.specs.Prelude.{◌-◌}
use Rattle.places.specs.Reads.{nil}
use Rattle.files.proofs.Loops as loops
use Rattle.files.proofs.after_methods.Given as goal

abbrev pub invariant-loop : goal.invariant-loop
invariant-loop l = loops.MethodLoop nil nil l.s l.at (l.end - l.counter) l.c
