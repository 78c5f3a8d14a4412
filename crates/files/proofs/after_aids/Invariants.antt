-- `files::after_aids` meets its contract: the loop passes one AID a turn, and its invariant is that the AIDs left are still to be read. Assumes nothing.
use Rattle.std.specs.Prelude.{◌-◌}
use Rattle.places.specs.Reads.{nil}
use Rattle.files.proofs.Loops as loops
use Rattle.files.proofs.after_aids.Given as goal

abbrev pub invariant-loop : goal.invariant-loop
invariant-loop l = loops.AidLoop nil nil l.s l.at (l.end - l.counter) l.c
