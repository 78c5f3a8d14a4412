-- `file_codes::subset::file_keeps` meets its contract: the loop goes on while every class passed keeps to the subset. Assumes nothing.
use Prim.Native.Nat.{◌-◌}
use Rattle.rules.specs.Bytes.{all}
use Rattle.files.proofs.Loops as loops
use Rattle.file_codes.proofs.Keeping.{class_keeps}
use Rattle.file_codes.proofs.subset.file_keeps.Given as goal

abbrev pub invariant-loop : goal.invariant-loop
invariant-loop l = loops.ClassLoop (all class_keeps) (all class_keeps) l.f l.start (l.end - l.counter) l.c
