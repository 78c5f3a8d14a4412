-- `file_codes::subset::class_keeps` meets its contract: the loop goes on while every method passed keeps to the subset. Assumes nothing.
use Prim.Native.Nat.{◌-◌}
use Rattle.rules.specs.Bytes.{all}
use Rattle.files.proofs.Loops as loops
use Rattle.file_codes.specs.Codes.{keeps}
use Rattle.file_codes.proofs.subset.class_keeps.Given as goal

abbrev pub invariant-loop : goal.invariant-loop
invariant-loop l = loops.MethodLoop (all keeps) (all keeps) l.f l.start (l.end - l.counter) l.c
