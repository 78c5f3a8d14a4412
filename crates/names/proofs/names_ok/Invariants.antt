-- `names::names_ok` meets its contract: the loop goes on while every class passed is right. Assumes nothing.
use Prim.Native.Nat.{◌-◌}
use mathlib.Core.Path.{◌≡◌}
use lib.ListN.{length}
use Rattle.rules.specs.Bytes.{all}
use Rattle.files.proofs.Loops as loops
use Rattle.names.specs.Say.{class_ok}
use Rattle.names.proofs.names_ok.Given as goal

abbrev pub invariant-loop : goal.invariant-loop
invariant-loop l = loops.ClassLoop (all class_ok) (all class_ok) l.f l.start (l.end - l.counter) l.c × (length l.names ≡ 64)
