-- `file_codes::class_number` meets its contract: the loop keeps the first no of the methods that it has passed. Assumes nothing.
use Prim.Native.Nat.{◌-◌}
use mathlib.Core.Path.{◌≡◌}
use lib.ListN.{length}
use Rattle.refusals.specs.Order.{code_told, Before}
use Rattle.file_codes.proofs.Loops.{MethodNumbers}
use Rattle.file_codes.proofs.class_number.Given as goal

abbrev pub invariant-loop : goal.invariant-loop
invariant-loop l = MethodNumbers l.f l.start (code_told l.number) (l.end - l.counter) l.c × Before 18 l.number × (length l.starts ≡ length l.initial.starts) ×
    (length l.targets ≡ length l.initial.targets)
