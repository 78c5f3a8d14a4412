-- `slots::enter_imports` meets its contract: the loop keeps slots that are true, slot 0 being that of the own file. Assumes nothing.
use mathlib.Core.Path.{◌≡◌}
use lib.ListN.{length}
use Rattle.slots.proofs.Entered as entered
use Rattle.slots.proofs.enter_imports.Given as goal

abbrev pub invariant-loop-p : goal.invariant-loop-p
invariant-loop-p l =
    (length l.slots ≡ length l.initial.slots) × entered.Entered l.s l.end l.places l.slots
