-- `slots::parents::kind0_parent` meets its contract: the loop goes on while no parent passed is of kind 0. Assumes nothing.
use mathlib.Core.Path.{◌≡◌}
use lib.ListN.{length}
use Rattle.classes.proofs.Parents as parents
use Rattle.slots.specs.Slots.{SlotsTrue}
use Rattle.slots.proofs.parents.kind0_parent.Given as goal

abbrev pub invariant-loop-i : goal.invariant-loop-i
invariant-loop-i l = parents.Kind0From l.f l.s l.x.home l.x.number l.i × SlotsTrue l.f l.s l.slots × (length l.slots ≡ length l.initial.slots)
