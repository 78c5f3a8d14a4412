-- `running::class_passes` and `running::parents_pass` meet their contracts. The measure is twice the rank of the class, and one more for
-- the class itself; what is seen passes. Assumes nothing.
use Prim.Native.Nat.{◌+◌, ◌*◌}
use mathlib.Core.Path.{◌≡◌}
use lib.ListN.{length}
use Rattle.slots.specs.Slots.{SlotsTrue}
use Rattle.running.specs.Walk.{visit_home, FirstPass, SeenPass}
use Rattle.running.proofs.+class_passes_parents_pass.Given as goal

abbrev pub decreases-class_passes : goal.decreases-class_passes
decreases-class_passes l = 2 * (256 * l.v.before + l.v.number) + 1

abbrev pub decreases-parents_pass : goal.decreases-parents_pass
decreases-parents_pass l = 2 * (256 * l.v.before + l.v.number)

abbrev pub invariant-parents_pass-loop-i : goal.invariant-parents_pass-loop-i
invariant-parents_pass-loop-i l =
    FirstPass l.f l.s l.v.end l.v.domain l.v.own (visit_home l.v) l.v.number l.i × SeenPass l.f l.s l.v.end l.v.domain l.v.own l.seen ×
    SlotsTrue l.f l.s l.slots × (length l.seen ≡ length l.initial.seen)
