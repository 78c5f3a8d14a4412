-- `search::class_declares` and `search::parents_declare` end by a measure that falls: twice the rank of the class, and one more for the class
-- itself. Assumes nothing.
use Prim.Native.Nat.{ℕ, ◌+◌, ◌*◌}
use mathlib.Core.Path.{◌≡◌}
use lib.ListN.{length}
use Rattle.classes.specs.Say.{rank}
use Rattle.slots.specs.Slots.{SlotsTrue}
use Rattle.search.specs.Walk.{visit_spot}
use Rattle.search.specs.declared.visited.Visit.{Visit}
use Rattle.search.proofs.Turns.{Above, Seen}
use Rattle.search.proofs.+class_declares_parents_declare.Given as goal

abbrev pub rank_of : Visit → ℕ
rank_of v = rank (visit_spot v).home (visit_spot v).number

abbrev pub decreases-class_declares : goal.decreases-class_declares
decreases-class_declares l = 2 * rank_of l.v + 1

abbrev pub decreases-parents_declare : goal.decreases-parents_declare
decreases-parents_declare l = 2 * rank_of l.v

-- the loop over the parents: nothing was found among those passed, and the tables keep their lengths
abbrev pub invariant-parents_declare-loop-i : goal.invariant-parents_declare-loop-i
invariant-parents_declare-loop-i l = Above l.f l.s l.v l.i × Seen l.f l.s l.v l.seen × SlotsTrue l.f l.s l.slots × (length l.seen ≡ length l.initial.seen) ×
    (length l.slots ≡ length l.initial.slots)
