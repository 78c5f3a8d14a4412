-- `writing::copy_in` copies bytes: those up to the index are pasted. Assumes nothing.
use lib.Seq.{paste}
use lib.ListN.{length}
use mathlib.Core.Path.{◌≡◌}
use Rattle.writing.proofs.copy_in.Given as goal

abbrev pub invariant-loop-i : goal.invariant-loop-i
invariant-loop-i l = (l.store ≡ paste l.initial.store l.at l.from l.i) × (length l.store ≡ length l.initial.store)
