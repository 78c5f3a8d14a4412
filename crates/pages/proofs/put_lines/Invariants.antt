-- `pages::put_lines` meets its contract: what is put and counted, with what is left, is all. Assumes nothing.
use Prim.Native.Nat.{◌-◌}
use mathlib.Core.Path.{◌≡◌}
use lib.ListN.{length}
use Rattle.pages.proofs.Left.{Left}
use Rattle.pages.proofs.put_lines.Given as goal

abbrev pub invariant-loop-part : goal.invariant-loop-part
invariant-loop-part l = Left l.s l.used l.out l.at l.packages l.bytes l.methods l.i × (length l.out ≡ length l.initial.out)

abbrev pub decreases-loop-part : goal.decreases-loop-part
decreases-loop-part l = l.used - l.i
