-- `codes::walk` meets its contract. The invariant is `Walking`: the instructions before this offset are passed. Assumes nothing.
use Prim.Native.Nat.{◌-◌}
use mathlib.Core.Path.{◌≡◌}
use lib.ListN.{length}
use Rattle.codes.proofs.Walking.{Walking}
use Rattle.codes.proofs.walk.Given as goal

abbrev pub invariant-loop-at : goal.invariant-loop-at
invariant-loop-at l = Walking l.code l.at l.last l.inside l.calls l.starts l.targets
    × (length l.starts ≡ length l.initial.starts) × (length l.targets ≡ length l.initial.targets)

abbrev pub decreases-loop-at : goal.decreases-loop-at
decreases-loop-at l = length l.code - l.at
