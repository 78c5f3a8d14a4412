-- `judge::packages_sound` meets its contract: a turn for each entry, with the tables of those before it. Assumes nothing.
use Prim.Native.Nat.{◌-◌}
use mathlib.Core.Path.{◌≡◌}
use lib.ListN.{length}
use Rattle.index.specs.Index.{IndexIs}
use Rattle.depths.specs.Depths.{DepthsKept}
use Rattle.judge.proofs.Going.{Going}
use Rattle.judge.proofs.packages_sound.Given as goal

abbrev pub invariant-loop-part : goal.invariant-loop-part
invariant-loop-part l = Going l.s l.end l.at × IndexIs l.s l.at l.index × DepthsKept l.s l.at l.depths ×
    ((length l.index ≡ length l.initial.index) × (length l.depths ≡ length l.initial.depths) × (length l.names ≡ length l.initial.names) × (length l.seen ≡ length l.initial.seen))

abbrev pub decreases-loop-part : goal.decreases-loop-part
decreases-loop-part l = l.end - l.at
