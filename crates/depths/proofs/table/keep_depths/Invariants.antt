-- `depths::table::keep_depths` meets its contract: a turn for each class, with the fields of those before it written. Assumes nothing.
use Prim.Native.Nat.{ℕ, ◌-◌, ◌/◌, ◌<◌}
use mathlib.Core.Path.{◌≡◌}
use lib.ListN.{length}
use Rattle.named.specs.Named.{ClassesFrom}
use Rattle.depths.specs.Depths.{depth_width, FileKeptTo, depth_field}
use Rattle.depths.proofs.table.keep_depths.Given as goal

abbrev pub invariant-loop-i : goal.invariant-loop-i
invariant-loop-i l =
    ClassesFrom l.g l.n l.i × FileKeptTo l.width l.g l.from l.depths l.t l.n × ((j : ℕ) → j < l.from / 5 → depth_field l.width l.t j ≡ depth_field l.width l.initial.t j)
    × (length l.t ≡ length l.initial.t) × (l.width ≡ depth_width l.s)

abbrev pub decreases-loop-i : goal.decreases-loop-i
decreases-loop-i l = length l.g - l.i
