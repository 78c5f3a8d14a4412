-- `depths::depths_ok` meets its contract: a turn for each class, with the kinds and depths of those before it. Assumes nothing.
use Prim.Native.Nat.{◌-◌, ◌≤◌}
use mathlib.Core.Path.{◌≡◌}
use lib.ListN.{length}
use Rattle.named.specs.Named.{RowsTrue}
use Rattle.depths.specs.Depths.{OwnTo}
use Rattle.depths.proofs.Figures as figures
use Rattle.depths.proofs.depths_ok.Given as goal

abbrev pub invariant-loop-place : goal.invariant-loop-place
invariant-loop-place l = figures.KindsLeft l.f l.s l.b.end l.n × figures.DepthsLeft l.f l.s l.b.end l.n
    l.figure × OwnTo l.f l.s l.b.end l.n l.depths × RowsTrue l.f l.s l.b.end l.places l.rows × (length l.rows ≡ length l.initial.rows) × (length l.depths ≡ length l.initial.depths) × (l.n ≤ 32)

abbrev pub decreases-loop-place : goal.decreases-loop-place
decreases-loop-place l = 32 - l.n
