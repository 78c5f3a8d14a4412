-- `depths::existence::parents_exist` meets its contract: a turn for each class, the parents of those before it exist. Assumes nothing.
use Prim.Native.Nat.{◌-◌, ◌≤◌}
use mathlib.Core.Path.{◌≡◌}
use lib.ListN.{length}
use Rattle.named.specs.Named.{RowsTrue}
use Rattle.depths.proofs.Exist as exist
use Rattle.depths.proofs.existence.parents_exist.Given as goal

abbrev pub invariant-loop-place : goal.invariant-loop-place
invariant-loop-place l = exist.ClassesLeft l.f l.s l.b.end l.n × RowsTrue l.f l.s l.b.end l.places l.rows × (length l.rows ≡ length l.initial.rows) × (l.n ≤ 32)

abbrev pub decreases-loop-place : goal.decreases-loop-place
decreases-loop-place l = 32 - l.n
