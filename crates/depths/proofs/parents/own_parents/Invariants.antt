-- `depths::parents::own_parents` meets its contract: a turn for each parent, those before it counted and compared. Assumes nothing.
use Prim.Native.Nat.{◌≤◌}
use mathlib.Core.Path.{◌≡◌}
use lib.ListN.{length}
use Rattle.named.specs.Named.{RowsTrue}
use Rattle.depths.proofs.Walk as walk
use Rattle.depths.proofs.ParentKinds as kinds
use Rattle.depths.proofs.parents.own_parents.Given as goal

abbrev pub invariant-loop-i : goal.invariant-loop-i
invariant-loop-i l =
    kinds.Kinds l.f l.s l.o.end l.o.number l.i l.found × walk.Deepest l.f l.s l.o.end l.o.number l.i l.deepest × (l.found ≤ l.i) × RowsTrue l.f l.s l.o.end l.places l.rows
    × (length l.rows ≡ length l.initial.rows)
