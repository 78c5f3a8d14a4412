-- `depths::existence::class_parents_exist` meets its contract: a turn for each parent, those before it exist. Assumes nothing.
use mathlib.Core.Path.{◌≡◌}
use lib.ListN.{length}
use Rattle.named.specs.Named.{RowsTrue}
use Rattle.depths.proofs.Exist as exist
use Rattle.depths.proofs.existence.class_parents_exist.Given as goal

abbrev pub invariant-loop-i : goal.invariant-loop-i
invariant-loop-i l = exist.ExistLeft l.f l.s l.o.end l.o.number l.i × RowsTrue l.f l.s l.o.end l.places l.rows × (length l.rows ≡ length l.initial.rows)
