-- `named::walk_on` meets its contract: each turn passes one class and writes its place. Assumes nothing.
use mathlib.Core.Path.{◌≡◌}
use lib.ListN.{length}
use Rattle.named.specs.Named.{ClassesFrom, RowTrue, Beside}
use Rattle.named.proofs.walk_on.Given as goal

abbrev pub invariant-loop-n : goal.invariant-loop-n
invariant-loop-n l = ClassesFrom l.g l.n l.i × RowTrue l.g l.rows l.base × Beside l.initial.rows l.rows l.base × (length l.rows ≡ length l.initial.rows)
