-- `fields::same_each` meets its contract: what is left to compare decides. Assumes nothing.
use Rattle.rules.specs.Bytes.{same}
use mathlib.Core.Path.{◌≡◌}
use lib.ListN.{drop}
use Rattle.fields.proofs.same_each.Given as goal

abbrev pub invariant-loop-i : goal.invariant-loop-i
invariant-loop-i l = same l.a l.b ≡ same (drop l.i l.a) (drop l.i l.b)
