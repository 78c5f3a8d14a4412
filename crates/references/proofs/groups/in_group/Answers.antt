-- `references::groups::in_group` meets its contract: the comparisons of the numbers. Assumes nothing.
use native.Mathlib.Omega.{arith}
use borrow.Author.Tests.{lt-leb, le-leb}
use Rattle.std.proofs.lemmas.Bool.Decides.{nat_tests}
use Rattle.references.proofs.groups.in_group.Goals as goal

pub returns-then-g-k : goal.returns-then-g-k
returns-then-g-k c = rw (le-leb _ _ c.if-g-k.true)

pub returns-then-g-k-2 : goal.returns-then-g-k-2
returns-then-g-k-2 c = rw (lt-leb _ _ c.if-g-k.false, le-leb _ _ c.if-g-k-2.true) (grind (arith, nat_tests))

pub returns-else-g-k-2 : goal.returns-else-g-k-2
returns-else-g-k-2 c = rw (lt-leb _ _ c.if-g-k.false, lt-leb _ _ c.if-g-k-2.false)
