-- `references::groups::told_in` meets its contract: past the file's references nothing is named, else the table tells it. Assumes nothing.
use native.Mathlib.Omega.{arith}
use borrow.Author.Tests.{le-leb}
use Rattle.references.proofs.Filled as filled
use Rattle.references.proofs.groups.told_in.Goals as goal

pub returns-then-g-k : goal.returns-then-g-k
returns-then-g-k c = rw (le-leb _ _ c.if-g-k.true)

pub overflow_sub-k : goal.overflow_sub-k
overflow_sub-k c = (filled.inside c.args.g c.args.k c.requires.1 c.if-g-k.false).0

pub told_at-requires : goal.told_at-requires
told_at-requires c =
    let w = filled.inside c.args.g c.args.k c.requires.1 c.if-g-k.false in
    (omega (arith, w.0, w.1), c.requires.0)

pub returns : goal.returns
returns c =
    filled.told_inside c.args.table.now c.args.g c.args.k c.if-g-k.false c.told_at.result c.told_at.ensures
