-- `references::groups::want_in` meets its contract: a reference of the group that is open stands in the table. Assumes nothing.
use native.Mathlib.Omega.{arith}
use borrow.Author.Tests.{lt-leb}
use Rattle.references.proofs.Filled as filled
use Rattle.references.proofs.groups.want_in.Goals as goal

pub overflow_sub-k : goal.overflow_sub-k
overflow_sub-k c =
    (filled.inside c.args.g c.args.k c.requires.1 c.if-k-g.true).0

pub want-requires : goal.want-requires
want-requires c =
    let w = filled.inside c.args.g c.args.k c.requires.1 c.if-k-g.true in
    (omega (arith, w.0, w.1), c.requires.0, rw (lt-leb c.args.g.count c.args.k c.if-k-g.true) at c.requires.2)
