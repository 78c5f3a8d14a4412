-- `store::size_ok` is question 1: the two tests of the length are the definition's. Assumes nothing.
use Rattle.rules.specs.Questions.{q1_size}
use native.Mathlib.Omega.{arith}
use lib.ListN.{length}
use borrow.Author.Tests.{le-leb, lt-leb}
use Rattle.store.proofs.size_ok.Goals as goal

pub returns-then-s-lt64 : goal.returns-then-s-lt64
unfolding q1_size
returns-then-s-lt64 c = rw (lt-leb 64 (length c.args.s.now) c.if-s-lt64.true)

pub returns : goal.returns
unfolding q1_size
returns c = rw (le-leb 64 (length c.args.s.now) (omega arith))
