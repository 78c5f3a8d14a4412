-- `refusals::rank` meets its contract: the rows of the list, one after the other. Assumes nothing.
use mathlib.Core.Path.{sym}
use Rattle.refusals.proofs.Order.{rank_16, rank_17, rank_24, rank_18, rank_19, rank_else}
use Rattle.refusals.proofs.rank.Goals as goal
use Rattle.refusals.proofs.rank.Goals.{Else-n-eq16, Else-n-eq17, Else-n-eq24}

pub returns-then-n-eq16 : goal.returns-then-n-eq16
returns-then-n-eq16 c = sym (rank_16 c.args.n c.if-n-eq16.true)

pub returns-then-n-eq17 : goal.returns-then-n-eq17
returns-then-n-eq17 c = sym (rank_17 c.args.n c.if-n-eq17.true)

pub returns-then-n-eq24 : goal.returns-then-n-eq24
returns-then-n-eq24 c =
    let a = c.args in
    sym (rank_24 a.n c.if-n-eq24.true)

pub returns-then-n-eq18 : goal.returns-then-n-eq18
returns-then-n-eq18 c =
    let a = c.args in
    sym (rank_18 a.n c.if-n-eq18.true)

pub returns-then-n-eq19 : goal.returns-then-n-eq19
returns-then-n-eq19 c =
    let a = c.args in
    sym (rank_19 a.n c.if-n-eq19.true)

pub returns : goal.returns
returns c =
    let a = c.args in
    sym (rank_else a.n c.if-n-eq16.false c.if-n-eq17.false c.if-n-eq24.false c.if-n-eq18.false c.if-n-eq19.false)
