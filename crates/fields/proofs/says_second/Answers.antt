-- `fields::says_second` meets its contract: the version's low byte, then its high byte. Assumes nothing.
use native.Mathlib.Omega.{arith}
use Rattle.fields.proofs.Editions.{edition_other, edition_told}
use Rattle.fields.proofs.says_second.Goals as goal
use Rattle.fields.proofs.says_second.Goals.{Start}

pub bounds-f-4 : goal.bounds-f-4
bounds-f-4 c = omega (arith, c.requires)

pub returns-then-f-ne2 : goal.returns-then-f-ne2
returns-then-f-ne2 c = edition_other c.args.f.now c.if-f-ne2.true

pub bounds-f-3 : goal.bounds-f-3
bounds-f-3 c = omega (arith, c.requires)

pub returns : goal.returns
returns c =
    edition_told c.args.f.now c.if-f-ne2.false
