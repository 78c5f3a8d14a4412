-- `fields::is_second` meets its contract: a file of less than five bytes has no version. Assumes nothing.
use native.Mathlib.Omega.{arith}
use Rattle.fields.proofs.Editions.{edition_short}
use Rattle.fields.proofs.is_second.Goals as goal

pub returns-then-f-lt5 : goal.returns-then-f-lt5
returns-then-f-lt5 c = edition_short c.args.f.now c.if-f-lt5.true

pub says_second-requires : goal.says_second-requires
says_second-requires c = omega (arith, c.if-f-lt5.false)

pub returns : goal.returns
returns c = c.says_second.ensures
