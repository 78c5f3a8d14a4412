-- `refusals::first_no` meets its contract: no refusal stands behind every other answer. Assumes nothing.
use native.Mathlib.Omega.{arith}
use mathlib.Core.Path.{sym, ap, ◌∙◌}
use Rattle.refusals.specs.Order.{first_of}
use Rattle.refusals.proofs.Order.{first_left, first_right, first_zero}
use Rattle.refusals.proofs.first_no.Goals as goal

pub returns-then-b-eq0 : goal.returns-then-b-eq0
returns-then-b-eq0 c = let a = c.args in sym (ap (first_of a.a) c.if-b-eq0.true ∙ first_zero a.a)

pub returns-then-rank : goal.returns-then-rank
returns-then-rank c =
    let a-told = c.args in
    let a = a-told in sym (first_right a.a a.b (omega arith))

pub returns-else-rank : goal.returns-else-rank
returns-else-rank c =
    let a-told = c.args in
    let a = a-told in sym (first_left a.a a.b (omega arith))
