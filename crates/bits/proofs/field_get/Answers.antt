-- `bits::field_get` meets its contract. Assumes nothing.
use native.Mathlib.Omega.{arith}
use Rattle.bits.proofs.Fields.{few_bits, field_is, field_lt}
use Rattle.bits.proofs.field_get.Goals as goal

pub overflow_mul-at : goal.overflow_mul-at
overflow_mul-at c =
    let a = c.args in
    let p = c.requires in
    record { fits = omega (arith, few_bits a.i a.w p.1 p.0) }

pub returns : goal.returns
returns c =
    let a = c.args in
    let w = c.requires.0 in
    (field_is a.w w a.s.now a.i c.two_at-x.result c.two_at-x.ensures.0, field_lt a.w w a.s.now a.i c.two_at-x.result)
