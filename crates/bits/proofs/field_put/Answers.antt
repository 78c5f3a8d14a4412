-- `bits::field_put` meets its contract. Assumes nothing.
use Prim.Native.Nat.{ℕ, ◌*◌, ◌%◌}
use native.Mathlib.Omega.{arith}
use mathlib.Core.Path.{subst}
use Rattle.bits.specs.Bits.{PutIs}
use Rattle.bits.proofs.Fields.{few_bits, put_stored}
use Rattle.bits.proofs.field_put.Goals as goal

pub overflow_mul-at : goal.overflow_mul-at
overflow_mul-at c =
    let a = c.args in
    let p = c.requires in
    record { fits = omega (arith, few_bits a.i a.w p.1 p.0) }

pub returns : goal.returns
returns c =
    let a = c.args in
    let p = c.requires in
    let put = subst (λ (x : ℕ). PutIs x (a.i * a.w % 8) a.w a.v c.with_bits-y.result) c.two_at.ensures.0 c.with_bits-y.ensures.0 in
    put_stored a.w p.0 a.s.now (λ b. (c.slice_known-1.given b).fits) a.i a.v c.with_bits-y.result p.2 c.with_bits-y.ensures.1 put
