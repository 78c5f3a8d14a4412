-- `bits::with_bits` meets its contract. Assumes nothing.
use mathlib.Core.Path.{sym, subst}
use native.Mathlib.Omega.{arith}
use Rattle.bits.specs.Bits.{PutIs}
use Rattle.bits.proofs.Fields as fields
use Rattle.bits.proofs.with_bits.Goals as goal

pub overflow_add-result : goal.overflow_add-result
overflow_add-result c =
    let a = c.args in
    let p = c.requires in
    record {
      fits = omega (
        arith,
        fields.upper_is a.x a.r a.w a.v p.0 p.1 p.2 p.3,
        fields.upper_few a.x a.r a.w a.v
            p.0 p.1 p.2 p.3,
      );
    }

pub nonzero_rem-result : goal.nonzero_rem-result
nonzero_rem-result c = fields.power_some c.args.r (omega (arith, c.requires.1))

pub overflow_add-result-2 : goal.overflow_add-result-2
overflow_add-result-2 c =
    let a = c.args in
    let p = c.requires in
    record {
      fits = omega (
        arith,
        fields.both_is a.x a.r a.w a.v p.0 p.1 p.2 p.3,
        fields.both_lt a.x a.r a.w a.v
            p.0 p.1 p.2 p.3,
      );
    }

pub returns : goal.returns
returns c =
    let a = c.args in
    let p = c.requires in
    let e = fields.both_is a.x a.r a.w a.v p.0 p.1 p.2 p.3 in
    let put = fields.put_is a.x a.r a.w a.v p.0 p.1 p.2 p.3 in
    (subst (PutIs a.x a.r a.w a.v) (sym e) put, omega (arith, e, fields.both_lt a.x a.r a.w a.v p.0 p.1 p.2 p.3))
