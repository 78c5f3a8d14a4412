-- `bits::get` meets its contract. Assumes nothing.
use Prim.Native.Nat.{◌%◌, ◌^◌}
use native.Mathlib.Omega.{arith}
use Rattle.bits.proofs.Bits.{power_is, bit_is_test}
use Rattle.bits.proofs.get.Goals as goal

pub returns : goal.returns
returns c =
    let a = c.args in
    bit_is_test a.s.now a.i (2 ^ (a.i % 8)) (power_is (a.i % 8) (omega arith))
