-- `policies::rows::with_bit` meets its contract: a power of 2 below the greatest is not cut off. Assumes nothing.
use Prim.Native.Nat.{◌%◌}
use native.Mathlib.Omega.{arith}
use mathlib.Core.Path.{ap}
use lib.Bits.{bit_or}
use Rattle.policies.specs.Rows.{with_bit}
use Rattle.policies.proofs.Masks.{one_shifted}
use Rattle.policies.proofs.rows.with_bit.Goals as goal

pub returns : goal.returns
unfolding with_bit
returns c = ap (bit_or c.args.m) (one_shifted (c.args.n % 64) (omega arith))
