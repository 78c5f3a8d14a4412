-- `lines::byte_at` meets its contract: two digits make a byte. Assumes nothing.
use Rattle.lines.proofs.Digits.{first_odd, digit_small, no_high, no_low, two_digits}
use native.Mathlib.Omega.{arith}
use Rattle.lines.proofs.byte_at.Goals as goal

pub returns-then-next-digits : goal.returns-then-next-digits
returns-then-next-digits c = first_odd c.args.digits.now c.args.at (omega arith) (omega arith)

pub returns-in_err-high : goal.returns-in_err-high
returns-in_err-high c = rw c.from_residual.ensures (no_high c.args.digits.now c.args.at (omega arith) c.in_err-high.ensures)

pub returns-in_err-low : goal.returns-in_err-low
returns-in_err-low c =
    rw c.from_residual-in_err-low.ensures (no_low c.args.digits.now c.args.at (omega arith) _ c.in_ok-high.ensures c.in_err-low.ensures)

pub overflow_mul-result : goal.overflow_mul-result
overflow_mul-result c = omega (arith, digit_small _ _ c.in_ok-high.ensures, digit_small _ _ c.in_ok-low.ensures)

pub overflow_add-result : goal.overflow_add-result
overflow_add-result c = omega (arith, digit_small _ _ c.in_ok-high.ensures, digit_small _ _ c.in_ok-low.ensures)

pub returns : goal.returns
returns c = two_digits c.args.digits.now c.args.at (omega arith) _ _ c.in_ok-high.ensures c.in_ok-low.ensures
