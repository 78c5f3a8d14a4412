-- Ranges of opcodes. Assumes nothing.
use Prim.Native.Nat.{ℕ, ◌<◌, ◌≤◌}
use native.Mathlib.Omega.{arith}
use native.Mathlib.Decide.{dec_le, ℕ_discrete}
use mathlib.Core.Path.{◌≡◌, sym, ◌∙◌}
use mathlib.Core.Bool.{true, false, and-false}
use lib.Dec.{leb, eqb}
use borrow.Author.Tests.{eq-eqb, ne_eqb, le-leb, lt-leb}
use Rattle.rules.specs.Bytes.{within}

-- a range of opcodes, by the order
pub out_below : (lo hi n : ℕ) → n < lo → within lo hi n ≡ false
out_below lo hi n h = rw (lt-leb lo n h)

pub out_above : (lo hi n : ℕ) → hi < n → within lo hi n ≡ false
out_above lo hi n h = rw (lt-leb n hi h) (and-false (leb lo n))

pub in_range : (lo hi n : ℕ) → lo ≤ n → n ≤ hi → within lo hi n ≡ true
in_range lo hi n a b = rw (le-leb lo n a, le-leb n hi b)

-- a range of one opcode
pub one_is : (k n : ℕ) → within k k n ≡ eqb n k
one_is k n = elim (ℕ_discrete n k) [
  | yes e ↦ in_range k k n (omega arith) (omega arith) ∙ sym (eq-eqb n k e)
  | no e ↦ elim (dec_le n k) [
    | yes h ↦ out_below k k n (omega arith) ∙ sym (ne_eqb n k e)
    | no h ↦ out_above k k n (omega arith) ∙ sym (ne_eqb n k e)
  ]
]
