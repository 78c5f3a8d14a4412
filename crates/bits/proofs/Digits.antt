-- The bits of a byte one by one, those of `|` and `&` of two bytes, and where one byte's bits are all bits of another. Assumes nothing.
--
-- digit w k == bit k of the number w, 0 or 1
use Prim.Native.Nat.{ℕ, zero, suc, ◌+◌, ◌*◌, ◌/◌, ◌%◌, ◌^◌, ◌<◌, min, max}
use native.Mathlib.Omega.{arith}
use native.Mathlib.Nat.{pow-suc}
use native.Mathlib.Decide.{ℕ_discrete}
use mathlib.Core.Path.{◌≡◌, refl, ap, ◌∙◌}
use lib.Bits.{bit_and, bit_or, and_step, or_step}
use Rattle.bits.specs.Bits.{power_of, flag}

abbrev pub digit : ℕ → ℕ → ℕ
digit w zero = w % 2
digit w (suc k) = digit (w / 2) k

pub digit_two : (w k : ℕ) → digit w k < 2
digit_two w zero = omega arith
digit_two w (suc k) = digit_two (w / 2) k

pub flag_digit : (w k : ℕ) → k < 8 → flag w k ≡ digit w k
unfolding power_of
flag_digit w zero h = omega arith
flag_digit w (suc zero) h = omega arith
flag_digit w (suc (suc zero)) h = omega arith
flag_digit w (suc (suc (suc zero))) h = omega arith
flag_digit w (suc (suc (suc (suc zero)))) h = omega arith
flag_digit w (suc (suc (suc (suc (suc zero))))) h = omega arith
flag_digit w (suc (suc (suc (suc (suc (suc zero)))))) h = omega arith
flag_digit w (suc (suc (suc (suc (suc (suc (suc zero))))))) h = omega arith
flag_digit w (suc (suc (suc (suc (suc (suc (suc (suc k)))))))) h = absurd (omega arith)

-- the lowest digit and the others of a number made of both
module _ (x d : ℕ) (h : d < 2) where
  pub low_digit : (n : ℕ) → n ≡ x * 2 + d → n % 2 ≡ d
  low_digit n e = omega arith

  pub high_digits : (n : ℕ) → n ≡ x * 2 + d → n / 2 ≡ x
  high_digits n e = omega arith

pub or_digit : (k a b : ℕ) → digit (bit_or a b) k ≡ max (digit a k) (digit b k)
or_digit zero a b = low_digit (bit_or (a / 2) (b / 2)) (max (a % 2) (b % 2)) (omega arith) (bit_or a b) (or_step a b)
or_digit (suc k) a b =
    ap (λ (n : ℕ). digit n k) (high_digits (bit_or (a / 2) (b / 2)) (max (a % 2) (b % 2)) (omega arith) (bit_or a b) (or_step a b)) ∙ or_digit k (a / 2) (b / 2)

pub and_digit : (k a b : ℕ) → digit (bit_and a b) k ≡ min (digit a k) (digit b k)
and_digit zero a b = low_digit (bit_and (a / 2) (b / 2)) (min (a % 2) (b % 2)) (omega arith) (bit_and a b) (and_step a b)
and_digit (suc k) a b =
    ap (λ (n : ℕ). digit n k) (high_digits (bit_and (a / 2) (b / 2)) (min (a % 2) (b % 2)) (omega arith) (bit_and a b) (and_step a b)) ∙ and_digit k (a / 2)
    (b / 2)

-- where `&` with another number changes a number of n digits, a digit of it is not one of the other
pub and_changes : (n a b : ℕ) → a < 2 ^ n → (bit_and a b ≡ a → ⊥) → (k : ℕ) × (k < n) × (digit a k ≡ 1) × (digit b k ≡ 0)
and_changes zero a b h ne = let e : a ≡ 0 = omega arith in absurd (ne (rw e refl))
and_changes (suc n) a b h ne = elim (ℕ_discrete (min (a % 2) (b % 2)) (a % 2)) [
  | yes e ↦
      let half : a / 2 < 2 ^ n = omega (arith, h, pow-suc 2 n) in
      let r = and_changes n (a / 2) (b / 2) half (λ q. ne (and_step a b ∙ omega (arith, q, e))) in
      (suc r.0, omega (arith, r.1), r.2, r.3)
  | no d ↦ (0, omega arith, omega (arith, d), omega (arith, d))
]
