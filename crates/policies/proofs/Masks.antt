-- A set of numbers below 64 as the digits of a mask: what one number more does. Assumes nothing.
use Prim.Native.Nat.{ℕ, suc, ◌+◌, ◌-◌, ◌*◌, ◌/◌, ◌%◌, ◌^◌, ◌<◌}
use native.Mathlib.Omega.{arith}
use native.Mathlib.Decide.{ℕ_discrete, dec_le}
use native.Mathlib.Nat.{zero-div}
use mathlib.Core.Path.{◌≡◌, refl, ◌∙◌, ap}
use mathlib.Core.Bool.{Bool, true, false, ◌||◌}
use lib.Dec.{eqb}
use lib.Bits.{bit_or, or_shr, or_mod, or_zero_r, shifted_even}
use lib.Pow.{pow-add, pow-lt, shl_exact, shl-shr, high}
use borrow.Author.Tests.{eq-eqb, eqb-true, eqb-false}
use Rattle.policies.specs.Rows.{has_bit, with_bit}

-- the digits of a power of 2: one is 1
digit_same : (k : ℕ) → 2 ^ k / 2 ^ k % 2 ≡ 1
digit_same k =
    let e : 2 ^ k ≡ 1 * 2 ^ k = omega arith in
    let d : 2 ^ k / 2 ^ k ≡ 1 = ap (λ (x : ℕ). x / 2 ^ k) e ∙ shl-shr 1 k in rw d

digit_other : (k j : ℕ) → (k ≡ j → ⊥) → 2 ^ k / 2 ^ j % 2 ≡ 0
digit_other k j n = elim (dec_le k j) [
  | yes h ↦
      let l : k < j = omega (arith, n) in
      let e : 2 ^ k ≡ 0 * 2 ^ j + 2 ^ k = omega arith in
      let d : 2 ^ k / 2 ^ j ≡ 0 = ap (λ (x : ℕ). x / 2 ^ j) e ∙ high 0 j (pow-lt l) in rw d
  | no h ↦
      let e : k ≡ suc (k - j - 1) + j = omega arith in
      let p = ap (λ (x : ℕ). x / 2 ^ j) (pow-add 2 (suc (k - j - 1)) j) in
      let d : 2 ^ k / 2 ^ j ≡ 2 ^ suc (k - j - 1) = ap (λ (x : ℕ). 2 ^ x / 2 ^ j) e ∙ p ∙ shl-shr (2 ^ suc (k - j - 1)) j in
      let o : 2 ^ suc (k - j - 1) ≡ 1 * 2 ^ suc (k - j - 1) = omega arith in
      rw d (ap (λ (x : ℕ). x % 2) o ∙ shifted_even 1 (k - j - 1))
]

-- the last digit of two numbers joined
odd_join : (a b : ℕ) → b % 2 ≡ 1 → bit_or a b % 2 ≡ 1
odd_join a b e = or_mod a b 1 ∙ rw e (elim (ℕ_discrete (a % 2) 0) [ yes h ↦ rw h | no h ↦ let z : a % 2 ≡ 1 = omega (arith, h) in rw z ])

even_join : (a b : ℕ) → b % 2 ≡ 0 → bit_or a b % 2 ≡ a % 2
even_join a b e = or_mod a b 1 ∙ rw e (or_zero_r (a % 2))

-- one number more
pub bit_more : (m n j : ℕ) → n < 64 → j < 64 → has_bit (with_bit m n) j ≡ (eqb n j || has_bit m j)
unfolding has_bit with_bit
bit_more m n j hn hj =
    let p : n % 64 ≡ n = omega arith in
    let q : j % 64 ≡ j = omega arith in
    rw (p, q) (go (eqb n j) refl)
  where
    go : (b : Bool) → eqb n j ≡ b → eqb (bit_or m (2 ^ n) / 2 ^ j % 2) 1 ≡ (b || eqb (m / 2 ^ j % 2) 1)
    go true e = let s = eqb-true n j e in eq-eqb _ 1 (ap (λ (x : ℕ). x % 2) (or_shr m (2 ^ n) j) ∙ odd_join (m / 2 ^ j) (2 ^ n / 2 ^ j) (rw s (digit_same j)))
    go false e =
        ap (λ (x : ℕ). eqb x 1) (ap (λ (x : ℕ). x % 2) (or_shr m (2 ^ n) j) ∙ even_join (m / 2 ^ j) (2 ^ n / 2 ^ j) (digit_other n j (eqb-false n j e)))

-- a bit is a number below 64
pub bit_of_lem : (m n : ℕ) → with_bit m n ≡ with_bit m (n % 64)
unfolding with_bit
bit_of_lem m n = let e : n % 64 % 64 ≡ n % 64 = omega arith in rw e

-- no number
pub bit_none : (j : ℕ) → has_bit 0 j ≡ false
unfolding has_bit
bit_none j = let e : 0 / 2 ^ (j % 64) ≡ 0 = zero-div (2 ^ (j % 64)) in rw e

-- a shift that loses nothing
pub one_shifted : (n : ℕ) → n < 64 → (1 * 2 ^ n) % 2 ^ 64 ≡ 2 ^ n
one_shifted n h =
    let e : 1 * 2 ^ n ≡ 2 ^ n = omega arith in
    shl_exact 1 n 64 (omega arith) (omega arith) ∙ e
