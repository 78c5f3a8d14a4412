-- The digits of a figure: those of `io::decimal` are the definition's, there are as few as its size needs, and they read back. Assumes nothing.
use Prim.Native.Nat.{ℕ, zero, suc, ◌-◌, ◌*◌, ◌/◌, ◌%◌, ◌^◌, ◌≤◌, ◌<◌}
use native.Mathlib.Omega.{arith}
use native.Mathlib.Numerals.{unary_clauses}
use mathlib.Core.Path.{◌≡◌, refl, sym, ap, subst}
use mathlib.Core.Bool.{Bool, true, false}
use mathlib.Core.List.{[], ◌∷◌, ◌++◌}
use borrow.Author.Tests.{lt-ltb, le-ltb}
use lib.Dec.{ltb}
use lib.ListN.{length, length-append}
use Rattle.io.specs.Digits.{hex_digit_ascii, last_digits, IsDigitCount}
use Rattle.rules.specs.Bytes.{pick}
use Rattle.text.specs.Text.{digit, digits_up_to, decimal}

-- a power of ten is ten of the one before
pub power : (k : ℕ) → 10 ^ suc k ≡ 10 * 10 ^ k
power k = let e : 10 ^ suc k ≡ 10 ^ k * 10 = simp unary_clauses refl in omega (arith, e)

-- there is no power of ten below 1
power_some : (k : ℕ) → 1 ≤ 10 ^ k
power_some zero = omega arith
power_some (suc k) = let h = power_some k in omega (arith, power k)

-- a figure that needs more than one digit
one_less : (k : ℕ) → k ≡ suc k - 1
one_less k = omega arith

least : (k n : ℕ) → IsDigitCount 10 1 n (suc (suc k)) → 10 ^ suc k ≤ n
least k n e = subst (λ (j : ℕ). 10 ^ j ≤ n) (sym (one_less (suc k))) (e.2 (omega arith))

ten_least : (k n : ℕ) → IsDigitCount 10 1 n (suc (suc k)) → 10 ≤ n
ten_least k n e = omega (arith, least k n e, power k, power_some k)

-- the last digit
last_digit : (n : ℕ) → hex_digit_ascii (n % 10) ≡ digit (n % 10)
last_digit n = rw (lt-ltb (n % 10) 10 (omega arith))

-- the fewest digits that hold a figure are its digits
pub fewest_digits : (f k n : ℕ) → n < 10 ^ suc f → IsDigitCount 10 1 n k → last_digits 10 k n ≡ digits_up_to f n
fewest_digits f zero n h e = absurd (omega (arith, e.0))
fewest_digits zero (suc zero) n h e = ap (λ (d : ℕ). d ∷ []) (last_digit n)
fewest_digits (suc f) (suc zero) n h e =
    let small : n < 10 = omega (arith, e.1) in
    rw (lt-ltb n 10 small) (ap (λ (d : ℕ). d ∷ []) (last_digit n))
fewest_digits zero (suc (suc k)) n h e = absurd (omega (arith, h, ten_least k n e))
fewest_digits (suc f) (suc (suc k)) n h e =
    let fewer : 10 ^ (suc k - 1) ≤ n / 10 = subst (λ (j : ℕ). 10 ^ j ≤ n / 10) (one_less k) (omega (arith, least k n e, power k)) in
    let rest : IsDigitCount 10 1 (n / 10) (suc k) = (omega arith, omega (arith, e.1, power (suc k)), λ _. fewer) in
    let others = fewest_digits f (suc k) (n / 10) (omega (arith, h, power (suc f))) rest in
    rw (le-ltb n 10 (ten_least k n e), others, last_digit n)

-- a figure below a power of ten has no more digits than that
pub digits_few : (f k n : ℕ) → n < 10 ^ suc k → length (digits_up_to f n) ≤ suc k
digits_few zero k n h = omega arith
digits_few (suc f) zero n h = let small : n < 10 = omega (arith, h) in rw (lt-ltb n 10 small) (omega arith)
digits_few (suc f) (suc k) n h = go (ltb n 10) (digits_few f k (n / 10) (omega (arith, h, power (suc k))))
  where
    go : (b : Bool) → length (digits_up_to f (n / 10)) ≤ suc k → length (pick b [] (digits_up_to f (n / 10)) ++ digit (n % 10) ∷ []) ≤ suc (suc k)
    go true r = omega arith
    go false r = omega (arith, r, length-append (digits_up_to f (n / 10)) (digit (n % 10) ∷ []))

-- there are at most twenty
digits_most : (f n : ℕ) → length (digits_up_to f n) ≤ suc f
digits_most zero n = omega arith
digits_most (suc f) n = go (ltb n 10) (digits_most f (n / 10))
  where
    go : (b : Bool) → length (digits_up_to f (n / 10)) ≤ suc f → length (pick b [] (digits_up_to f (n / 10)) ++ digit (n % 10) ∷ []) ≤ suc (suc f)
    go true r = omega arith
    go false r = omega (arith, r, length-append (digits_up_to f (n / 10)) (digit (n % 10) ∷ []))

pub decimal_most : (n : ℕ) → length (decimal n) ≤ 20
unfolding decimal
decimal_most n = digits_most 19 n

pub decimal_few : (k n : ℕ) → n < 10 ^ suc k → length (decimal n) ≤ suc k
unfolding decimal
decimal_few k n h = digits_few 19 k n h
