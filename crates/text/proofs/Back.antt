-- The digits of a figure read back: they stand for the figure, each is one of 0 to 9, and none stands in front that says nothing. Assumes nothing.
use Prim.Native.Nat.{ℕ, zero, suc, ◌+◌, ◌-◌, ◌*◌, ◌/◌, ◌%◌, ◌^◌, ◌≤◌, ◌<◌}
use native.Mathlib.Omega.{arith}
use mathlib.Core.Path.{◌≡◌, refl, ◌∙◌, ap}
use mathlib.Core.Bool.{Bool, true, false}
use mathlib.Core.List.{[], ◌∷◌, ◌++◌}
use borrow.Author.Tests.{le-leb, ltb-true, ltb-false}
use lib.Dec.{T, ltb}
use Rattle.rules.specs.Bytes.{Bytes, pick, all, within}
use Rattle.rules.proofs.Tests.{and_l, and_r, and_i}
use Rattle.text.specs.Text.{digit, digits_up_to, decimal, value_from, value}
use Rattle.text.proofs.Digits.{power}

-- one digit more at the end
pub value_last : (n : ℕ) (ds : Bytes) (d : ℕ) → value_from n (ds ++ d ∷ []) ≡ value_from n ds * 10 + (d - 0x30)
value_last n [] d = refl
value_last n (c ∷ cs) d = value_last (n * 10 + (c - 0x30)) cs d

-- the digits in front of the last one, and it
value_digits : (k n : ℕ) → n < 10 ^ suc k → value (digits_up_to k n) ≡ n
value_digits zero n h = omega arith
value_digits (suc k) n h = go (ltb n 10) refl (value_digits k (n / 10) (omega (arith, h, power (suc k))))
  where
    go : (b : Bool) → ltb n 10 ≡ b → value (digits_up_to k (n / 10)) ≡ n / 10 → value (pick b [] (digits_up_to k (n / 10)) ++ digit (n % 10) ∷ []) ≡ n
    go true e r = let small = ltb-true n 10 e in omega arith
    go false e r = value_last 0 (digits_up_to k (n / 10)) (digit (n % 10)) ∙ rw r (omega arith)

pub value_decimal : (n : ℕ) → n < 10 ^ 20 → value (decimal n) ≡ n
unfolding decimal
value_decimal n h = value_digits 19 n h

-- each is a digit
digit_within : (n : ℕ) → T (within 0x30 0x39 (digit (n % 10)))
digit_within n = rw (le-leb 0x30 (digit (n % 10)) (omega arith), le-leb (digit (n % 10)) 0x39 (omega arith)) tt

all_last : (p : ℕ → Bool) (ds : Bytes) (d : ℕ) → T (all p ds) → T (p d) → T (all p (ds ++ d ∷ []))
all_last p [] d h k = and_i (p d) true k tt
all_last p (c ∷ cs) d h k = and_i (p c) (all p (cs ++ d ∷ [])) (and_l (p c) (all p cs) h) (all_last p cs d (and_r (p c) (all p cs) h) k)

digits_within : (k n : ℕ) → T (all (within 0x30 0x39) (digits_up_to k n))
digits_within zero n = all_last (within 0x30 0x39) [] (digit (n % 10)) tt (digit_within n)
digits_within (suc k) n = all_last (within 0x30 0x39) (pick (ltb n 10) [] (digits_up_to k (n / 10))) (digit (n % 10))
    (go (ltb n 10) (digits_within k (n / 10))) (digit_within n)
  where
    go : (b : Bool) → T (all (within 0x30 0x39) (digits_up_to k (n / 10))) → T (all (within 0x30 0x39) (pick b [] (digits_up_to k (n / 10))))
    go true r = tt
    go false r = r

pub decimal_within : (n : ℕ) → T (all (within 0x30 0x39) (decimal n))
unfolding decimal
decimal_within n = digits_within 19 n

-- a 0 in front stands alone, for 0
zero_alone : (k n : ℕ) → n < 10 ^ suc k → (ds : Bytes) → digits_up_to k n ≡ 0x30 ∷ ds → (n ≡ 0) × (ds ≡ [])
zero_alone zero n h ds e = let d : digit (n % 10) ≡ 0x30 = cc in (omega arith, cc)
zero_alone (suc k) n h ds e =
    let rest : n / 10 < 10 ^ suc k = omega (arith, h, power (suc k)) in
    go (ltb n 10) refl e (value_digits k (n / 10) rest) (zero_alone k (n / 10) rest)
  where
    behind : (xs : Bytes) → value xs ≡ n / 10 → 10 ≤ n → xs ++ digit (n % 10) ∷ [] ≡ 0x30 ∷ ds → ((cs : Bytes) → xs ≡ 0x30 ∷ cs → n / 10 ≡ 0) →
        (n ≡ 0) × (ds ≡ [])
    behind [] x large q rec = absurd (omega (arith, x))
    behind (c ∷ cs) x large q rec =
        let f : c ≡ 0x30 = cc in
        let z = rec cs (ap (λ (b : ℕ). b ∷ cs) f) in
        absurd (omega (arith, z))

    go : (b : Bool) → ltb n 10 ≡ b → pick b [] (digits_up_to k (n / 10)) ++ digit (n % 10) ∷ [] ≡ 0x30 ∷ ds → value (digits_up_to k (n / 10)) ≡ n / 10 →
        ((cs : Bytes) → digits_up_to k (n / 10) ≡ 0x30 ∷ cs → (n / 10 ≡ 0) × (cs ≡ [])) → (n ≡ 0) × (ds ≡ [])
    go true s q x rec = let d : digit (n % 10) ≡ 0x30 = cc in let small = ltb-true n 10 s in (omega arith, cc)
    go false s q x rec = behind (digits_up_to k (n / 10)) x (ltb-false n 10 s) q (λ cs c. (rec cs c).0)

pub decimal_zero : (n : ℕ) → n < 10 ^ 20 → (ds : Bytes) → decimal n ≡ 0x30 ∷ ds → (n ≡ 0) × (ds ≡ [])
unfolding decimal
decimal_zero n h = zero_alone 19 n h
