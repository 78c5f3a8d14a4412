-- Whether each bit of one set is set in another, byte by byte. Assumes nothing.
use Prim.Native.Nat.{ℕ, ◌+◌, ◌*◌, ◌/◌, ◌%◌, ◌<◌, ◌≤◌, min}
use native.Mathlib.Omega.{arith}
use native.Mathlib.Decide.{dec_lt}
use mathlib.Core.Path.{◌≡◌, sym, ap, ◌∙◌, subst}
use mathlib.Core.Bool.{Bool, true, false}
use mathlib.Core.List.{List}
use lib.Bits.{bit_and}
use lib.Dec.{T}
use lib.ListN.{length, get_or, get_or-eq_default}
use borrow.Author.Tests.{eqb-true, eq-eqb, ne_eqb}
use Rattle.bits.specs.Bits.{flag, bit_at, WithinIs}
use Rattle.bits.proofs.Digits.{digit, digit_two, flag_digit, and_digit, and_changes}
use Rattle.bits.proofs.Bits.{zero_bit}

no_true : false ≡ true → ⊥
no_true e = subst (λ (b : Bool). T b) (sym e) tt

-- a bit by its byte
bit_flag : (s : List ℕ) (j : ℕ) → bit_at s j ≡ true → flag (get_or s (j / 8) 0) (j % 8) ≡ 1
unfolding bit_at
bit_flag s j e = eqb-true _ 1 e

flag_bit : (s : List ℕ) (j : ℕ) → flag (get_or s (j / 8) 0) (j % 8) ≡ 1 → bit_at s j ≡ true
unfolding bit_at
flag_bit s j e = eq-eqb _ 1 e

flag_no_bit : (s : List ℕ) (j : ℕ) → flag (get_or s (j / 8) 0) (j % 8) ≡ 0 → bit_at s j ≡ false
unfolding bit_at
flag_no_bit s j e = ne_eqb (flag (get_or s (j / 8) 0) (j % 8)) 1 (λ z. omega (arith, e, z))

-- so many bytes are within
abbrev pub WithinTo : List ℕ → List ℕ → ℕ → Type 0
WithinTo a b i = (j : ℕ) → j / 8 < i → bit_at a j ≡ true → bit_at b j ≡ true

module _ (a b : List ℕ) (i : ℕ) where
  pub within_more : WithinTo a b i → bit_and (get_or a i 0) (get_or b i 0) ≡ get_or a i 0 → WithinTo a b (i + 1)
  within_more w e j h on = elim (dec_lt (j / 8) i) [
    | yes k ↦ w j k on
    | no k ↦
        let q : j / 8 ≡ i = omega (arith, k) in
        let f : flag (get_or a i 0) (j % 8) ≡ 1 = rw q at (bit_flag a j on) in
        let m : digit (get_or a i 0) (j % 8) ≡ min (digit (get_or a i 0) (j % 8)) (digit (get_or b i 0) (j % 8)) =
        ap (λ (n : ℕ). digit n (j % 8)) (sym e) ∙ and_digit (j % 8) (get_or a i 0) (get_or b i 0) in
        let d : digit (get_or a i 0) (j % 8) ≡ 1 = sym (flag_digit (get_or a i 0) (j % 8) (omega arith)) ∙ f in
        let two = digit_two (get_or b i 0) (j % 8) in
        let g : digit (get_or b i 0) (j % 8) ≡ 1 = omega arith in
        flag_bit b j (rw q (flag_digit (get_or b i 0) (j % 8) (omega arith) ∙ g))
  ]

  pub within_not : get_or a i 0 < 256 → (bit_and (get_or a i 0) (get_or b i 0) ≡ get_or a i 0 → ⊥) → WithinIs a b false
  within_not h ne =
      let r = and_changes 8 (get_or a i 0) (get_or b i 0) h ne in
      let k = r.0 in
      let byte : (i * 8 + k) / 8 ≡ i = omega (arith, r.1) in
      let bit : (i * 8 + k) % 8 ≡ k = omega (arith, r.1) in (
        i * 8 + k,
        flag_bit a (i * 8 + k) (rw (byte, bit) (flag_digit (get_or a i 0) k r.1 ∙ r.2)),
        flag_no_bit b (i * 8 + k) (rw (byte, bit) (flag_digit (get_or b i 0) k r.1 ∙ r.3)),
      )

  pub within_all : length a ≤ i → WithinTo a b i → WithinIs a b true
  within_all h w j on = elim (dec_lt (j / 8) i) [
    | yes k ↦ w j k on
    | no k ↦ let z : false ≡ true = sym (zero_bit a j (get_or-eq_default a 0 (omega (arith, h, k)))) ∙ on in absurd (no_true z)
  ]
