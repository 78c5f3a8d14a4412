-- Digits and bytes of two digits: the definitions by the tests that the code makes. Assumes nothing.
use Prim.Native.Nat.{ℕ, suc, ◌+◌, ◌-◌, ◌*◌, ◌<◌}
use native.Mathlib.Omega.{arith}
use native.Mathlib.Numerals.{add-one}
use mathlib.Core.Path.{◌≡◌, refl, sym}
use mathlib.Core.Bool.{Bool, true, false, ◌&&◌}
use mathlib.Core.Option.{none, some, some-injective}
use lib.Dec.{leb}
use lib.ListN.{length, drop, get_or, drop_of_length-le}
use lib.Seq.{drop-cons}
use borrow.Author.Tests.{leb-true}
use Rattle.rules.specs.Bytes.{Bytes, pick}
use Rattle.rules.proofs.Tests.{none_some}
use Rattle.lines.specs.Line.{digit, byte_of}
use Rattle.lines.specs.Results.{first_byte}

-- a digit is below 16
pub digit_small : (c n : ℕ) → some n ≡ digit c → n < 16
unfolding digit
digit_small c n e = go (leb 48 c) refl (leb c 57) refl (leb 65 c) refl (leb c 70) refl e
  where
    go : (b₁ : Bool) → leb 48 c ≡ b₁ → (b₂ : Bool) → leb c 57 ≡ b₂ → (b₃ : Bool) → leb 65 c ≡ b₃ → (b₄ : Bool) → leb c 70 ≡ b₄ →
        some n ≡ pick (b₁ && b₂) (some (c - 48)) (pick (b₃ && b₄) (some (c - 65 + 10)) none) → n < 16
    go true h₁ true h₂ b₃ h₃ b₄ h₄ q =
        let z : n ≡ c - 48 = some-injective _ _ q in omega (arith, leb-true c 57 h₂)
    go false h₁ b₂ h₂ true h₃ true h₄ q =
        let z : n ≡ c - 65 + 10 = some-injective _ _ q in omega (arith, leb-true c 70 h₄)
    go true h₁ false h₂ true h₃ true h₄ q =
        let z : n ≡ c - 65 + 10 = some-injective _ _ q in omega (arith, leb-true c 70 h₄)
    go true h₁ false h₂ false h₃ b₄ h₄ q = absurd (none_some (sym q))
    go true h₁ false h₂ true h₃ false h₄ q = absurd (none_some (sym q))
    go false h₁ b₂ h₂ false h₃ b₄ h₄ q = absurd (none_some (sym q))
    go false h₁ b₂ h₂ true h₃ false h₄ q = absurd (none_some (sym q))

-- a single character is no byte
pub first_odd : (s : Bytes) (i : ℕ) → i < length s → i + 1 ≡ length s → none ≡ first_byte (drop i s)
first_odd s i h e = rw (drop-cons s i 0, drop_of_length-le s {i = suc i} (omega arith))

module _ (s : Bytes) (i : ℕ) (h : i + 1 < length s) where
  -- the first two characters
  first_two : first_byte (drop i s) ≡ byte_of (get_or s i 0) (get_or s (i + 1) 0)
  first_two = rw (drop-cons s i 0 (omega arith), drop-cons s (suc i) 0 (omega arith), add-one)

  -- no digit, no byte
  pub no_high : none ≡ digit (get_or s i 0) → none ≡ first_byte (drop i s)
  no_high e = rw (first_two, ← e)

  pub no_low : (x : ℕ) → some x ≡ digit (get_or s i 0) → none ≡ digit (get_or s (i + 1) 0) → none ≡ first_byte (drop i s)
  no_low x e f = rw (first_two, ← e, ← f)

  -- two digits, the high one first
  pub two_digits : (x y : ℕ) → some x ≡ digit (get_or s i 0) → some y ≡ digit (get_or s (i + 1) 0) → some (x * 16 + y) ≡ first_byte (drop i s)
  two_digits x y e f = rw (first_two, ← e, ← f)
