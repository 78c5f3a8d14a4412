-- Two lists of bytes are the same where their words are: four or eight bytes as a number. Assumes nothing.
--
-- SameTo a b i  == the elements before i are the same
use Prim.Native.Nat.{ℕ, ◌+◌, ◌<◌}
use native.Mathlib.Omega.{arith}
use mathlib.Core.Path.{◌≡◌, refl, sym, ap}
use mathlib.Core.Bool.{Bool, true, false}
use lib.Dec.{eqb}
use lib.ListN.{length, get_or}
use lib.Seq.{ext_get_or}
use borrow.Author.Count.{below_more}
use borrow.Author.Tests.{eqb-true, eqb-false}
use Rattle.rules.specs.Bytes.{Bytes, same}
use Rattle.rules.specs.Code.{u4_at}
use Rattle.rules.proofs.Tests.{is_true, of_true, same_eq, same_refl}
use Rattle.fields.specs.Words.{eight_at, Octets}

abbrev pub SameTo : Bytes → Bytes → ℕ → Type 0
SameTo a b i = (k : ℕ) → k < i → get_or a k 0 ≡ get_or b k 0

-- a number of both differs
pub differ : (f : Bytes → ℕ) (a b : Bytes) → (f a ≡ f b → ⊥) → same a b ≡ false
differ f a b h = go (same a b) refl
  where
    go : (t : Bool) → same a b ≡ t → t ≡ false
    go true e = absurd (h (ap f (same_eq a b (of_true e))))
    go false e = refl

-- the same up to the end
pub same_all : (a b : Bytes) → length a ≡ length b → SameTo a b (length a) → same a b ≡ true
same_all a b n so = let e : a ≡ b = ext_get_or 0 a b n so in rw e (is_true _ (same_refl b))

-- a number of both decides, since all else is the same
pub decides : (f : Bytes → ℕ) (a b : Bytes) → length a ≡ length b → (f a ≡ f b → SameTo a b (length a)) → eqb (f a) (f b) ≡ same a b
decides f a b n so = go (eqb (f a) (f b)) refl
  where
    go : (t : Bool) → eqb (f a) (f b) ≡ t → t ≡ same a b
    go true e = sym (same_all a b n (so (eqb-true _ _ e)))
    go false e = sym (differ f a b (eqb-false _ _ e))

module _ (a b : Bytes) where
  next : (i j : ℕ) → j ≡ i → SameTo a b i → get_or a j 0 ≡ get_or b j 0 → SameTo a b (i + 1)
  next i j e so h = below_more (λ k. get_or a k 0 ≡ get_or b k 0) i so (rw e at h)

  module _ (oa : Octets a) (ob : Octets b) (i : ℕ) where
    pub same_four : SameTo a b i → u4_at a i ≡ u4_at b i → SameTo a b (i + 4)
    same_four so e =
        let a0 = oa i in
        let a1 = oa (i + 1) in
        let a2 = oa (i + 2) in
        let a3 = oa (i + 2 + 1) in
        let b0 = ob i in
        let b1 = ob (i + 1) in
        let b2 = ob (i + 2) in
        let b3 = ob (i + 2 + 1) in
        let s1 = next i i refl so (omega arith) in
        let s2 = next (i + 1) (i + 1) refl s1 (omega arith) in
        let s3 = next (i + 1 + 1) (i + 2) (omega arith) s2 (omega arith) in
        let s4 = next (i + 1 + 1 + 1) (i + 2 + 1) (omega arith) s3 (omega arith) in
        λ k h. s4 k (omega arith)

    u4_fits : (u4_at a i < 4294967296) × (u4_at b i < 4294967296)
    u4_fits = (omega (arith, oa i, oa (i + 1), oa (i + 2), oa (i + 2 + 1)), omega (arith, ob i, ob (i + 1), ob (i + 2), ob (i + 2 + 1)))

  pub same_eight : Octets a → Octets b → (i : ℕ) → SameTo a b i → eight_at a i ≡ eight_at b i → SameTo a b (i + 8)
  same_eight oa ob i so e =
      let first = u4_fits oa ob i in
      let second = u4_fits oa ob (i + 4) in
      let s4 = same_four oa ob i so (omega arith) in
      let s8 = same_four oa ob (i + 4) s4 (omega arith) in
      λ k h. s8 k (omega arith)
