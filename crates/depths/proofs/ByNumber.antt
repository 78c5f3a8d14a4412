-- Loops over the elements of a list by their numbers: a test of all, a count, from element i on. Assumes nothing.
use Prim.Native.Nat.{ℕ, zero, suc, ◌+◌, ◌≤◌}
use native.Mathlib.Omega.{arith}
use native.Mathlib.Numerals.{add-one}
use mathlib.Core.Path.{◌≡◌, refl, sym, ◌∙◌, ap}
use mathlib.Core.Bool.{Bool, true, false, ◌&&◌, not}
use mathlib.Core.List.{List, [], ◌∷◌}
use mathlib.Core.Option.{none, some, some-injective}
use lib.Dec.{leb}
use lib.ListN.{length, drop}
use borrow.Author.Tests.{lt-leb}
use Rattle.rules.specs.Bytes.{pick, all, all_from, at, count}
use Rattle.rules.proofs.Tests.{none_some}

-- a test told by its opposite
pub not_true : (b : Bool) → not b ≡ true → b ≡ false
not_true true e = sym e
not_true false e = refl

pub not_false : (b : Bool) → not b ≡ false → b ≡ true
not_false true e = refl
not_false false e = sym e

module _ {A : Type 0} where
  -- the elements from a number on
  pub drop_at : (xs : List A) (i : ℕ) (x : A) → at xs i ≡ some x → drop i xs ≡ x ∷ drop (i + 1) xs
  drop_at [] i x e = absurd (none_some e)
  drop_at (y ∷ ys) zero x e = let z : y ≡ x = some-injective _ _ e in ap (λ (w : A). w ∷ ys) z
  drop_at (y ∷ ys) (suc i) x e = let z : suc i + 1 ≡ suc (i + 1) = omega arith in rw z (drop_at ys i x e)

  pub drop_end : (xs : List A) (i : ℕ) → length xs ≤ i → drop i xs ≡ []
  drop_end [] zero h = refl
  drop_end [] (suc i) h = refl
  drop_end (y ∷ ys) zero h = absurd (omega arith)
  drop_end (y ∷ ys) (suc i) h = drop_end ys i (omega arith)

  pub drop_none : (xs : List A) (i : ℕ) → at xs i ≡ none → drop i xs ≡ []
  drop_none [] zero e = refl
  drop_none [] (suc i) e = refl
  drop_none (y ∷ ys) zero e = absurd (none_some (sym e))
  drop_none (y ∷ ys) (suc i) e = drop_none ys i e

  pub at_end_lem : (xs : List A) (i : ℕ) → length xs ≤ i → at xs i ≡ none
  at_end_lem [] i h = refl
  at_end_lem (y ∷ ys) zero h = absurd (omega arith)
  at_end_lem (y ∷ ys) (suc i) h = at_end_lem ys i (omega arith)

  -- a test that takes no number
  pub all_from_lem : (p : A → Bool) (i : ℕ) (xs : List A) → all p xs ≡ all_from (λ j x. p x) i xs
  all_from_lem p i [] = refl
  all_from_lem p i (x ∷ xs) = ap (λ (b : Bool). p x && b) (all_from_lem p (suc i) xs)

-- all are tested, those from number i on are left
module _ {A : Type 0} (p : ℕ → A → Bool) (xs : List A) (i : ℕ) where
  abbrev pub Left : Type 0
  Left = all_from p 0 xs ≡ all_from p i (drop i xs)

  front : (x : A) → at xs i ≡ some x → all_from p i (drop i xs) ≡ (p i x && all_from p (i + 1) (drop (i + 1) xs))
  front x e = rw (drop_at xs i x e) (ap (λ (j : ℕ). p i x && all_from p j (drop (i + 1) xs)) (sym (add-one i)))

  pub left_more : (x : A) → at xs i ≡ some x → p i x ≡ true → Left → all_from p 0 xs ≡ all_from p (i + 1) (drop (i + 1) xs)
  left_more x e h t = t ∙ front x e ∙ ap (λ (b : Bool). b && all_from p (i + 1) (drop (i + 1) xs)) h

  pub left_bad : (x : A) → at xs i ≡ some x → p i x ≡ false → Left → all_from p 0 xs ≡ false
  left_bad x e h t = t ∙ front x e ∙ ap (λ (b : Bool). b && all_from p (i + 1) (drop (i + 1) xs)) h

  pub left_done : length xs ≤ i → Left → all_from p 0 xs ≡ true
  left_done h t = t ∙ ap (all_from p i) (drop_end xs i h)

  pub left_none : at xs i ≡ none → Left → all_from p 0 xs ≡ true
  left_none e t = t ∙ ap (all_from p i) (drop_none xs i e)

-- those counted, and those left
module _ {A : Type 0} (q : A → Bool) (xs : List A) (i n : ℕ) where
  abbrev pub Counting : Type 0
  Counting = count q xs ≡ n + count q (drop i xs)

  pub count_more : (x : A) → at xs i ≡ some x → Counting → count q xs ≡ n + pick (q x) 1 0 + count q (drop (i + 1) xs)
  count_more x e t = let z = ap (count q) (drop_at xs i x e) in go (q x) z
    where
      go : (b : Bool) → count q (drop i xs) ≡ pick b (suc (count q (drop (i + 1) xs))) (count q (drop (i + 1) xs)) → count q xs ≡ n + pick b 1 0 + count q
          (drop (i + 1) xs)
      go true z = omega (arith, t)
      go false z = omega (arith, t)

  pub count_done : length xs ≤ i → Counting → n ≡ count q xs
  count_done h t = let z : count q (drop i xs) ≡ 0 = ap (count q) (drop_end xs i h) in omega (arith, t)

-- none is counted exactly where each fails the test
pub none_counted : {A : Type 0} (q : A → Bool) (xs : List A) → all (λ x. not (q x)) xs ≡ leb (count q xs) 0
none_counted q [] = refl
none_counted q (x ∷ xs) = go (q x) (none_counted q xs)
  where
    go : (b : Bool) → all (λ x. not (q x)) xs ≡ leb (count q xs) 0 → (not b && all (λ x. not (q x)) xs) ≡ leb (pick b (suc (count q xs)) (count q xs)) 0
    go true h = sym (lt-leb (suc (count q xs)) 0 (omega arith))
    go false h = h
