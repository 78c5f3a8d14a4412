-- The order of AIDs is total. Assumes nothing.
use Prim.Native.Nat.{ℕ, ◌+◌, ◌<◌, ◌≤◌}
use native.Mathlib.Omega.{arith}
use mathlib.Core.Path.{◌≡◌, refl, sym, ◌∙◌}
use mathlib.Core.Bool.{Bool, true, false}
use mathlib.Core.List.{List, [], ◌∷◌}
use lib.Dec.{eqb, ltb}
use lib.ListN.{length, get_or, drop, drop_of_length-le}
use borrow.Author.Tests.{ltb-true, ltb-false, eqb-true, eqb-false, lt-ltb, le-ltb, eq-eqb, ne_eqb}
use Rattle.rules.specs.Bytes.{pick}
use Rattle.store.proofs.Parts.{drop_one}
use Rattle.sorted.specs.Sorted.{below}

pub clash : true ≡ false → ⊥
clash e = let z : ◌≡◌ {A = ℕ} 0 1 = cc in absurd (omega arith)

-- not after itself
pub below_self : (a : List ℕ) → below a a ≡ false
unfolding below
below_self [] = refl
below_self (x ∷ xs) = rw (eq-eqb x x refl) (below_self xs)

-- x up to y, and y before a: x before a
pub below_up : (x y a : List ℕ) → below y x ≡ false → below y a ≡ true → below x a ≡ true
unfolding below
below_up [] [] a h k = k
below_up [] (y ∷ ys) [] h k = k
below_up [] (y ∷ ys) (z ∷ zs) h k = refl
below_up (x ∷ xs) [] a h k = absurd (clash h)
below_up (x ∷ xs) (y ∷ ys) [] h k = k
below_up (x ∷ xs) (y ∷ ys) (z ∷ zs) h k = go (eqb y x) refl (eqb y z) refl h k (below_up xs ys zs)
  where
    go : (b : Bool) → eqb y x ≡ b → (c : Bool) → eqb y z ≡ c → pick b (below ys xs) (ltb y x) ≡ false → pick c (below ys zs) (ltb y z) ≡ true →
        (below ys xs ≡ false → below ys zs ≡ true → below xs zs ≡ true) → pick (eqb x z) (below xs zs) (ltb x z) ≡ true
    go true e true f h k rec = let p = eqb-true y x e in let q = eqb-true y z f in rw (eq-eqb x z (omega arith)) (rec h k)
    go true e false f h k rec = let p = eqb-true y x e in let q = ltb-true y z k in rw (ne_eqb x z (λ r. omega arith)) (lt-ltb x z (omega arith))
    go false e true f h k rec =
        let p = eqb-false y x e in
        let q = ltb-false y x h in
        let r = eqb-true y z f in
        rw (ne_eqb x z (λ t. p (omega arith))) (lt-ltb x z (omega (arith, p)))
    go false e false f h k rec =
        let p = eqb-false y x e in
        let q = ltb-false y x h in
        let r = ltb-true y z k in
        rw (ne_eqb x z (λ t. omega arith)) (lt-ltb x z (omega arith))

-- a up to m, and m up to k: a up to k
pub below_down : (a m k : List ℕ) → below m a ≡ false → below k m ≡ false → below k a ≡ false
below_down a m k h g = go (below k a) refl
  where
    go : (b : Bool) → below k a ≡ b → below k a ≡ false
    go true e = absurd (clash (sym (below_up m k a g e) ∙ h))
    go false e = e

pub below_asym : (a b : List ℕ) → below a b ≡ true → below b a ≡ false
unfolding below
below_asym [] [] h = refl
below_asym [] (y ∷ ys) h = refl
below_asym (x ∷ xs) [] h = absurd (clash (sym h))
below_asym (x ∷ xs) (y ∷ ys) h = go (eqb x y) refl h (below_asym xs ys)
  where
    go : (b : Bool) → eqb x y ≡ b → pick b (below xs ys) (ltb x y) ≡ true → (below xs ys ≡ true → below ys xs ≡ false) →
        pick (eqb y x) (below ys xs) (ltb y x) ≡ false
    go true e h rec = rw (eq-eqb y x (sym (eqb-true x y e))) (rec h)
    go false e h rec = let p = ltb-true x y h in rw (ne_eqb y x (λ t. omega arith)) (le-ltb y x (omega arith))

-- neither before the other
pub below_same : (a b : List ℕ) → below a b ≡ false → below b a ≡ false → a ≡ b
unfolding below
below_same [] [] h k = refl
below_same [] (y ∷ ys) h k = absurd (clash h)
below_same (x ∷ xs) [] h k = absurd (clash k)
below_same (x ∷ xs) (y ∷ ys) h k = go (eqb x y) refl h k (below_same xs ys)
  where
    go : (b : Bool) → eqb x y ≡ b → pick b (below xs ys) (ltb x y) ≡ false → pick (eqb y x) (below ys xs) (ltb y x) ≡ false →
        (below xs ys ≡ false → below ys xs ≡ false → xs ≡ ys) → x ∷ xs ≡ y ∷ ys
    go true e h k rec = let p = eqb-true x y e in let q = rec h (rw (eq-eqb y x (sym p)) at k) in cc
    go false e h k rec =
        let p = eqb-false x y e in
        let q = ltb-false x y h in
        let k' : ltb y x ≡ false = rw (ne_eqb y x (λ t. p (sym t))) at k in
        let r = ltb-false y x k' in
        absurd (p (omega arith))

-- comparing byte by byte: what is left to compare
module _ (a b : List ℕ) (i : ℕ) (so : below a b ≡ below (drop i a) (drop i b)) where
  pub before_step : i < length a → i < length b → get_or a i 0 ≡ get_or b i 0 → below a b ≡ below (drop (i + 1) a) (drop (i + 1) b)
  unfolding below
  before_step ha hb e = so ∙ rw (drop_one a i ha, drop_one b i hb, eq-eqb (get_or a i 0) (get_or b i 0) e) refl

  pub before_differ : i < length a → i < length b → (get_or a i 0 ≡ get_or b i 0 → ⊥) → ltb (get_or a i 0) (get_or b i 0) ≡ below a b
  unfolding below
  before_differ ha hb e = sym (so ∙ rw (drop_one a i ha, drop_one b i hb, ne_eqb (get_or a i 0) (get_or b i 0) e) refl)

  pub before_short : i < length a → length b ≤ i → false ≡ below a b
  unfolding below
  before_short ha hb = sym (so ∙ rw (drop_one a i ha, drop_of_length-le b {i = i} hb) refl)

  pub before_end : length a ≤ i → ltb i (length b) ≡ below a b
  unfolding below
  before_end ha = sym (so ∙ rw (drop_of_length-le a {i = i} ha) (go (ltb i (length b)) refl))
    where
      go : (c : Bool) → ltb i (length b) ≡ c → below [] (drop i b) ≡ ltb i (length b)
      go true e = rw (drop_one b i (ltb-true _ _ e), e) refl
      go false e = rw (drop_of_length-le b {i = i} (ltb-false _ _ e), e) refl
