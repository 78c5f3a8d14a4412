-- Searching sorted places. Assumes nothing.
use Prim.Native.Nat.{ℕ, ◌+◌, ◌-◌, ◌<◌, ◌≤◌}
use native.Mathlib.Omega.{arith}
use mathlib.Core.Path.{◌≡◌, refl, sym, ap, ◌∙◌, subst}
use mathlib.Core.Bool.{Bool, true, false}
use mathlib.Core.List.{List}
use mathlib.Core.Logic.{◌⊎◌, inl, inr, ⊎_elim}
use lib.Dec.{eqb, ltb}
use lib.ListN.{length, get_or}
use borrow.Author.Tests.{ltb-true, ltb-false, eqb-true, eqb-false, eq-eqb, ne_eqb}
use Rattle.std.specs.Prelude.{Some, None}
use Rattle.rules.specs.Bytes.{Bytes, Aid, same}
use Rattle.rules.proofs.Tests.{of_true, is_true, same_eq, same_refl}
use Rattle.store.specs.Entries.{part}
use Rattle.sorted.specs.Sorted.{below, key_place, key_at, Keyed, count, place_at, Has, Sorted, Lower, HereIs, Found}
use Rattle.sorted.proofs.Order.{clash, below_self, below_up, below_down, below_asym}

pub less_or : (a b : ℕ) → (a < b) ⊎ (b ≤ a)
less_or a b = go (ltb a b) refl
  where
    go : (c : Bool) → ltb a b ≡ c → (a < b) ⊎ (b ≤ a)
    go true e = inl (ltb-true a b e)
    go false e = inr (ltb-false a b e)

pub equal_or : (a b : ℕ) → (a ≡ b) ⊎ (a ≡ b → ⊥)
equal_or a b = go (eqb a b) refl
  where
    go : (c : Bool) → eqb a b ≡ c → (a ≡ b) ⊎ (a ≡ b → ⊥)
    go true e = inl (eqb-true a b e)
    go false e = inr (eqb-false a b e)

-- where the AID of a domain stands, and that of a package
pub key_place_domain : (s : Bytes) (p : ℕ) → (get_or s p 0 ≡ 2 → ⊥) → key_place s p ≡ p + 2
unfolding key_place
key_place_domain s p e = rw (ne_eqb (get_or s p 0) 2 e) refl

pub key_place_package : (s : Bytes) (p : ℕ) → get_or s p 0 ≡ 2 → key_place s p ≡ p + 11 + get_or s (p + 3) 0
unfolding key_place
key_place_package s p e = rw (eq-eqb (get_or s p 0) 2 e) refl

-- the AID as a part of the bytes
pub key_part : (s : Bytes) (p i w : ℕ) → i ≡ key_place s p → w ≡ get_or s i 0 → part s (i + 1) (i + 1 + w) ≡ key_at s p
unfolding key_at
key_part s p i w e h = rw (h, e) refl

-- what is read at a number of the table
pub keyed_of : (s : Bytes) (l : List ℕ) (k q : ℕ) → Sorted s l → k < count l → q ≡ place_at l k → Keyed s q
keyed_of s l k q t h e = rw e (t.keyed k h)

pub told : (s : Bytes) (l : List ℕ) (k q : ℕ) (x a : Aid) (b c : Bool) → q ≡ place_at l k → x ≡ key_at s q → b ≡ below x a → b ≡ c →
    below (key_at s (place_at l k)) a ≡ c
told s l k q x a b c d e f g = cc

module _ (s : Bytes) (l : List ℕ) (t : Sorted s l) where
  -- no later place has an earlier AID
  pub not_after : (i j : ℕ) → i ≤ j → j < count l → below (key_at s (place_at l j)) (key_at s (place_at l i)) ≡ false
  not_after i j h g = ⊎_elim before at (less_or i j)
    where
      before : i < j → below (key_at s (place_at l j)) (key_at s (place_at l i)) ≡ false
      before v = below_asym _ _ (t.order i j v g)

      at : j ≤ i → below (key_at s (place_at l j)) (key_at s (place_at l i)) ≡ false
      at v = let e : i ≡ j = omega arith in rw e (below_self (key_at s (place_at l j)))

  -- an AID has one place
  pub one_place : (p q : ℕ) → Has l p → Has l q → key_at s p ≡ key_at s q → p ≡ q
  one_place p q x y e = at x.0 y.0 x.1 y.1 x.2 y.2
    where
      apart : (i j : ℕ) → i < j → j < count l → key_at s (place_at l i) ≡ key_at s (place_at l j) → ⊥
      apart i j h g d = clash (sym (t.order i j h g) ∙ rw d (below_self (key_at s (place_at l j))))

      at : (i j : ℕ) → i < count l → j < count l → place_at l i ≡ p → place_at l j ≡ q → p ≡ q
      at i j f g u v =
          let d : key_at s (place_at l i) ≡ key_at s (place_at l j) = ap (key_at s) u ∙ e ∙ ap (key_at s) (sym v) in
          ⊎_elim (λ h. absurd (apart i j h g d))
          (λ h. ⊎_elim (λ w. absurd (apart j i w f (sym d))) (λ w. let z : i ≡ j = omega arith in sym u ∙ ap (place_at l) z ∙ v) (less_or j i)) (less_or i j)

  module _ (a : Aid) where
    -- the place right before number r has an AID before a, and the one at r not
    pub lower_parted : (r : ℕ) → r ≤ count l → (0 < r → below (key_at s (place_at l (r - 1))) a ≡ true) →
        (r < count l → below (key_at s (place_at l r)) a ≡ false) → Lower s l a r
    lower_parted r high before there = record {
      within = high;
      under = λ k u.
          below_up (key_at s (place_at l k)) (key_at s (place_at l (r - 1))) a (not_after k (r - 1) (omega arith) (omega arith)) (before (omega arith));
      over = λ k u v. below_down a (key_at s (place_at l r)) (key_at s (place_at l k)) (there (omega arith)) (not_after r k u v);
    }

    -- the last place tried first
    pub lower_empty : (n : ℕ) → n ≡ count l → n ≡ 0 → Lower s l a 0
    lower_empty n e z = record { within = omega arith; under = λ k h. absurd (omega arith); over = λ k h g. absurd (omega arith) }

    pub lower_all : (n : ℕ) → n ≡ count l → (n ≡ 0 → ⊥) → below (key_at s (place_at l (n - 1))) a ≡ true → Lower s l a n
    lower_all n e z h = record {
      within = omega arith;
      under = λ k g. below_up (key_at s (place_at l k)) (key_at s (place_at l (n - 1))) a (not_after k (n - 1) (omega arith) (omega (arith, z))) h;
      over = λ k g f. absurd (omega arith);
    }

    -- where the place behind the lower ones has another AID, none has it
    pub lower_fresh : (r : ℕ) → Lower s l a r → HereIs s l r a false → (p : ℕ) → Has l p → key_at s p ≡ a → ⊥
    lower_fresh r w h p x e = at x.0 x.1 (ap (key_at s) x.2 ∙ e)
      where
        past : (k : ℕ) → k < count l → key_at s (place_at l k) ≡ a → r < k → ⊥
        past k g d u = clash (sym (rw d at (t.order r k u g)) ∙ w.over r (omega arith) (omega arith))

        at : (k : ℕ) → k < count l → key_at s (place_at l k) ≡ a → ⊥
        at k g d =
            ⊎_elim (λ u. clash (sym (w.under k u) ∙ rw d (below_self a)))
            (λ u. ⊎_elim (past k g d) (λ v. let z : k ≡ r = omega arith in h (omega arith) (rw (← z) d)) (less_or r k)) (less_or k r)

    pub found_none : (r : ℕ) → Lower s l a r → HereIs s l r a false → Found s l a None
    found_none r w h = lower_fresh r w h

    pub found_here : (r q : ℕ) → HereIs s l r a true → q ≡ place_at l r → Found s l a (Some q)
    found_here r q h e = ((r, h.0, sym e), rw e h.1)

-- the test of one place
pub here_not : (s : Bytes) (l : List ℕ) (k n : ℕ) (a : Aid) → n ≡ count l → n ≤ k → HereIs s l k a false
here_not s l k n a e h = λ g f. omega arith

pub here_is : (s : Bytes) (l : List ℕ) (k n q : ℕ) (a x : Aid) (b : Bool) → n ≡ count l → k < n → q ≡ place_at l k → x ≡ key_at s q → b ≡ same a x →
    HereIs s l k a b
here_is s l k n q a x true e h d f g = (omega arith, let z : key_at s (place_at l k) ≡ x = cc in z ∙ sym (same_eq a x (of_true (sym g))))
here_is s l k n q a x false e h d f g =
    λ u v. let z : a ≡ x = cc in clash (sym (is_true (same x x) (same_refl x)) ∙ ap (λ (y : Aid). same y x) (sym z) ∙ sym g)

pub here_told : (s : Bytes) (l : List ℕ) (k : ℕ) (a : Aid) (b c : Bool) → HereIs s l k a b → b ≡ c → HereIs s l k a c
here_told s l k a b c h e = subst (HereIs s l k a) e h

-- the place behind the lower ones as a number of the table
pub here_inside : (s : Bytes) (l : List ℕ) (k : ℕ) (a : Aid) → Sorted s l → HereIs s l k a true → k + 1 < length l
here_inside s l k a t h = omega (arith, t.size, h.0)

-- the last place
pub last_is_lem : (l : List ℕ) (n q : ℕ) → (n ≡ 0 → ⊥) → q ≡ get_or l n 0 → q ≡ place_at l (n - 1)
last_is_lem l n q h e = let d : n - 1 + 1 ≡ n = omega (arith, h) in e ∙ ap (λ (k : ℕ). get_or l k 0) (sym d)
