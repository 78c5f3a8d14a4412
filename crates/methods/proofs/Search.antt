-- Finding a name in a table of methods sorted by name. Assumes nothing.
use Prim.Native.Nat.{ℕ, ◌-◌, ◌<◌, ◌≤◌}
use native.Mathlib.Omega.{arith}
use mathlib.Core.Path.{◌≡◌, refl}
use mathlib.Core.List.{List}
use mathlib.Core.Logic.{◌⊎◌, inl, inr, ⊎_elim}
use mathlib.Core.Bool.{Bool, true, false}
use lib.Dec.{ltb, eqb}
use lib.ListN.{get_or}
use borrow.Author.Tests.{ltb-true, ltb-false, eqb-true, eqb-false}
use Rattle.rules.specs.Bytes.{Bytes}
use Rattle.methods.specs.Table.{name_at, Named, Nameless, Sorted, Lower}

pub less_or : (a b : ℕ) → (a < b) ⊎ (b ≤ a)
less_or a b = go (ltb a b) refl
  where
    go : (c : Bool) → ltb a b ≡ c → (a < b) ⊎ (b ≤ a)
    go true e = inl (ltb-true a b e)
    go false e = inr (ltb-false a b e)

pub equal_or : (a b : ℕ) → (a ≡ b) ⊎ (a ≡ b → ⊥)
equal_or a b = go (eqb a b) refl
  where
    go : (c : Bool) → eqb a b ≡ c → (a ≡ b) ⊎ (a ≡ b → ⊥)
    go true e = inl (eqb-true a b e)
    go false e = inr (eqb-false a b e)

module _ (t : Bytes) (l : List ℕ) (a e x : ℕ) (sorted : Sorted t l a e) where
  -- the name right before r is smaller than x, and the one at r is not
  pub lower_parted : (r : ℕ) → a ≤ r → r ≤ e → (a < r → name_at t (get_or l (r - 1) 0) < x) → (r < e → x ≤ name_at t (get_or l r 0)) → Lower t l a e x r
  lower_parted r low high before there = record {
    low = low;
    high = high;
    under = λ k u v. ⊎_elim (λ w. below k u v w) (λ w. last k u v w) (less_or k (r - 1));
    over = λ k u v. ⊎_elim (λ w. above k v w) (λ w. first k u v w) (less_or r k);
  }
    where
      below : (k : ℕ) → a ≤ k → k < r → k < r - 1 → name_at t (get_or l k 0) < x
      below k u v w = let o = sorted.order k (r - 1) u w (omega arith) in omega (arith, o, before (omega arith))

      last : (k : ℕ) → a ≤ k → k < r → r - 1 ≤ k → name_at t (get_or l k 0) < x
      last k u v w = let same : k ≡ r - 1 = omega arith in rw same (before (omega arith))

      above : (k : ℕ) → k < e → r < k → x ≤ name_at t (get_or l k 0)
      above k v w = let o = sorted.order r k low w v in omega (arith, o, there (omega arith))

      first : (k : ℕ) → r ≤ k → k < e → k ≤ r → x ≤ name_at t (get_or l k 0)
      first k u v w = let same : k ≡ r = omega arith in rw same (there (omega arith))

  -- finding
  module _ (r : ℕ) (w : Lower t l a e x r) where
    under_not : (k : ℕ) → a ≤ k → k < r → name_at t (get_or l k 0) ≡ x → ⊥
    under_not k g h z = omega (arith, w.under k g h)

    pub none_over : e ≤ r → Nameless t l a e x
    none_over h q has z = under_not has.0 has.1 (omega (arith, has.2)) (rw has.3 z)

    pub none_here : r < e → (name_at t (get_or l r 0) ≡ x → ⊥) → Nameless t l a e x
    none_here h b q has z = go has.0 has.1 has.2 (rw has.3 z)
      where
        past : (k : ℕ) → r < k → k < e → name_at t (get_or l k 0) ≡ x → ⊥
        past k u v y = let o = sorted.order r k w.low u v in omega (arith, o, w.over r (omega arith) h)

        here : (k : ℕ) → r ≤ k → k ≤ r → name_at t (get_or l k 0) ≡ x → ⊥
        here k u v y = let same : k ≡ r = omega arith in b (rw (← same) y)

        from : (k : ℕ) → r ≤ k → k < e → name_at t (get_or l k 0) ≡ x → ⊥
        from k u v y = ⊎_elim (λ o. past k o v y) (λ o. here k u o y) (less_or r k)

        go : (k : ℕ) → a ≤ k → k < e → name_at t (get_or l k 0) ≡ x → ⊥
        go k g v y = ⊎_elim (λ o. under_not k g o y) (λ o. from k o v y) (less_or k r)

-- the code's terms
pub named_of : (t : Bytes) (l : List ℕ) (a e k q : ℕ) → Sorted t l a e → a ≤ k → k < e → q ≡ get_or l k 0 → Named t q
named_of t l a e k q s h g z = rw z (s.named k h g)

pub name_of : (t : Bytes) (l : List ℕ) (k q x : ℕ) → q ≡ get_or l k 0 → x ≡ name_at t q → x ≡ name_at t (get_or l k 0)
name_of t l k q x z y = rw (← z) y
