-- Entering a place among sorted ones. Assumes nothing.
use Prim.Native.Nat.{ℕ, ◌+◌, ◌-◌, ◌<◌, ◌≤◌}
use native.Mathlib.Omega.{arith}
use mathlib.Core.Path.{◌≡◌, refl, sym, ap, ◌∙◌}
use mathlib.Core.Bool.{Bool, true, false}
use mathlib.Core.List.{List}
use mathlib.Core.Logic.{◌⊎◌, inl, inr, ⊎_elim}
use lib.ListN.{length, set, length-set}
use lib.Seq.{get_or-set_same, get_or-set_other}
use Rattle.rules.specs.Bytes.{Bytes, Aid}
use Rattle.sorted.specs.Sorted.{below, key_at, Keyed, count, place_at, Has, Sorted, Lower, HereIs, Opened, EnteredNew, Entered}
use Rattle.sorted.proofs.Order.{below_same}
use Rattle.sorted.proofs.Table.{less_or, lower_fresh}

-- the place entered: p at number r, those from there on one up, one more
pub record Inserted (l m : List ℕ) (r p : ℕ) : Type 0 where
  pub size : length m ≡ length l
  pub more : count m ≡ count l + 1
  pub low : (k : ℕ) → k < r → place_at m k ≡ place_at l k
  pub new : place_at m r ≡ p
  pub high : (k : ℕ) → r < k → k ≤ count l → place_at m k ≡ place_at l (k - 1)

pub opened_more : (l m : List ℕ) (n r p : ℕ) → n ≡ count l → 0 < length l → Opened l m n r p → Inserted l (set m 0 (n + 1)) r p
opened_more l m n r p e h o = record {
  size = length-set m 0 (n + 1) ∙ o.size;
  more = get_or-set_same m 0 (n + 1) 0 (omega (arith, o.size)) ∙ ap (λ (k : ℕ). k + 1) e;
  low = λ k g. stays k ∙ o.low k g;
  new = stays r ∙ o.new;
  high = λ k g f. stays k ∙ o.high k g (omega arith);
}
  where
    stays : (k : ℕ) → place_at (set m 0 (n + 1)) k ≡ place_at m k
    stays k = get_or-set_other m 0 (k + 1) (n + 1) 0 (λ z. omega arith)

-- in order, where no other has the AID
module _ (s : Bytes) (l m : List ℕ) (r p : ℕ) (t : Sorted s l) (w : Lower s l (key_at s p) r) (fresh : (q : ℕ) → Has l q → key_at s q ≡ key_at s p → ⊥)
    (o : Inserted l m r p) (room : count l + 1 < length l) (kp : Keyed s p) where
  -- the places from r on have later AIDs
  later : (k : ℕ) → r ≤ k → k < count l → below (key_at s p) (key_at s (place_at l k)) ≡ true
  later k h g = go (below (key_at s p) (key_at s (place_at l k))) refl
    where
      go : (b : Bool) → below (key_at s p) (key_at s (place_at l k)) ≡ b → below (key_at s p) (key_at s (place_at l k)) ≡ true
      go true e = e
      go false e = absurd (fresh (place_at l k) (k, g, refl) (below_same (key_at s (place_at l k)) (key_at s p) (w.over k h g) e))

  abbrev Rises : ℕ → ℕ → Type 0
  Rises i j = below (key_at s (place_at m i)) (key_at s (place_at m j)) ≡ true

  rises_low : (i j : ℕ) → i < j → j < r → Rises i j
  rises_low i j h g = rw (o.low i (omega arith), o.low j g) (t.order i j h (omega (arith, w.within)))

  rises_new : (i j : ℕ) → i < r → j ≡ r → Rises i j
  rises_new i j h e = rw (e, o.new, o.low i h) (w.under i h)

  rises_high : (i j : ℕ) → i < j → r < j → j ≤ count l → Rises i j
  rises_high i j h g f = rw (o.high j g f) (⊎_elim low from (less_or i r))
    where
      low : i < r → below (key_at s (place_at m i)) (key_at s (place_at l (j - 1))) ≡ true
      low u = rw (o.low i u) (t.order i (j - 1) (omega arith) (omega arith))

      past : r < i → below (key_at s (place_at m i)) (key_at s (place_at l (j - 1))) ≡ true
      past u = rw (o.high i u (omega arith)) (t.order (i - 1) (j - 1) (omega arith) (omega arith))

      new : r ≤ i → i ≤ r → below (key_at s (place_at m i)) (key_at s (place_at l (j - 1))) ≡ true
      new u v = let e : i ≡ r = omega arith in rw (e, o.new) (later (j - 1) (omega arith) (omega arith))

      from : r ≤ i → below (key_at s (place_at m i)) (key_at s (place_at l (j - 1))) ≡ true
      from u = ⊎_elim past (new u) (less_or r i)

  rises : (i j : ℕ) → i < j → j < count m → Rises i j
  rises i j h g = ⊎_elim (rises_low i j h) from (less_or j r)
    where
      from : r ≤ j → Rises i j
      from u = ⊎_elim (λ v. rises_high i j h v (omega (arith, o.more))) (λ v. rises_new i j (omega arith) (omega arith)) (less_or r j)

  keyed : (k : ℕ) → k < count m → Keyed s (place_at m k)
  keyed k h = ⊎_elim low from (less_or k r)
    where
      low : k < r → Keyed s (place_at m k)
      low g = rw (o.low k g) (t.keyed k (omega (arith, w.within)))

      high : r < k → Keyed s (place_at m k)
      high u = rw (o.high k u (omega (arith, o.more))) (t.keyed (k - 1) (omega (arith, o.more)))

      new : r ≤ k → k ≤ r → Keyed s (place_at m k)
      new g u = let e : k ≡ r = omega arith in rw (e, o.new) kp

      from : r ≤ k → Keyed s (place_at m k)
      from g = ⊎_elim high (new g) (less_or r k)

  kept : (q : ℕ) → Has l q → Has m q
  kept q x = at x.0 x.1 x.2
    where
      at : (k : ℕ) → k < count l → place_at l k ≡ q → Has m q
      at k g e =
          ⊎_elim (λ u. (k, omega (arith, o.more), o.low k u ∙ e))
          (λ u. let d : k + 1 - 1 ≡ k = omega arith in (k + 1, omega (arith, o.more), o.high (k + 1) (omega arith) (omega arith) ∙ ap (place_at l) d ∙ e))
          (less_or k r)

  from : (q : ℕ) → Has m q → (q ≡ p) ⊎ Has l q
  from q x = at x.0 x.1 x.2
    where
      at : (k : ℕ) → k < count m → place_at m k ≡ q → (q ≡ p) ⊎ Has l q
      at k g e =
          ⊎_elim (λ u. inr (k, omega (arith, w.within), sym (o.low k u) ∙ e))
          (λ u. ⊎_elim (λ v. inr (k - 1, omega (arith, o.more), sym (o.high k v (omega (arith, o.more))) ∙ e))
          (λ v. let d : k ≡ r = omega arith in inl (sym e ∙ rw d o.new)) (less_or r k))
          (less_or k r)

  pub entered_new : EnteredNew s l m p
  entered_new = record {
    sorted = record { size = omega (arith, o.size, o.more); keyed = keyed; order = rises };
    size = o.size;
    more = o.more;
    has = (r, omega (arith, w.within, o.more), o.new);
    kept = kept;
    from = from;
    alone = fresh;
  }

-- the place is entered, in the terms of the code
pub entered_is : (s : Bytes) (l m : List ℕ) (n r p x : ℕ) (a : Aid) → Sorted s l → Keyed s p → count l + 1 < length l → n ≡ count l → a ≡ key_at s p →
    Lower s l a r → HereIs s l r a false →
    Opened l m n r x → x ≡ p → EnteredNew s l (set m 0 (n + 1)) p
entered_is s l m n r p x a t kp room e f w h o d =
    entered_new s l (set m 0 (n + 1)) r p t w' (lower_fresh s l t (key_at s p) r w' h') (opened_more l m n r p e (omega arith) (rw d at o)) room kp
  where
    w' : Lower s l (key_at s p) r
    w' = rw (← f) w

    h' : HereIs s l r (key_at s p) false
    h' = λ g z. h g (z ∙ sym f)

-- or another has its AID
pub entered_not : (s : Bytes) (l : List ℕ) (r p : ℕ) (a : Aid) → a ≡ key_at s p → HereIs s l r a true → Entered s l l p false
entered_not s l r p a f h = (refl, place_at l r, (r, h.0, refl), h.1 ∙ f)
