-- Entering a method into a table of methods sorted by name. Assumes nothing.
use Prim.Native.Nat.{ℕ, ◌+◌, ◌-◌, ◌<◌, ◌≤◌}
use native.Mathlib.Omega.{arith}
use mathlib.Core.Path.{◌≡◌, refl, sym, ◌∙◌}
use mathlib.Core.List.{List}
use mathlib.Core.Logic.{◌⊎◌, inl, inr, ⊎_elim}
use lib.ListN.{length, get_or}
use Rattle.rules.specs.Bytes.{Bytes}
use Rattle.methods.specs.Table.{name_at, Named, Has, Nameless, Sorted, Lower, Opened, Entered}
use Rattle.methods.proofs.Search.{less_or, equal_or, none_over, none_here}

module _ (t : Bytes) (l : List ℕ) (a e p : ℕ) (sorted : Sorted t l a e) where
  -- a method of the name is there
  pub entered_not : (r : ℕ) → a ≤ r → r < e → name_at t (get_or l r 0) ≡ name_at t p → Entered t l l a e p e
  entered_not r low h z = record {
    sorted = sorted;
    size = refl;
    below = λ k g. refl;
    end = omega arith;
    from = λ q has. inl has;
    kept = λ q has. has;
    there = (get_or l r 0, (r, low, h, refl), z);
  }

  -- none is
  module _ (m : List ℕ) (r : ℕ) (w : Lower t l a e (name_at t p) r) (o : Opened l m e r p) (room : e < length l) (np : Named t p)
      (less : Nameless t l a e (name_at t p)) where
    from_here : (k : ℕ) → a ≤ k → k < e + 1 → (q : ℕ) → get_or m k 0 ≡ q → Has l a e q ⊎ ((q ≡ p) × Nameless t l a e (name_at t p))
    from_here k low h q z = ⊎_elim before after (less_or k r)
      where
        before : k < r → Has l a e q ⊎ ((q ≡ p) × Nameless t l a e (name_at t p))
        before u = inl (k, low, omega (arith, w.high), sym (o.low k u) ∙ z)

        past : r < k → Has l a e q ⊎ ((q ≡ p) × Nameless t l a e (name_at t p))
        past u = inl (k - 1, omega (arith, w.low), omega arith, sym (o.high k u (omega arith)) ∙ z)

        here : r ≤ k → k ≤ r → Has l a e q ⊎ ((q ≡ p) × Nameless t l a e (name_at t p))
        here u v = let same : k ≡ r = omega arith in inr (sym z ∙ rw same o.new, less)

        after : r ≤ k → Has l a e q ⊎ ((q ≡ p) × Nameless t l a e (name_at t p))
        after u = ⊎_elim past (here u) (less_or r k)

    entered_kept : (q : ℕ) → Has l a e q → Has m a (e + 1) q
    entered_kept q has = go has.0 has.1 has.2 has.3
      where
        go : (k : ℕ) → a ≤ k → k < e → get_or l k 0 ≡ q → Has m a (e + 1) q
        go k low h z = ⊎_elim before after (less_or k r)
          where
            before : k < r → Has m a (e + 1) q
            before u = (k, low, omega arith, o.low k u ∙ z)

            after : r ≤ k → Has m a (e + 1) q
            after u = let y : k + 1 - 1 ≡ k = omega arith in (k + 1, omega arith, omega arith, o.high (k + 1) (omega arith) (omega arith) ∙ rw y z)

    entered_named : (k : ℕ) → a ≤ k → k < e + 1 → Named t (get_or m k 0)
    entered_named k low h = ⊎_elim before after (less_or k r)
      where
        before : k < r → Named t (get_or m k 0)
        before u = rw (o.low k u) (sorted.named k low (omega (arith, w.high)))

        past : r < k → Named t (get_or m k 0)
        past u = rw (o.high k u (omega arith)) (sorted.named (k - 1) (omega (arith, w.low)) (omega arith))

        here : r ≤ k → k ≤ r → Named t (get_or m k 0)
        here u v = let same : k ≡ r = omega arith in rw (same, o.new) np

        after : r ≤ k → Named t (get_or m k 0)
        after u = ⊎_elim past (here u) (less_or r k)

    -- the names that are not smaller are greater
    greater : (k : ℕ) → r ≤ k → k < e → name_at t p < name_at t (get_or l k 0)
    greater k u v = ⊎_elim (λ z. absurd (less (get_or l k 0) (k, omega (arith, w.low), v, refl) z)) (λ z. omega (arith, z, w.over k u v))
        (equal_or (name_at t (get_or l k 0)) (name_at t p))

    entered_order : (i j : ℕ) → a ≤ i → i < j → j < e + 1 → name_at t (get_or m i 0) < name_at t (get_or m j 0)
    entered_order i j low h g = ⊎_elim early late (less_or i r)
      where
        early : i < r → name_at t (get_or m i 0) < name_at t (get_or m j 0)
        early u = rw (o.low i u) (⊎_elim both other (less_or j r))
          where
            both : j < r → name_at t (get_or l i 0) < name_at t (get_or m j 0)
            both v = rw (o.low j v) (sorted.order i j low h (omega (arith, w.high)))

            beyond : r < j → name_at t (get_or l i 0) < name_at t (get_or m j 0)
            beyond v = rw (o.high j v (omega arith)) (sorted.order i (j - 1) low (omega arith) (omega arith))

            new : r ≤ j → j ≤ r → name_at t (get_or l i 0) < name_at t (get_or m j 0)
            new x y = let same : j ≡ r = omega arith in rw (same, o.new) (w.under i low u)

            other : r ≤ j → name_at t (get_or l i 0) < name_at t (get_or m j 0)
            other v = ⊎_elim beyond (new v) (less_or r j)

        late : r ≤ i → name_at t (get_or m i 0) < name_at t (get_or m j 0)
        late u = rw (o.high j (omega arith) (omega arith)) (⊎_elim beyond new (less_or r i))
          where
            beyond : r < i → name_at t (get_or m i 0) < name_at t (get_or l (j - 1) 0)
            beyond v = rw (o.high i v (omega arith)) (sorted.order (i - 1) (j - 1) (omega (arith, w.low)) (omega arith) (omega arith))

            new : i ≤ r → name_at t (get_or m i 0) < name_at t (get_or l (j - 1) 0)
            new v = let same : i ≡ r = omega arith in rw (same, o.new) (greater (j - 1) (omega arith) (omega arith))

    pub entered_new : Entered t l m a e p (e + 1)
    entered_new = record {
      sorted = record { low = omega (arith, sorted.low); size = omega (arith, o.size); named = entered_named; order = entered_order };
      size = o.size;
      below = λ k h. o.low k (omega (arith, w.low));
      end = omega arith;
      from = λ q has. from_here has.0 has.1 has.2 q has.3;
      kept = entered_kept;
      there = (p, (r, w.low, omega (arith, w.high), o.new), refl);
    }

  -- none is, as the search tells
  pub entered_over : (m : List ℕ) (r : ℕ) → Lower t l a e (name_at t p) r → Opened l m e r p → e < length l → Named t p → e ≤ r → Entered t l m a e p (e + 1)
  entered_over m r w o room np h = entered_new m r w o room np (none_over t l a e (name_at t p) sorted r w h)

  pub entered_here : (m : List ℕ) (r : ℕ) → Lower t l a e (name_at t p) r → Opened l m e r p → e < length l → Named t p → r < e →
      (name_at t (get_or l r 0) ≡ name_at t p → ⊥) → Entered t l m a e p (e + 1)
  entered_here m r w o room np h z = entered_new m r w o room np (none_here t l a e (name_at t p) sorted r w h z)
