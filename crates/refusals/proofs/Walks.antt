-- A loop that keeps the first no over the elements of a list that a reader reads: the start, a turn, the end. Assumes nothing.
use Prim.Native.Nat.{ℕ, suc, ◌+◌, ◌≤◌, ◌<◌}
use native.Mathlib.Omega.{arith}
use mathlib.Core.Path.{◌≡◌, sym, ◌∙◌, ap, subst}
use mathlib.Core.List.{List}
use lib.Dec.{T}
use lib.ListN.{get_or}
use Rattle.rules.specs.Bytes.{Bytes, Reader, u1, counted}
use Rattle.places.specs.Reads.{Reads, Ends, EndsAt, Tracks}
use Rattle.places.proofs.Steady.{Steady}
use Rattle.places.proofs.Track.{track_start, track_ends, track_more, track_done}
use Rattle.refusals.specs.Order.{first_of, Asks, no_of, no_of_all, numbers, rising}
use Rattle.refusals.proofs.Order.{first_more, first_start, first_zero, first_assoc, none_asked}

-- the first no of a list after an earlier answer
abbrev pub after : {A : Type 0} → Asks A → ℕ → List A → ℕ
after qs past xs = first_of past (no_of_all qs xs)

-- the loop over the list that a reader reads at i in each setting w: `left` elements are still to be read at c, and the answer so far is `past`
abbrev pub NumberLoop : {A W : Type 0} → (W → Reader A) → ℕ → (W → Asks A) → Bytes → ℕ → ℕ → ℕ → ℕ → Type 0
NumberLoop {W = W} R most qs s i past left c = (w : W) → Tracks (R w) s (counted most u1 (R w)) i (no_of_all (qs w)) (after (qs w) past) left c

module _ {A W : Type 0} (R : W → Reader A) (steady : (w : W) → Steady (R w)) (most : ℕ) (qs : W → Asks A) (order : (w : W) → T (rising (numbers (qs w))))
    (s : Bytes) (i : ℕ) where
  pub numbers_start : (n : ℕ) → n ≡ get_or s i 0 → NumberLoop R most qs s i 0 n (i + 1)
  numbers_start n h w xs j r =
      let t = track_start (R w) s (no_of_all (qs w)) most i xs j r in
      (t.0, rw h t.1, t.2 ∙ sym (first_start (qs w) (order w) t.0))

  module _ (past left c : ℕ) (t : NumberLoop R most qs s i past left c) where
    -- the element at hand
    pub numbers_here : 0 < left → (w : W) → Ends (counted most u1 (R w)) s i → Ends (R w) s c
    numbers_here h w e = track_ends (R w) (steady w) s (counted most u1 (R w)) i (no_of_all (qs w)) (after (qs w) past) left c (t w) h e

    -- its answer n, and the first m of the earlier one and n
    pub numbers_on : (n rest : ℕ) → left ≡ suc rest → ((w : W) (x : A) (j : ℕ) → Reads (R w) s c x j → n ≡ no_of (qs w) x) → (m d : ℕ) → m ≡ first_of past n →
        ((w : W) → EndsAt (R w) s c d) → NumberLoop R most qs s i m rest d
    numbers_on n rest h e m d q k w =
        subst (λ (z : ℕ). Tracks (R w) s (counted most u1 (R w)) i (no_of_all (qs w)) (after (qs w) m) z d) (omega arith)
        (track_more (R w) (steady w) s (counted most u1 (R w)) i (no_of_all (qs w)) (after (qs w) past) left c (t w) (after (qs w) m) d (omega arith) (k w) λ x j g ys.
        ap (first_of past) (first_more (qs w) (order w) x ys)
        ∙ first_assoc past (no_of (qs w) x) (no_of_all (qs w) ys)
        ∙ ap (λ (b : ℕ). first_of b (no_of_all (qs w) ys)) (sym (q ∙ ap (first_of past) (e w x j g))))

    pub numbers_done : left ≤ 0 → (w : W) (xs : List A) (j : ℕ) → Reads (counted most u1 (R w)) s i xs j → past ≡ no_of_all (qs w) xs
    numbers_done h w xs j r =
        let z = track_done (R w) (steady w) s (counted most u1 (R w)) i (no_of_all (qs w)) (after (qs w) past) left c (t w) h xs j r in
        sym (z.1 ∙ ap (first_of past) (none_asked (qs w)) ∙ first_zero past)
