-- Loops that search a list: the first that passes, the one with a number, whether any or all pass. Assumes nothing.
use Prim.Native.Nat.{ℕ, zero, suc, ◌+◌, ◌-◌, ◌≤◌, ◌<◌}
use native.Mathlib.Omega.{arith}
use mathlib.Core.Path.{◌≡◌, refl, ◌∙◌, ap}
use mathlib.Core.Bool.{Bool, true, false}
use mathlib.Core.List.{List, ◌∷◌}
use mathlib.Core.Option.{none, some}
use Rattle.rules.specs.Bytes.{Bytes, Reader, find, at, any, all, all_from}
use Rattle.places.specs.Reads.{Reads, EndsAt, Placed, Tracks}
use Rattle.places.proofs.Steady.{Steady}
use Rattle.places.proofs.Track.{put, put_none, track_front, track_more, track_done}

-- the test of whatever stands at a place has that answer
abbrev pub Tests : {A : Type 0} → Reader A → Bytes → ℕ → (A → Bool) → Bool → Type 0
Tests {A} r s c p b = (x : A) (m : ℕ) → Reads r s c x m → p x ≡ b

-- the element in front: where the test settles the list, and where the others settle it
module _ {A : Type 0} where
  find_hit : (p : A → Bool) (x : A) (ys : List A) → p x ≡ true → find p (x ∷ ys) ≡ some x
  find_hit p x ys e = rw e

  find_miss : (p : A → Bool) (x : A) (ys : List A) → p x ≡ false → find p (x ∷ ys) ≡ find p ys
  find_miss p x ys e = rw e

  any_hit : (p : A → Bool) (x : A) (ys : List A) → p x ≡ true → any p (x ∷ ys) ≡ true
  any_hit p x ys e = rw e

  any_miss : (p : A → Bool) (x : A) (ys : List A) → p x ≡ false → any p (x ∷ ys) ≡ any p ys
  any_miss p x ys e = rw e

  all_hit : (p : A → Bool) (x : A) (ys : List A) → p x ≡ false → all p (x ∷ ys) ≡ false
  all_hit p x ys e = rw e

  all_miss : (p : A → Bool) (x : A) (ys : List A) → p x ≡ true → all p (x ∷ ys) ≡ all p ys
  all_miss p x ys e = rw e

  numbered_hit : (p : ℕ → A → Bool) (n : ℕ) (x : A) (ys : List A) → p n x ≡ false → all_from p n (x ∷ ys) ≡ false
  numbered_hit p n x ys e = rw e

  numbered_miss : (p : ℕ → A → Bool) (n : ℕ) (x : A) (ys : List A) → p n x ≡ true → all_from p n (x ∷ ys) ≡ all_from p (n + 1) ys
  numbered_miss p n x ys e = let k : n + 1 ≡ suc n = omega arith in rw (e, k)

  pub at_next : (x : A) (ys : List A) (j : ℕ) → (j ≡ 0 → ⊥) → at (x ∷ ys) j ≡ at ys (j - 1)
  at_next x ys zero h = absurd (h refl)
  at_next x ys (suc j) h = let e : j ≡ suc j - 1 = omega arith in ap (at ys) e

  pub at_first : (x : A) (ys : List A) (j : ℕ) → j ≡ 0 → at (x ∷ ys) j ≡ some x
  at_first x ys zero h = refl
  at_first x ys (suc j) h = absurd (omega arith)

-- a loop's turns; `hit` ends it, `miss` goes on, `none` is its end
module _ {A : Type 0} (r : Reader A) (steady : Steady r) (s : Bytes) (whole : Reader (List A)) (i left c : ℕ) where
  module _ (p : A → Bool) where
    -- the first that passes
    module _ (t : Tracks r s whole i (find p) (find p) left c) where
      pub seek_hit : 0 < left → Tests r s c p true → (xs : List A) (j : ℕ) → Reads whole s i xs j → Placed r s (find p xs) (some c)
      seek_hit h q xs j e =
          let z = track_front r steady s whole i (find p) (find p) left c t h xs j e in
          put (z.value ∙ find_hit p z.one z.others (q z.one z.place z.reads)) z.reads

      pub seek_miss : (d : ℕ) → 0 < left → Tests r s c p false → EndsAt r s c d → Tracks r s whole i (find p) (find p) (left - 1) d
      seek_miss d h q e = track_more r steady s whole i (find p) (find p) left c t (find p) d h e (λ x m k ys. find_miss p x ys (q x m k))

      pub seek_none : left ≤ 0 → (xs : List A) (j : ℕ) → Reads whole s i xs j → Placed r s (find p xs) none
      seek_none h xs j e = put_none (track_done r steady s whole i (find p) (find p) left c t h xs j e).1

    -- whether any passes
    module _ (t : Tracks r s whole i (any p) (any p) left c) where
      pub some_hit : 0 < left → Tests r s c p true → (xs : List A) (j : ℕ) → Reads whole s i xs j → any p xs ≡ true
      some_hit h q xs j e =
          let z = track_front r steady s whole i (any p) (any p) left c t h xs j e in
          z.value ∙ any_hit p z.one z.others (q z.one z.place z.reads)

      pub some_miss : (d : ℕ) → 0 < left → Tests r s c p false → EndsAt r s c d → Tracks r s whole i (any p) (any p) (left - 1) d
      some_miss d h q e = track_more r steady s whole i (any p) (any p) left c t (any p) d h e (λ x m k ys. any_miss p x ys (q x m k))

      pub some_none : left ≤ 0 → (xs : List A) (j : ℕ) → Reads whole s i xs j → any p xs ≡ false
      some_none h xs j e = (track_done r steady s whole i (any p) (any p) left c t h xs j e).1

    -- whether every one passes
    module _ (t : Tracks r s whole i (all p) (all p) left c) where
      pub each_hit : 0 < left → Tests r s c p false → (xs : List A) (j : ℕ) → Reads whole s i xs j → all p xs ≡ false
      each_hit h q xs j e =
          let z = track_front r steady s whole i (all p) (all p) left c t h xs j e in
          z.value ∙ all_hit p z.one z.others (q z.one z.place z.reads)

      pub each_miss : (d : ℕ) → 0 < left → Tests r s c p true → EndsAt r s c d → Tracks r s whole i (all p) (all p) (left - 1) d
      each_miss d h q e = track_more r steady s whole i (all p) (all p) left c t (all p) d h e (λ x m k ys. all_miss p x ys (q x m k))

      pub each_none : left ≤ 0 → (xs : List A) (j : ℕ) → Reads whole s i xs j → all p xs ≡ true
      each_none h xs j e = (track_done r steady s whole i (all p) (all p) left c t h xs j e).1

  -- the one with a number
  module _ (k n : ℕ) (t : Tracks r s whole i (λ xs. at xs k) (λ ys. at ys n) left c) where
    pub nth_hit : 0 < left → n ≡ 0 → (xs : List A) (j : ℕ) → Reads whole s i xs j → Placed r s (at xs k) (some c)
    nth_hit h q xs j e =
        let z = track_front r steady s whole i (λ xs. at xs k) (λ ys. at ys n) left c t h xs j e in
        put (z.value ∙ at_first z.one z.others n q) z.reads

    pub nth_miss : (d : ℕ) → 0 < left → (n ≡ 0 → ⊥) → EndsAt r s c d → Tracks r s whole i (λ xs. at xs k) (λ ys. at ys (n - 1)) (left - 1) d
    nth_miss d h q e = track_more r steady s whole i (λ xs. at xs k) (λ ys. at ys n) left c t (λ ys. at ys (n - 1)) d h e (λ x m k ys. at_next x ys n q)

    pub nth_none : left ≤ 0 → (xs : List A) (j : ℕ) → Reads whole s i xs j → Placed r s (at xs k) none
    nth_none h xs j e = put_none (track_done r steady s whole i (λ xs. at xs k) (λ ys. at ys n) left c t h xs j e).1

  -- whether every one passes with its number
  module _ (p : ℕ → A → Bool) (k n : ℕ) (t : Tracks r s whole i (all_from p k) (all_from p n) left c) where
    pub number_hit : 0 < left → Tests r s c (p n) false → (xs : List A) (j : ℕ) → Reads whole s i xs j → all_from p k xs ≡ false
    number_hit h q xs j e =
        let z = track_front r steady s whole i (all_from p k) (all_from p n) left c t h xs j e in
        z.value ∙ numbered_hit p n z.one z.others (q z.one z.place z.reads)

    pub number_miss : (d : ℕ) → 0 < left → Tests r s c (p n) true → EndsAt r s c d → Tracks r s whole i (all_from p k) (all_from p (n + 1)) (left - 1) d
    number_miss d h q e = track_more r steady s whole i (all_from p k) (all_from p n) left c t (all_from p (n + 1)) d h e
        (λ x m k ys. numbered_miss p n x ys (q x m k))

    pub number_none : left ≤ 0 → (xs : List A) (j : ℕ) → Reads whole s i xs j → all_from p k xs ≡ true
    number_none h xs j e = (track_done r steady s whole i (all_from p k) (all_from p n) left c t h xs j e).1
