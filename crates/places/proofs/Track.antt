-- Loops over lists: the start, a turn and the end, for any reader. Assumes nothing.
use Prim.Native.Nat.{ℕ, zero, suc, ◌+◌, ◌-◌, ◌*◌, ◌≤◌, ◌<◌}
use native.Mathlib.Omega.{arith}
use native.Mathlib.Nat.{mul-suc, mul-zero}
use mathlib.Core.Path.{◌≡◌, refl, sym, ◌∙◌, ap, subst}
use mathlib.Core.List.{List, [], ◌∷◌}
use mathlib.Core.Option.{Option, none, some, some-injective}
use lib.ListN.{length, get_or}
use Rattle.rules.specs.Bytes.{Bytes, Reader, u1, many, counted, u2, at}
use Rattle.rules.proofs.Tests.{none_some}
use Rattle.rules.specs.Code.{u2_at}
use Rattle.places.specs.Reads.{Reads, Ends, EndsAt, Placed, there, nowhere, Tracks}
use Rattle.places.proofs.Steady.{Steady, steady_u1, steady_u2}
use Rattle.places.proofs.Inverse.{reads_left, reads_done, reads_counted, reads_u1, reads_u2}

-- what a told place says
pub placed_at : {A : Type 0} {r : Reader A} {s : Bytes} {o : Option A} {i : ℕ} → Placed r s o (some i) → (a : A) × (j : ℕ) × (o ≡ some a) × Reads r s i a j
placed_at (there {a} {i} {j} p) = (a, j, refl, p)

pub placed_none : {A : Type 0} {r : Reader A} {s : Bytes} {o : Option A} → Placed r s o none → o ≡ none
placed_none nowhere = refl

pub put : {A : Type 0} {r : Reader A} {s : Bytes} {o : Option A} {a : A} {i j : ℕ} → o ≡ some a → Reads r s i a j → Placed r s o (some i)
put {r = r} {s} {i = i} e p = subst (λ (o : Option _). Placed r s o (some i)) (sym e) (there p)

pub put_none : {A : Type 0} {r : Reader A} {s : Bytes} {o : Option A} → o ≡ none → Placed r s o none
put_none {r = r} {s} e = subst (λ (o : Option _). Placed r s o none) (sym e) nowhere

module _ {A B : Type 0} (r : Reader A) (s : Bytes) (f : List A → B) where
  -- a counted list, its count read
  pub track_start : (most i : ℕ) → Tracks r s (counted most u1 r) i f f (get_or s i 0) (i + 1)
  track_start most i xs j p =
      let c = reads_counted most u1 r steady_u1 s i xs j p in
      let u = reads_u1 s i c.number c.place c.count in
      (xs, rw (u.byte, u.next) c.list, refl)

  -- the same with a count of two bytes
  pub track_start_u2 : (most i : ℕ) → Tracks r s (counted most u2 r) i f f (u2_at s i) (i + 2)
  track_start_u2 most i xs j p =
      let c = reads_counted most u2 r steady_u2 s i xs j p in
      let u = reads_u2 s i c.number c.place c.count in
      (xs, rw (u.value, u.next) c.list, refl)

-- the count is inside
pub counted_inside : {A : Type 0} (r : Reader A) (s : Bytes) (most i : ℕ) (xs : List A) (j : ℕ) → Reads (counted most u1 r) s i xs j → i < length s
counted_inside r s most i xs j p =
    let c = reads_counted most u1 r steady_u1 s i xs j p in
    let u = reads_u1 s i c.number c.place c.count in u.inside

module _ {A B : Type 0} (r : Reader A) (steady : Steady r) (s : Bytes) (whole : Reader (List A)) (i : ℕ) (f g : List A → B) (left c : ℕ)
    (t : Tracks r s whole i f g left c) where
  -- the element at hand
  pub record Front (xs : List A) (j : ℕ) : Type 0 where
    pub one : A
    pub others : List A
    pub place : ℕ
    pub reads : Reads r s c one place
    pub rest : Reads (many (left - 1) r) s place others j
    pub value : f xs ≡ g (one ∷ others)

  pub track_front : 0 < left → (xs : List A) (j : ℕ) → Reads whole s i xs j → Front xs j
  track_front h xs j p =
      let y = t xs j p in
      let z = reads_left r steady left s c y.0 j h y.1 in
      record { one = z.one; others = z.others; place = z.place; reads = z.reads; rest = z.rest; value = y.2 ∙ ap g (sym z.are) }

  pub track_ends : 0 < left → Ends whole s i → Ends r s c
  track_ends h e = let z = track_front h e.0 e.1 e.2 in (z.one, z.place, z.reads)

  -- a turn
  pub track_more : (g' : List A → B) (d : ℕ) → 0 < left → EndsAt r s c d → ((x : A) (m : ℕ) → Reads r s c x m → (ys : List A) → g (x ∷ ys) ≡ g' ys) →
      Tracks r s whole i f g' (left - 1) d
  track_more g' d h e q xs j p =
      let z = track_front h xs j p in
      let n : d ≡ z.place = e z.one z.place z.reads in
      (z.others, rw n z.rest, z.value ∙ q z.one z.place z.reads z.others)

  -- the end
  pub track_done : left ≤ 0 → (xs : List A) (j : ℕ) → Reads whole s i xs j → (c ≡ j) × (f xs ≡ g [])
  track_done h xs j p = let y = t xs j p in let z = reads_done r left s c y.0 j h y.1 in (z.1, y.2 ∙ ap g z.0)

-- elements of one size
pub many_wide : {A : Type 0} (r : Reader A) → Steady r → (w : ℕ) (s : Bytes) → ((i : ℕ) (a : A) (j : ℕ) → Reads r s i a j → i + w ≡ j) →
    (n i : ℕ) (xs : List A) (j : ℕ) → Reads (many n r) s i xs j → i + w * n ≡ j
many_wide r steady w s q zero i xs j p = let z = reads_done r 0 s i xs j (omega arith) p in omega (arith, z.1)
many_wide r steady w s q (suc n) i xs j p =
    let z = reads_left r steady (suc n) s i xs j (omega arith) p in
    let e : suc n - 1 ≡ n = omega arith in
    let h = many_wide r steady w s q n z.place z.others j (rw e at z.rest) in
    let k = q i z.one z.place z.reads in
    let m : w * suc n ≡ w * n + w = mul-suc w n in
    omega arith

-- the list has as many elements as are read
pub many_length : {A : Type 0} (r : Reader A) → Steady r → (n : ℕ) (s : Bytes) (i : ℕ) (xs : List A) (j : ℕ) → Reads (many n r) s i xs j → length xs ≡ n
many_length r steady zero s i xs j p = ap length (reads_done r 0 s i xs j (omega arith) p).0
many_length r steady (suc n) s i xs j p =
    let z = reads_left r steady (suc n) s i xs j (omega arith) p in
    let e : suc n - 1 ≡ n = omega arith in
    ap length (sym z.are) ∙ ap suc (many_length r steady n s z.place z.others j (rw e at z.rest))

-- of elements of one size, the one with a number
pub many_nth : {A : Type 0} (r : Reader A) → Steady r → (w : ℕ) (s : Bytes) → ((i : ℕ) (a : A) (j : ℕ) → Reads r s i a j → i + w ≡ j) →
    (n i : ℕ) (xs : List A) (j : ℕ) → Reads (many n r) s i xs j → (k : ℕ) → k < n → Placed r s (at xs k) (some (i + w * k))
many_nth r steady w s q zero i xs j p k h = absurd (omega arith)
many_nth {A} r steady w s q (suc n) i xs j p k h =
    let z = reads_left r steady (suc n) s i xs j (omega arith) p in
    let e : suc n - 1 ≡ n = omega arith in
    go k h z.one z.others z.place z.reads z.are (q i z.one z.place z.reads)
    (λ k h. many_nth r steady w s q n z.place z.others j (rw e at z.rest) k h)
  where
    go : (k : ℕ) → k < suc n → (y : A) (ys : List A) (m : ℕ) → Reads r s i y m → y ∷ ys ≡ xs → i + w ≡ m →
        ((k : ℕ) → k < n → Placed r s (at ys k) (some (m + w * k))) → Placed r s (at xs k) (some (i + w * k))
    go zero h y ys m u v t rec = let e : i ≡ i + w * 0 = rw (mul-zero w) (omega arith) in rw (← v, ← e) (there u)
    go (suc k) h y ys m u v t rec =
        let e : m + w * k ≡ i + w * suc k = omega (arith, mul-suc w k) in
        rw (← v, ← e) (rec k (omega arith))

-- the element with a number has a place
pub many_place : {A : Type 0} (r : Reader A) → Steady r → (n : ℕ) (s : Bytes) (i : ℕ) (xs : List A) (j : ℕ) → Reads (many n r) s i xs j → (k : ℕ)
    (x : A) → at xs k ≡ some x → (a e : ℕ) × Reads r s a x e
many_place r steady zero s i xs j p k x q = let z = reads_done r 0 s i xs j (omega arith) p in absurd (none_some (rw z.0 at q))
many_place {A} r steady (suc n) s i xs j p k x q =
    let z = reads_left r steady (suc n) s i xs j (omega arith) p in
    let e : suc n - 1 ≡ n = omega arith in
    go k z.one z.others z.place z.reads z.are q (λ k x q. many_place r steady n s z.place z.others j (rw e at z.rest) k x q)
  where
    go : (k : ℕ) (y : A) (ys : List A) (m : ℕ) → Reads r s i y m → y ∷ ys ≡ xs → at xs k ≡ some x →
        ((k : ℕ) (x : A) → at ys k ≡ some x → (a e : ℕ) × Reads r s a x e) → (a e : ℕ) × Reads r s a x e
    go zero y ys m u v q rec = let q' : some y ≡ some x = ap (λ (l : List A). at l 0) v ∙ q in let w : y ≡ x = some-injective _ _ q' in
        (i, m, rw (← w) u)
    go (suc k) y ys m u v q rec = rec k x (ap (λ (l : List A). at l (suc k)) v ∙ q)
