-- What a reader that read says of its parts: one law for each combinator of readers. Assumes nothing.
use Prim.Native.Nat.{ℕ, zero, suc, ◌+◌, ◌-◌, ◌*◌, ◌≤◌, ◌<◌}
use native.Mathlib.Omega.{arith}
use native.Mathlib.Decide.{dec_le}
use mathlib.Core.Path.{◌≡◌, sym, ◌∙◌, ap, subst}
use mathlib.Core.Bool.{Bool, true, false}
use mathlib.Core.List.{List, [], ◌∷◌}
use mathlib.Core.Option.{some, some-injective}
use lib.Dec.{T, leb, leb→le}
use lib.ListN.{length, take, drop, get_or, length-drop}
use lib.Seq.{drop-drop}
use Rattle.rules.specs.Bytes.{Bytes, Reader, ◌>>=◌, ret, when, u1, u2, span, many, counted}
use Rattle.rules.proofs.Tests.{none_some, and_then_is}
use Rattle.rules.proofs.Lists.{pick_some}
use Rattle.rules.specs.Code.{u2_at}
use Rattle.places.specs.Reads.{Reads}
use Rattle.places.proofs.Steady.{Steady, steady_u1, steady_u2, steady_many, u1_none, u1_some}

-- a place is known by what is left there
pub drop_same : (s : Bytes) (i j : ℕ) → i ≤ length s → j ≤ length s → drop i s ≡ drop j s → i ≡ j
drop_same s i j h k e = omega (arith, ap length e, length-drop i s, length-drop j s)

-- a reader that reads two things at a place reads one
pub reads_same : {A : Type 0} (r : Reader A) (s : Bytes) (i : ℕ) (a a' : A) (j j' : ℕ) → Reads r s i a j → Reads r s i a' j' → (a ≡ a') × (j ≡ j')
reads_same {A} r s i a a' j j' p q =
    let e : ◌≡◌ {A = A × Bytes} (a, drop j s) (a', drop j' s) = some-injective _ _ (sym p.is ∙ q.is) in
    (ap (λ (x : A × Bytes). x.0) e, drop_same s j j' p.to q.to (ap (λ (x : A × Bytes). x.1) e))

-- a reader goes forward
pub reads_forward : {A : Type 0} (r : Reader A) → Steady r → (s : Bytes) (i : ℕ) (a : A) (j : ℕ) → Reads r s i a j → i ≤ j
reads_forward {A} r steady s i a j p =
    let l = steady (drop i s) (a, drop j s) p.is in
    omega (arith, ap length l.is, length-drop i s, length-drop j s, length-drop l.taken (drop i s), l.within, p.from, p.to)

pub reads_ret : {A : Type 0} (a : A) (s : Bytes) (i : ℕ) (b : A) (j : ℕ) → Reads (ret a) s i b j → (a ≡ b) × (i ≡ j)
reads_ret {A} a s i b j p =
    let e : ◌≡◌ {A = A × Bytes} (a, drop i s) (b, drop j s) = some-injective _ _ p.is in
    (ap (λ (x : A × Bytes). x.0) e, drop_same s i j p.from p.to (ap (λ (x : A × Bytes). x.1) e))

module _ {A B : Type 0} (r : Reader A) (k : A → Reader B) (steady : Steady r) where
  pub reads_bind : (s : Bytes) (i : ℕ) (b : B) (j : ℕ) → Reads (r >>= k) s i b j → (a : A) × (m : ℕ) × Reads r s i a m × Reads (k a) s m b j
  reads_bind s i b j p =
      let x = and_then_is (r (drop i s)) (λ x. k x.0 x.1) (b, drop j s) p.is in
      let l = steady (drop i s) x.0 x.1 in
      let n : length (drop i s) ≡ length s - i = length-drop i s in
      let t : i + l.taken ≤ length s = omega (arith, p.from, l.within) in
      let e : x.0.1 ≡ drop (i + l.taken) s = l.is ∙ drop-drop l.taken i s in
      (x.0.0, i + l.taken, made x.0 (i + l.taken) e t p.from x.1, make x.0 (i + l.taken) e t x.2 p.to)
    where
      made : (x : A × Bytes) (m : ℕ) → x.1 ≡ drop m s → m ≤ length s → i ≤ length s → r (drop i s) ≡ some x → Reads r s i x.0 m
      made x m e t f q = record { is = q ∙ ap (λ (z : Bytes). some (x.0, z)) e; from = f; to = t }

      make : (x : A × Bytes) (m : ℕ) → x.1 ≡ drop m s → m ≤ length s → k x.0 x.1 ≡ some (b, drop j s) → j ≤ length s → Reads (k x.0) s m b j
      make x m e t q g = record { is = ap (k x.0) (sym e) ∙ q; from = t; to = g }

pub reads_when : {A : Type 0} (b : Bool) (r : Reader A) (s : Bytes) (i : ℕ) (a : A) (j : ℕ) → Reads (when b r) s i a j → T b × Reads r s i a j
reads_when true r s i a j p = (tt, record { is = p.is; from = p.from; to = p.to })
reads_when false r s i a j p = absurd (none_some p.is)

-- fields
pub record One (s : Bytes) (i a j : ℕ) : Type 0 where
  pub inside : i < length s
  pub byte : get_or s i 0 ≡ a
  pub next : i + 1 ≡ j

pub reads_u1 : (s : Bytes) (i a j : ℕ) → Reads u1 s i a j → One s i a j
reads_u1 s i a j p = elim (dec_le (length s) i) [
  | yes h ↦ absurd (none_some (sym (u1_none s i h) ∙ p.is))
  | no h ↦
      let l : i < length s = omega arith in
      let e : ◌≡◌ {A = ℕ × Bytes} (get_or s i 0, drop (i + 1) s) (a, drop j s) = some-injective _ _ (sym (u1_some s i l) ∙ p.is) in
      record { inside = l; byte = ap (λ (x : ℕ × Bytes). x.0) e; next = drop_same s (i + 1) j (omega arith) p.to (ap (λ (x : ℕ × Bytes). x.1) e) }
]

pub record Two (s : Bytes) (i a j : ℕ) : Type 0 where
  pub inside : i + 1 < length s
  pub value : u2_at s i ≡ a
  pub next : i + 2 ≡ j

pub reads_u2 : (s : Bytes) (i a j : ℕ) → Reads u2 s i a j → Two s i a j
reads_u2 s i a j p =
    let x = reads_bind u1 (λ h. u1 >>= λ l. ret (h * 256 + l)) steady_u1 s i a j p in
    let y = reads_bind u1 (λ l. ret (x.0 * 256 + l)) steady_u1 s x.1 a j x.3 in
    let z = reads_ret (x.0 * 256 + y.0) s y.1 a j y.3 in
    let u = reads_u1 s i x.0 x.1 x.2 in
    let v = reads_u1 s x.1 y.0 y.1 y.2 in
    let b : get_or s (i + 1) 0 ≡ y.0 = ap (λ (n : ℕ). get_or s n 0) u.next ∙ v.byte in
    record { inside = omega (arith, u.next, v.inside); value = rw (u.byte, b) z.0; next = omega (arith, u.next, v.next, z.1) }

pub record Span (s : Bytes) (n i : ℕ) (x : Bytes) (j : ℕ) : Type 0 where
  pub inside : i + n ≤ length s
  pub bytes : take n (drop i s) ≡ x
  pub next : i + n ≡ j

pub reads_span : (n : ℕ) (s : Bytes) (i : ℕ) (x : Bytes) (j : ℕ) → Reads (span n) s i x j → Span s n i x j
reads_span n s i x j p =
    let q = pick_some (leb n (length (drop i s))) (some (take n (drop i s), drop n (drop i s))) (x, drop j s) p.is in
    let h : n ≤ length (drop i s) = leb→le n (length (drop i s)) q.0 in
    let l : i + n ≤ length s = omega (arith, p.from, length-drop i s) in
    let e : ◌≡◌ {A = Bytes × Bytes} (take n (drop i s), drop n (drop i s)) (x, drop j s) = some-injective _ _ q.1 in
    let d : drop (i + n) s ≡ drop j s = sym (drop-drop n i s) ∙ ap (λ (y : Bytes × Bytes). y.1) e in
    record { inside = l; bytes = ap (λ (y : Bytes × Bytes). y.0) e; next = drop_same s (i + n) j l p.to d }

-- lists
module _ {A : Type 0} (r : Reader A) (steady : Steady r) where
  pub record First (n : ℕ) (s : Bytes) (i : ℕ) (xs : List A) (j : ℕ) : Type 0 where
    pub one : A
    pub others : List A
    pub place : ℕ
    pub reads : Reads r s i one place
    pub rest : Reads (many n r) s place others j
    pub are : one ∷ others ≡ xs

  pub reads_many : (n : ℕ) (s : Bytes) (i : ℕ) (xs : List A) (j : ℕ) → Reads (many (suc n) r) s i xs j → First n s i xs j
  reads_many n s i xs j p =
      let x = reads_bind r (λ x. many n r >>= λ xs. ret (x ∷ xs)) steady s i xs j p in
      let y = reads_bind (many n r) (λ ys. ret (x.0 ∷ ys)) (steady_many n r steady) s x.1 xs j x.3 in
      let z = reads_ret (x.0 ∷ y.0) s y.1 xs j y.3 in
      record { one = x.0; others = y.0; place = x.1; reads = x.2; rest = subst (λ (k : ℕ). Reads (many n r) s x.1 y.0 k) z.1 y.2; are = z.0 }

  -- with a number that code counts down
  pub reads_left : (n : ℕ) (s : Bytes) (i : ℕ) (xs : List A) (j : ℕ) → 0 < n → Reads (many n r) s i xs j → First (n - 1) s i xs j
  reads_left zero s i xs j h p = absurd (omega arith)
  reads_left (suc n) s i xs j h p = let e : n ≡ suc n - 1 = omega arith in subst (λ (k : ℕ). First k s i xs j) e (reads_many n s i xs j p)

pub reads_done : {A : Type 0} (r : Reader A) (n : ℕ) (s : Bytes) (i : ℕ) (xs : List A) (j : ℕ) → n ≤ 0 → Reads (many n r) s i xs j → (xs ≡ []) × (i ≡ j)
reads_done r zero s i xs j h p = let z = reads_ret [] s i xs j p in (sym z.0, z.1)
reads_done r (suc n) s i xs j h p = absurd (omega arith)

pub record Counted {A : Type 0} (most : ℕ) (c : Reader ℕ) (r : Reader A) (s : Bytes) (i : ℕ) (xs : List A) (j : ℕ) : Type 0 where
  pub number : ℕ
  pub place : ℕ
  pub count : Reads c s i number place
  pub small : number ≤ most
  pub list : Reads (many number r) s place xs j

pub reads_counted : {A : Type 0} (most : ℕ) (c : Reader ℕ) (r : Reader A) → Steady c → (s : Bytes) (i : ℕ) (xs : List A) (j : ℕ) → Reads
    (counted most c r) s i xs j → Counted most c r s i xs j
reads_counted most c r steady s i xs j p =
    let x = reads_bind c (λ n. when (leb n most) (many n r)) steady s i xs j p in
    let y = reads_when (leb x.0 most) (many x.0 r) s x.1 xs j x.3 in
    record { number = x.0; place = x.1; count = x.2; small = leb→le x.0 most y.0; list = y.1 }

-- a list with its count takes the count's bytes or more
module _ {A : Type 0} (most : ℕ) (r : Reader A) (steady : Steady r) (s : Bytes) (i : ℕ) (xs : List A) (j : ℕ) where
  pub counted_one : Reads (counted most u1 r) s i xs j → i + 1 ≤ j
  counted_one p =
      let c = reads_counted most u1 r steady_u1 s i xs j p in
      let h = reads_forward (many c.number r) (steady_many c.number r steady) s c.place xs j c.list in
      omega (arith, (reads_u1 s i c.number c.place c.count).next)

  pub counted_two : Reads (counted most u2 r) s i xs j → i + 2 ≤ j
  counted_two p =
      let c = reads_counted most u2 r steady_u2 s i xs j p in
      let h = reads_forward (many c.number r) (steady_many c.number r steady) s c.place xs j c.list in
      omega (arith, (reads_u2 s i c.number c.place c.count).next)
