-- Questions 18 and 19 over a list in the file being judged, element by element: start, turn and end. Assumes nothing.
use native.Mathlib.Omega.{arith}
use Prim.Native.Nat.{ℕ, suc, ◌+◌, ◌-◌, ◌≤◌, ◌<◌}
use mathlib.Core.Path.{◌≡◌, sym, subst}
use mathlib.Core.Bool.{Bool}
use mathlib.Core.List.{List, ◌∷◌}
use lib.Dec.{T}
use lib.ListN.{get_or}
use Rattle.rules.specs.Bytes.{Bytes, Aid, Reader, all, u1, many, counted}
use Rattle.rules.specs.Store.{Entry}
use Rattle.rules.specs.Classes.{Installed}
use Rattle.rules.proofs.Tests.{and_l, and_r}
use Rattle.places.specs.Reads.{Reads, EndsAt}
use Rattle.places.proofs.Steady.{Steady, steady_u1}
use Rattle.places.proofs.Inverse.{reads_left, reads_counted, reads_u1}
use Rattle.refusals.specs.Order.{first_of, Asks, no_of, no_of_all, numbers, rising}
use Rattle.refusals.proofs.Walks.{NumberLoop, numbers_start, numbers_on, numbers_done}
use Rattle.references.specs.Setting.{Loading}
use Rattle.calls.specs.Calls.{Asking}
use Rattle.calls.specs.Calls.{Reading}

-- of a list, each element of which passes a test
module _ {A : Type 0} (r : Reader A) (steady : Steady r) (p : A → Bool) (s : Bytes) where
  reading_start : (most i n : ℕ) → n ≡ get_or s i 0 → Reading (counted most u1 r) (all p) s i → Reading (many n r) (all p) s (i + 1)
  reading_start most i n h x =
      let c = reads_counted most u1 r steady_u1 s i x.0 x.1 x.2 in
      let u = reads_u1 s i c.number c.place c.count in
      (x.0, x.1, rw (h, u.byte, u.next) c.list, x.3)

  module _ (left c : ℕ) (x : Reading (many left r) (all p) s c) where
    reading_one : 0 < left → Reading r p s c
    reading_one h =
        let z = reads_left r steady left s c x.0 x.1 h x.2 in
        let t : T (all p (z.one ∷ z.others)) = subst (λ (ys : List A). T (all p ys)) (sym z.are) x.3 in
        (z.one, z.place, z.reads, and_l (p z.one) (all p z.others) t)

    reading_on : (rest : ℕ) → left ≡ suc rest → (d : ℕ) → EndsAt r s c d → Reading (many rest r) (all p) s d
    reading_on rest h d e =
        let less : left - 1 ≡ rest = omega arith in
        subst (λ (n : ℕ). Reading (many n r) (all p) s d) less let z = reads_left r steady left s c x.0 x.1 (omega arith) x.2 in
        let t : T (all p (z.one ∷ z.others)) = subst (λ (ys : List A). T (all p ys)) (sym z.are) x.3 in
        (z.others, x.1, rw (e z.one z.place z.reads) z.rest, and_r (p z.one) (all p z.others) t)

-- The loop over the list at i of the file being judged, that a reader with its domains reads: `left` elements are still to be read
-- at c; each passes t, and the number of all of the list is that of these after an earlier number.
pub record AskLoop {A : Type 0} (R : List Aid → Reader A) (most : ℕ) (t : A → Bool) (f s : Bytes) (end : ℕ) (d : Aid)
    (qs : Asking f s end d → Asks A) (i past left c : ℕ) : Type 0 where
  pub es : List Entry
  pub self : Installed
  pub loading : Loading f s end es self
  pub rest : Reading (many left (R self.pack.domains)) (all t) f c
  pub numbers : NumberLoop (λ (a : Asking f s end d). R a.self.pack.domains) most qs f i past left c

module _ {A : Type 0} (R : List Aid → Reader A) (steady : (ds : List Aid) → Steady (R ds)) (most : ℕ) (t : A → Bool) {f s : Bytes} {end : ℕ} {d : Aid}
    (qs : Asking f s end d → Asks A) (order : (a : Asking f s end d) → T (rising (numbers (qs a)))) (i : ℕ) where
  -- the reader in a setting, and that it is steady
  abbrev read : Asking f s end d → Reader A
  read a = R a.self.pack.domains

  abbrev reads : (a : Asking f s end d) → Steady (read a)
  reads a = steady a.self.pack.domains

  pub ask_begin : (es : List Entry) (self : Installed) → Loading f s end es self → Reading (counted most u1 (R self.pack.domains)) (all t) f i →
      (n : ℕ) → n ≡ get_or f i 0 → AskLoop R most t f s end d qs i 0 n (i + 1)
  ask_begin es self m x n h = record {
    es = es;
    self = self;
    loading = m;
    rest = reading_start (R self.pack.domains) (steady self.pack.domains) t f most i n h x;
    numbers = numbers_start read reads most qs order f i n h;
  }

  module _ {past left c : ℕ} (l : AskLoop R most t f s end d qs i past left c) where
    module _ (h : 0 < left) where
      pub ask_one : (es : List Entry) × (self : Installed) × Loading f s end es self × Reading (R self.pack.domains) t f c
      ask_one = (l.es, l.self, l.loading, reading_one (R l.self.pack.domains) (steady l.self.pack.domains) t f left c l.rest h)

    pub ask_on : (n rest : ℕ) → left ≡ suc rest → ((a : Asking f s end d) (x : A) (j : ℕ) → Reads (R a.self.pack.domains) f c x j → n ≡ no_of (qs a) x) →
        (m e : ℕ) → m ≡ first_of past n → ((ds : List Aid) → EndsAt (R ds) f c e) → AskLoop R most t f s end d qs i m rest e
    ask_on n rest h b m e w k = record {
      es = l.es;
      self = l.self;
      loading = l.loading;
      rest = reading_on (R l.self.pack.domains) (steady l.self.pack.domains) t f left c l.rest rest h e (k l.self.pack.domains);
      numbers = numbers_on read reads most qs order f i past left c l.numbers n rest h b m e w (λ a. k a.self.pack.domains);
    }

    pub ask_end : left ≤ 0 → (a : Asking f s end d) (xs : List A) (j : ℕ) → Reads (counted most u1 (R a.self.pack.domains)) f i xs j →
        past ≡ no_of_all (qs a) xs
    ask_end = numbers_done read reads most qs order f i past left c l.numbers
