-- A file's classes walked from a place on, and what a row tells of them. Assumes nothing.
use Rattle.std.specs.Prelude.{ℕ, Some, None}
use Rattle.std.specs.Prelude.{Option as Optional}
use Prim.Native.Nat.{ℕ, zero, suc, ◌+◌, ◌-◌, ◌≤◌, ◌<◌}
use native.Mathlib.Omega.{arith}
use mathlib.Core.Path.{◌≡◌, refl, sym, ◌∙◌}
use mathlib.Core.Bool.{Bool, true, false}
use mathlib.Core.List.{List, [], ◌∷◌}
use mathlib.Core.Option.{none, some}
use lib.Dec.{eqb}
use lib.ListN.{length, drop, get_or, set, length-set}
use lib.Seq.{get_or-set_same, get_or-set_other}
use borrow.Author.Tests.{eqb-true, eqb-false}
use Rattle.rules.specs.Bytes.{Bytes, at, u1, u2, aid, many, counted}
use Rattle.rules.specs.Code.{u2_at}
use Rattle.rules.specs.Package.{Limits, format_of, most_domains, most_imports, most_references, most_classes, Class, Package, reference, class, read_file}
use Rattle.places.specs.Reads.{Reads, Placed}
use Rattle.places.proofs.Steady.{steady_u1, steady_class}
use Rattle.places.specs.Parts.{FilePart}
use Rattle.places.proofs.Inverse.{reads_same, reads_counted, reads_u1, reads_left, reads_done}
use Rattle.places.proofs.Parts.{class_part, file_parts}
use Rattle.places.proofs.Track.{put, put_none, many_length, counted_inside}
use Rattle.files.specs.Say.{Readable, ClassThere, AfterClass, ClassesAt, ClassPlaced}
use Rattle.files.proofs.Walks.{classes_read}
use Rattle.named.specs.Named.{Stands, first, next, ClassesFrom, ClassFrom, ClassStands, RowTrue, Beside}

-- behind the end of a list
pub at_none : {A : Type 0} (xs : List A) (k : ℕ) → length xs ≤ k → at xs k ≡ none
at_none [] k h = refl
at_none (x ∷ xs) zero h = absurd (omega arith)
at_none (x ∷ xs) (suc k) h = at_none xs k (omega arith)

-- what is left behind c elements
pub at_left : {A : Type 0} (xs : List A) (c : ℕ) (y : A) (ys : List A) → y ∷ ys ≡ drop c xs → (at xs c ≡ some y) × (ys ≡ drop (c + 1) xs)
at_left [] zero y ys e = let z : ◌≡◌ {A = ℕ} 0 1 = cc in absurd (omega arith)
at_left [] (suc c) y ys e = let z : ◌≡◌ {A = ℕ} 0 1 = cc in absurd (omega arith)
at_left (x ∷ xs) zero y ys e = (cc, cc)
at_left (x ∷ xs) (suc c) y ys e = let z = at_left xs c y ys e in let q : suc c + 1 ≡ suc (c + 1) = omega arith in (z.0, rw q z.1)

-- a file has at most 32 classes
pub classes_few : (l : Limits) (g : Bytes) (p : Package) → read_file l g ≡ some p → length p.classes ≤ most_classes
classes_few l g p e =
    let t = file_parts l g p e in
    let c = reads_counted most_classes u1 (class (format_of l g) p.domains) steady_u1 g t.classes_at p.classes (length g) t.classes in
    omega (
      arith,
      c.small,
      many_length (class (format_of l g) p.domains) (steady_class (format_of l g) p.domains) c.number g c.place
          p.classes (length g) c.list,
    )

-- its first class stands behind their count
pub from_start : (g : Bytes) (i : ℕ) → ClassesAt g i → ClassesFrom g 0 (i + 1)
from_start g i h = record { stands = first h; left = left }
  where
    left : (l : Limits) (p : Package) → read_file l g ≡ some p →
        Reads (many (length p.classes - 0) (class (format_of l g) p.domains)) g (i + 1) p.classes (length g)
    left l p e =
        let c = reads_counted most_classes u1 (class (format_of l g) p.domains) steady_u1 g i p.classes (length g) (classes_read h l p e) in
        let u = reads_u1 g i c.number c.place c.count in
        let n : length p.classes - 0 ≡ c.number = omega (
          arith,
          many_length (class (format_of l g) p.domains) (steady_class (format_of l g) p.domains) c.number g
              c.place p.classes (length g) c.list,
        ) in
        rw (n, u.next) c.list

-- the class at hand
pub record Front (g : Bytes) (c i : ℕ) (l : Limits) (p : Package) : Type 0 where
  pub one : Class
  pub end : ℕ
  pub is : at p.classes c ≡ some one
  pub reads : Reads (class (format_of l g) p.domains) g i one end
  pub rest : Reads (many (length p.classes - (c + 1)) (class (format_of l g) p.domains)) g end (drop (c + 1) p.classes) (length g)

module _ (g : Bytes) (c i : ℕ) where
  pub from_front : ClassFrom g c i → (l : Limits) (p : Package) → read_file l g ≡ some p → Front g c i l p
  from_front h l p e = go (length p.classes - c) refl (h.rest.left l p e)
    where
      go : (n : ℕ) → n ≡ length p.classes - c → Reads (many n (class (format_of l g) p.domains)) g i (drop c p.classes) (length g) → Front g c i l p
      go zero q r = let z = reads_done (class (format_of l g) p.domains) 0 g i (drop c p.classes) (length g) (omega arith) r in absurd
          (omega (arith, z.1, h.inside))
      go (suc n) q r =
          let z = reads_left (class (format_of l g) p.domains) (steady_class (format_of l g) p.domains) (suc n) g i (drop c p.classes)
          (length g) (omega arith) r in
          let y = at_left p.classes c z.one z.others z.are in
          let m : suc n - 1 ≡ length p.classes - (c + 1) = omega (arith, q) in
          record { one = z.one; end = z.place; is = y.0; reads = z.reads; rest = rw (← m, ← y.1) z.rest }

  -- its record stands there, and the next class behind it
  pub from_there : ClassFrom g c i → Readable g → ClassThere g i
  from_there h r = let z = from_front h r.0 r.1 r.2 in (r.0, r.1.domains, (z.one, z.end, z.reads))

  pub from_placed : ClassFrom g c i → ClassPlaced g c (Some i)
  from_placed h l p e = let z = from_front h l p e in put z.is z.reads

  pub from_next : (d : ℕ) → Readable g → ClassFrom g c i → AfterClass g i d → ClassesFrom g (c + 1) d
  from_next d r h a = record { stands = next h.rest.stands (from_there h r) a; left = left }
    where
      left : (l : Limits) (p : Package) → read_file l g ≡ some p → Reads (many (length p.classes - (c + 1)) (class (format_of l g) p.domains)) g d
          (drop (c + 1) p.classes) (length g)
      left l p e = let z = from_front h l p e in let q = a l p.domains z.one z.end z.reads in rw q z.rest

  -- at the file's end there is no class more
  pub from_end : ClassesFrom g c i → length g ≤ i → (k : ℕ) → c ≤ k → ClassPlaced g k None
  from_end h le k ck l p e = go (length p.classes - c) refl (h.left l p e)
    where
      go : (n : ℕ) → n ≡ length p.classes - c → Reads (many n (class (format_of l g) p.domains)) g i (drop c p.classes) (length g) → Placed
          (class (format_of l g) p.domains) g (at p.classes k) none
      go zero q r = put_none (at_none p.classes k (omega (arith, q)))
      go (suc n) q r =
          let z = reads_left (class (format_of l g) p.domains) (steady_class (format_of l g) p.domains) (suc n) g i (drop c p.classes)
          (length g) (omega arith) r in
          let t = class_part (format_of l g) p.domains g i z.one z.place z.reads in
          absurd (omega (arith, le, t.inside))

-- behind the greatest count
pub placed_behind : (g : Bytes) (c : ℕ) → most_classes ≤ c → ClassPlaced g c None
placed_behind g c h l p e = put_none (at_none p.classes c (omega (arith, classes_few l g p e)))

-- the file's length
pub file_size : (g : Bytes) → Readable g → (6 < length g) × (u2_at g 5 ≡ length g)
file_size g r = let t = file_parts r.0 g r.1 r.2 in (omega (arith, t.named.from), t.size)

-- the classes' count is inside
pub classes_inside : (g : Bytes) (i : ℕ) → Readable g → ClassesAt g i → i < length g
classes_inside g i r h = counted_inside (class (format_of r.0 g) r.1.domains) g most_classes i r.1.classes (length g)
    (classes_read h r.0 r.1 r.2)

-- a place before the file's end
pub from_inside : (g : Bytes) (c i size : ℕ) → Readable g → size ≡ u2_at g 5 → i < size → ClassesFrom g c i → ClassFrom g c i
from_inside g c i size r e h q = record { inside = omega (arith, (file_size g r).1, e, h); rest = q }

-- the place that the row tells
pub told_stands : (g : Bytes) (rows : List ℕ) (base c k : ℕ) → RowTrue g rows base → c < most_classes → k ≡ get_or rows (base + c) 0 → (k ≡ 0 → ⊥) →
    ClassFrom g c k
told_stands g rows base c k t h e n = let z : 0 < get_or rows (base + c) 0 = omega (arith, e, n) in rw e (t.told c h z)

-- a place as it is read
pub stands_placed : (g : Bytes) (c : ℕ) (r : Optional ℕ) → ClassStands g c r → ClassPlaced g c r
stands_placed g c (Some i) h = from_placed g c i h
stands_placed g c None h = h

-- a class stands at one place
module _ (g : Bytes) (r : Readable g) where
  parts_one : (t u : FilePart r.0 g r.1) → t.classes_at ≡ u.classes_at
  parts_one t u =
      let p = r.1 in
      let a = (reads_same aid g 7 p.aid p.aid t.domains_at u.domains_at t.named u.named).1 in
      let b = (reads_same (counted most_domains u1 aid) g t.domains_at p.domains p.domains t.imports_at u.imports_at t.domains
      (rw a u.domains)).1 in
      let c = (reads_same (counted most_imports u1 aid) g t.imports_at p.imports p.imports t.references_at u.references_at t.imports
      (rw b u.imports)).1 in
      (reads_same (counted most_references u2 reference) g t.references_at p.references p.references t.classes_at u.classes_at t.references
      (rw c u.references)).1

  first_one : (i j : ℕ) → ClassesAt g i → ClassesAt g j → i ≡ j
  first_one i j a b = let t = a r.0 r.1 r.2 in let u = b r.0 r.1 r.2 in sym t.1 ∙ parts_one t.0 u.0 ∙ u.1

  next_one : (i j k : ℕ) → ClassThere g i → AfterClass g i j → AfterClass g i k → j ≡ k
  next_one i j k t a b = a t.0 t.1 t.2.0 t.2.1 t.2.2 ∙ sym (b t.0 t.1 t.2.0 t.2.1 t.2.2)

  pub stands_one : (c i j : ℕ) → Stands g c i → Stands g c j → i ≡ j
  stands_one c i j a b = go c i a c j b refl
    where
      go : (c i : ℕ) → Stands g c i → (d j : ℕ) → Stands g d j → c ≡ d → i ≡ j
      go _ _ (first {i = a} p) _ _ (first {i = b} q) e = let z = first_one a b p q in omega (arith, z)
      go _ _ (first p) _ _ (next {c = d} s t q) e = absurd (omega (arith, e))
      go _ _ (next {c = c} s t p) _ _ (first q) e = absurd (omega (arith, e))
      go _ _ (next {c = c} {i = i} {j = m} s t p) _ _ (next {c = d} {i = j} {j = n} u v q) e =
          let z : i ≡ j = go c i s d j u (omega (arith, e)) in
          next_one i m n t p (rw z q)

-- where the walk starts
pub walk_start : (g : Bytes) (rows : List ℕ) (base c j place : ℕ) → RowTrue g rows base → c < most_classes → j ≤ c → (0 < j → 0 < get_or rows (base + j) 0) →
    (get_or rows (base + j) 0 ≡ 0 → ClassesFrom g 0 place) → (0 < get_or rows (base + j) 0 → place ≡ get_or rows (base + j) 0) → ClassesFrom g j place
walk_start g rows base c zero place t hc hj k a b = go (get_or rows (base + 0) 0) refl
  where
    go : (n : ℕ) → get_or rows (base + 0) 0 ≡ n → ClassesFrom g 0 place
    go zero e = a e
    go (suc n) e = let h : 0 < get_or rows (base + 0) 0 = omega (arith, e) in let r : ClassesFrom g 0 (get_or rows (base + 0) 0) =
        (t.told 0 (omega arith) h).rest in rw (b h) r
walk_start g rows base c (suc j) place t hc hj k a b = let h = k (omega arith) in let r : ClassesFrom g (suc j) (get_or rows (base + suc j) 0) =
    (t.told (suc j) (omega arith) h).rest in rw (b h) r

pub beside_same : (rows : List ℕ) (base : ℕ) → Beside rows rows base
beside_same rows base = record { below = λ i h. refl; above = λ i h. refl }

-- a place is written
module _ (g : Bytes) (rows : List ℕ) (base n i : ℕ) (hn : n < most_classes) (t : RowTrue g rows base) where
  pub row_written : ClassFrom g n i → RowTrue g (set rows (base + n) i) base
  row_written h = record { room = simp length-set t.room; told = told }
    where
      told : (c : ℕ) → c < most_classes → 0 < get_or (set rows (base + n) i) (base + c) 0 → ClassFrom g c (get_or (set rows (base + n) i) (base + c) 0)
      told c hc = go (eqb c n) refl
        where
          go : (b : Bool) → eqb c n ≡ b → 0 < get_or (set rows (base + n) i) (base + c) 0 → ClassFrom g c (get_or (set rows (base + n) i) (base + c) 0)
          go true e = rw (eqb-true c n e, get_or-set_same rows (base + n) i 0 (omega (arith, t.room))) (λ z. h)
          go false e = let ne = eqb-false c n e in rw (get_or-set_other rows (base + n) (base + c) i 0 (λ q. ne (omega (arith, q)))) (t.told c hc)

pub beside_written : (old rows : List ℕ) (base n i : ℕ) → n < most_classes → Beside old rows base → Beside old (set rows (base + n) i) base
beside_written old rows base n i hn b = record {
  below = λ k h. get_or-set_other rows (base + n) k i 0 (λ q. omega (arith, q, h)) ∙ b.below k h;
  above = λ k h. get_or-set_other rows (base + n) k i 0 (λ q. omega (arith, q, h, hn)) ∙ b.above k h;
}
