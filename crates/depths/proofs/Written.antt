-- The depths of a file's classes written to the table: a class with a parent takes five bytes, so that no two have one field.
-- Assumes nothing.
use Prim.Native.Nat.{ℕ, ◌+◌, ◌-◌, ◌*◌, ◌/◌, ◌≤◌, ◌<◌}
use native.Mathlib.Omega.{arith}
use native.Mathlib.Decide.{dec_le}
use mathlib.Core.Path.{◌≡◌, refl, sym, ◌∙◌, ap, subst}
use mathlib.Core.Bool.{Bool, true, false}
use mathlib.Core.List.{List}
use mathlib.Core.Option.{some}
use lib.Dec.{eqb}
use lib.ListN.{length, get_or, get_or-eq_default}
use borrow.Author.Tests.{eq-eqb, ne_eqb}
use Rattle.rules.specs.Bytes.{Bytes, Aid, pick, at, u1, many}
use Rattle.rules.specs.Package.{Limits, Format, format_of, most_methods, Class, Package, class_number, method, class, read_file}
use Rattle.rules.proofs.Tests.{none_some}
use Rattle.bits.specs.Bits.{with_field}
use Rattle.places.specs.Reads.{Reads}
use Rattle.places.proofs.Steady.{steady_u1, steady_number, steady_method, steady_many}
use Rattle.places.proofs.Inverse.{reads_forward, reads_u1, reads_counted}
use Rattle.places.proofs.Parts.{class_part, number_part}
use Rattle.places.proofs.Track.{placed_none, many_wide}
use Rattle.files.specs.Say.{Readable, ClassThere, AfterClass}
use Rattle.named.specs.Named.{Stands, first, next, ClassesFrom, ClassFrom}
use Rattle.named.proofs.Rows.{stands_one, from_start, from_next, from_end}
use Rattle.depths.specs.Depths.{kept_field, DepthsFit, FileKeptTo, FileKept, depth_field}

-- a class takes a byte or more, and five with a parent
class_five : (form : Format) (ds : List Aid) (g : Bytes) (i : ℕ) (k : Class) (j : ℕ) → Reads (class form ds) g i k j → i + 3 + 2 * get_or g (i + 1) 0 ≤ j
class_five form ds g i k j p =
    let t = class_part form ds g i k j p in
    let c = reads_counted form.limits.parents u1 class_number steady_u1 g (i + 1) k.parents t.middle t.parents in
    let u = reads_u1 g (i + 1) c.number c.place c.count in
    let w = many_wide class_number steady_number 2 g (λ i a j q. (number_part g i a j q).next) c.number c.place k.parents t.middle c.list in
    let m = reads_counted most_methods u1 (method form ds) steady_u1 g t.middle k.methods j t.methods in
    let v = reads_u1 g t.middle m.number m.place m.count in
    let z = reads_forward (many m.number (method form ds)) (steady_many m.number (method form ds) (steady_method form ds)) g m.place
    k.methods j m.list in
    omega (arith, u.next, u.byte, w, v.next, z)

pub after_five : (g : Bytes) (i j : ℕ) → ClassThere g i → AfterClass g i j → i + 3 + 2 * get_or g (i + 1) 0 ≤ j
after_five g i j t a =
    let h = class_five (format_of t.0 g) t.1 g i t.2.0 t.2.1 t.2.2 in
    omega (arith, h, a t.0 t.1 t.2.0 t.2.1 t.2.2)

-- its first three bytes are inside
pub three_inside : (g : Bytes) (i : ℕ) → ClassThere g i → i + 2 < length g
three_inside g i t = omega (arith, class_five (format_of t.0 g) t.1 g i t.2.0 t.2.1 t.2.2, t.2.2.to)

-- what is written, by its cases
module _ (w : ℕ) (t : List ℕ) (place parents depth j : ℕ) where
  pub keep_none : parents ≡ 0 → depth_field w t j ≡ kept_field w t place parents depth j
  keep_none e = rw (eq-eqb parents 0 e) refl

  pub keep_some : (parents ≡ 0 → ⊥) → with_field (depth_field w t) (place / 5) (depth - 1) j ≡ kept_field w t place parents depth j
  keep_some e = rw (ne_eqb parents 0 e) refl

module _ (g : Bytes) (r : Readable g) where
  -- a later class stands behind an earlier one
  pub stands_apart : (m a n b : ℕ) → Stands g m a → Stands g n b → m < n → a + 3 + 2 * get_or g (a + 1) 0 ≤ b
  stands_apart m a n b s q h = go n b q h
    where
      go : (n b : ℕ) → Stands g n b → m < n → a + 3 + 2 * get_or g (a + 1) 0 ≤ b
      go _ _ (first p) h = absurd (omega (arith, h))
      go _ _ (next {c = c} {i = i} {j = j} u t p) h = elim (dec_le c m) [
        | yes o ↦ let e : m ≡ c = omega (arith, h) in let z : a ≡ i = stands_one g r c a i (rw e at s) u in let v = after_five g i j t p in rw z v
        | no o ↦ let v = go c i u (omega arith) in let w = after_five g i j t p in omega (arith, v, w)
      ]

-- the place that is reached by walking is the one that the classes left are read from
pub stands_from : (g : Bytes) → Readable g → (c i : ℕ) → Stands g c i → ClassesFrom g c i
stands_from g r _ _ (first {i = i} h) = from_start g i h
stands_from g r _ _ (next {c = c} {i = i} {j = j} s t a) =
    from_next g c i j r (record { inside = omega (arith, three_inside g i t); rest = stands_from g r c i s }) a

-- a class that a file has stands before the file's end
pub stands_class : (l : Limits) (g : Bytes) (p : Package) (n i : ℕ) (k : Class) → read_file l g ≡ some p → at p.classes n ≡ some k →
    Stands g n i → ClassFrom g n i
stands_class l g p n i k e q s = record { inside = inside; rest = rest }
  where
    rest : ClassesFrom g n i
    rest = stands_from g (l, p, e) n i s

    inside : i < length g
    inside = elim (dec_le (length g) i) [
      | yes h ↦ absurd (none_some (sym (placed_none (from_end g n i rest h n (omega arith) l p e)) ∙ q))
      | no h ↦ omega arith
    ]

module _ (w : ℕ) (g : Bytes) (from : ℕ) (ds : List ℕ) where
  pub kept_start : (t : List ℕ) → FileKeptTo w g from ds t 0
  kept_start t m i h = absurd (omega arith)

  module _ (r : Readable g) (fit : DepthsFit w g ds) (old new : List ℕ) (n i : ℕ) (s : Stands g n i)
      (put : (j : ℕ) → depth_field w new j ≡ kept_field w old (from + i) (get_or g (i + 1) 0) (get_or ds n 0) j) where
    same : (j : ℕ) → (j ≡ (from + i) / 5 → ⊥) → depth_field w new j ≡ depth_field w old j
    unfolding with_field
    same j ne = put j ∙ go (eqb (get_or g (i + 1) 0) 0)
      where
        go : (b : Bool) → pick b (depth_field w old j) (pick (eqb j ((from + i) / 5)) (get_or ds n 0 - 1) (depth_field w old j)) ≡ depth_field w old j
        go true = refl
        go false = rw (ne_eqb j ((from + i) / 5) ne) refl

    here : 0 < get_or g (i + 1) 0 → depth_field w new ((from + i) / 5) + 1 ≡ get_or ds n 0
    unfolding with_field
    here h =
        let z : get_or g (i + 1) 0 ≡ 0 → ⊥ = λ e. omega (arith, e, h) in
        let e : depth_field w new ((from + i) / 5) ≡ get_or ds n 0 - 1 = put ((from + i) / 5) ∙ ap
        (λ (b : Bool). pick b (depth_field w old ((from + i) / 5)) (pick (eqb ((from + i) / 5) ((from + i) / 5)) (get_or ds n 0 - 1)
        (depth_field w old ((from + i) / 5)))) (ne_eqb (get_or g (i + 1) 0) 0 z) ∙ ap (λ (b : Bool). pick b (get_or ds n 0 - 1) (depth_field w old ((from + i) / 5)))
        (eq-eqb ((from + i) / 5) ((from + i) / 5) refl) in
        omega (arith, e, (fit.fit n i s h).0)

    pub kept_more : FileKeptTo w g from ds old n → FileKeptTo w g from ds new (n + 1)
    kept_more k m a h q z = elim (dec_le n m) [
      | yes o ↦ let e : n ≡ m = omega (arith, h) in let j : i ≡ a = stands_one g r m i a (subst (λ (v : ℕ). Stands g v i) e s) q in subst
          (λ (v : ℕ). depth_field w new ((from + v) / 5) + 1 ≡ get_or ds m 0) j
          (subst (λ (v : ℕ). depth_field w new ((from + i) / 5) + 1 ≡ get_or ds v 0) e (here (rw j z)))
      | no o ↦
          let p = stands_apart g r m a n i q s (omega arith) in
          ap (λ (v : ℕ). v + 1) (same ((from + a) / 5) (λ e. omega (arith, e, p, z))) ∙ k m a (omega arith) q z
    ]

    pub below_more : (j : ℕ) → j < from / 5 → depth_field w new j ≡ depth_field w old j
    below_more j h = same j (λ e. omega (arith, e, h))

  -- behind the last class
  pub kept_done : (t : List ℕ) (n i : ℕ) → Readable g → Stands g n i → length g ≤ i → FileKeptTo w g from ds t n → FileKept w g from ds t
  kept_done t n i r s h k m a q z = elim (dec_le n m) [
    | yes o ↦ absurd (behind o)
    | no o ↦ k m a (omega arith) q z
  ]
    where
      out : length g ≤ a → ⊥
      out l = let e : get_or g (a + 1) 0 ≡ 0 = get_or-eq_default g 0 (omega (arith, l)) in omega (arith, e, z)

      behind : n ≤ m → ⊥
      behind o = elim (dec_le m n) [
        | yes l ↦ let e : n ≡ m = omega arith in let j : i ≡ a = stands_one g r m i a (subst (λ (v : ℕ). Stands g v i) e s) q in out (omega (arith, h, j))
        | no l ↦ let v = stands_apart g r n i m a s q (omega arith) in out (omega (arith, v, h))
      ]
