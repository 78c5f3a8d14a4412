-- What the record of a class says by its bytes: kind, parent count, parents. Assumes nothing.
use Prim.Native.Nat.{ℕ, ◌+◌, ◌*◌, ◌<◌}
use native.Mathlib.Omega.{arith}
use mathlib.Core.Path.{◌≡◌, sym, ◌∙◌, ap, subst}
use mathlib.Core.List.{List}
use mathlib.Core.Option.{some, some-injective}
use lib.Dec.{eqb}
use lib.ListN.{length, get_or}
use Rattle.rules.specs.Bytes.{Bytes, Aid, at, u1, many}
use Rattle.rules.specs.Package.{Limits, Format, format_of, ClassNumber, Class, Package, class_number, class, read_file}
use Rattle.places.specs.Reads.{Reads}
use Rattle.places.proofs.Steady.{steady_u1, steady_number}
use Rattle.places.proofs.Inverse.{reads_u1, reads_counted}
use Rattle.places.proofs.Parts.{number_part, class_part}
use Rattle.places.proofs.Track.{placed_at, many_length, many_nth}
use Rattle.named.specs.Named.{ClassFrom}
use Rattle.named.proofs.Rows.{from_front}

-- a parent by its bytes
pub record ParentBy (g : Bytes) (a : ℕ) (k : Class) (i : ℕ) : Type 0 where
  pub number : ClassNumber
  pub listed : at k.parents i ≡ some number
  pub pack : get_or g (a + 2 + 2 * i) 0 ≡ number.pack
  pub class : get_or g (a + 3 + 2 * i) 0 ≡ number.class
  pub to : a + 3 + 2 * i < length g

-- a class by its bytes
pub record RecordBy (g : Bytes) (a : ℕ) (k : Class) : Type 0 where
  pub inside : a + 1 < length g
  pub kind : eqb (get_or g a 0) 1 ≡ k.interface
  pub count : get_or g (a + 1) 0 ≡ length k.parents
  pub parent : (i : ℕ) → i < get_or g (a + 1) 0 → ParentBy g a k i

class_by : (form : Format) (ds : List Aid) (g : Bytes) (a : ℕ) (k : Class) (j : ℕ) → Reads (class form ds) g a k j → RecordBy g a k
class_by form ds g a k j p =
    let t = class_part form ds g a k j p in
    let c = reads_counted form.limits.parents u1 class_number steady_u1 g (a + 1) k.parents t.middle t.parents in
    let u = reads_u1 g (a + 1) c.number c.place c.count in
    let m = many_length class_number steady_number c.number g c.place k.parents t.middle c.list in
    record {
      inside = u.inside;
      kind = t.interface;
      count = u.byte ∙ sym m;
      parent = λ i h. go c.number c.place u.next c.list i
          (omega (arith, u.byte));
    }
  where
    go : (n b : ℕ) → a + 1 + 1 ≡ b → {e : ℕ} → Reads (many n class_number) g b k.parents e → (i : ℕ) → i < n → ParentBy g a k i
    go n b z {e} l i h =
        let x = placed_at (many_nth class_number steady_number 2 g (λ i a j q. (number_part g i a j q).next) n b k.parents e l i h) in
        let q = number_part g (b + 2 * i) x.0 x.1 x.3 in
        let y : b + 2 * i ≡ a + 2 + 2 * i = omega arith in
        let w : b + 2 * i + 1 ≡ a + 3 + 2 * i = omega arith in
        record {
          number = x.0;
          listed = x.2;
          pack = ap (λ (n : ℕ). get_or g n 0) (sym y) ∙ q.pack;
          class = ap (λ (n : ℕ). get_or g n 0) (sym w) ∙ q.class;
          to = omega (arith, q.next, q.to);
        }

-- the record of a class of a file that reads
pub record_by : (l : Limits) (g : Bytes) (p : Package) (n a : ℕ) (k : Class) → read_file l g ≡ some p → ClassFrom g n a → at p.classes n ≡ some k →
    RecordBy g a k
record_by l g p n a k e h q =
    let z = from_front g n a h l p e in
    let w : z.one ≡ k = some-injective _ _ (sym z.is ∙ q) in
    subst (RecordBy g a) w (class_by (format_of l g) p.domains g a z.one z.end z.reads)
