-- Every element of a list of a file has a place: classes, methods, references, parents, imports. Assumes nothing.
use Prim.Native.Nat.{ℕ, ◌+◌}
use mathlib.Core.Path.{◌≡◌}
use mathlib.Core.List.{List}
use mathlib.Core.Option.{some}
use lib.ListN.{length}
use Rattle.rules.specs.Bytes.{Bytes, Aid, Reader, at, u1, u2, aid, counted}
use Rattle.rules.specs.Package.{Limits, Format, format_of, most_imports, most_references, most_classes, most_methods, ClassNumber, Reference, Method, Class, Package, class_number, reference, method, class, read_file}
use Rattle.places.specs.Reads.{Reads}
use Rattle.places.proofs.Steady.{Steady, steady_u1, steady_u2, steady_aid, steady_number, steady_reference, steady_method, steady_class}
use Rattle.places.proofs.Inverse.{reads_counted}
use Rattle.places.proofs.Parts.{class_part, file_parts}
use Rattle.places.proofs.Track.{many_place}

pub counted_place : {A : Type 0} (most : ℕ) (c : Reader ℕ) (r : Reader A) → Steady c → Steady r → (s : Bytes) (i : ℕ) (xs : List A) (j : ℕ) → Reads
    (counted most c r) s i xs j →
    (k : ℕ) (x : A) → at xs k ≡ some x → (a e : ℕ) × Reads r s a x e
counted_place most c r sc sr s i xs j p k x h =
    let n = reads_counted most c r sc s i xs j p in
    many_place r sr n.number s n.place xs j n.list k x h

module _ (l : Limits) (f : Bytes) (p : Package) (r : read_file l f ≡ some p) (k : ℕ) where
  pub class_places : (c : Class) → at p.classes k ≡ some c → (a e : ℕ) × Reads (class (format_of l f) p.domains) f a c e
  class_places c h =
      let t = file_parts l f p r in
      let classes = class (format_of l f) p.domains in
      counted_place most_classes u1 classes steady_u1 (steady_class (format_of l f) p.domains) f t.classes_at p.classes (length f) t.classes k c h

  pub reference_places : (x : Reference) → at p.references k ≡ some x → (a e : ℕ) × Reads reference f a x e
  reference_places x h =
      let t = file_parts l f p r in
      counted_place most_references u2 reference steady_u2 steady_reference f t.references_at p.references t.classes_at t.references k x h

  pub import_places_lem : (x : Aid) → at p.imports k ≡ some x → (a e : ℕ) × Reads aid f a x e
  import_places_lem x h =
      let t = file_parts l f p r in
      counted_place most_imports u1 aid steady_u1 steady_aid f t.imports_at p.imports t.references_at t.imports k x h

module _ (t : Format) (ds : List Aid) (s : Bytes) (i : ℕ) (c : Class) (j : ℕ) (r : Reads (class t ds) s i c j) (k : ℕ) where
  pub method_places : (m : Method) → at c.methods k ≡ some m → (a e : ℕ) × Reads (method t ds) s a m e
  method_places m h =
      let z = class_part t ds s i c j r in
      counted_place most_methods u1 (method t ds) steady_u1 (steady_method t ds) s z.middle c.methods j z.methods k m h

  pub parent_places : (x : ClassNumber) → at c.parents k ≡ some x → (a e : ℕ) × Reads class_number s a x e
  parent_places x h =
      let z = class_part t ds s i c j r in
      counted_place t.limits.parents u1 class_number steady_u1 steady_number s (i + 1) c.parents z.middle z.parents k x h
