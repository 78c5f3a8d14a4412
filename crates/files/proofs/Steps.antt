-- The steps over one package file: what each function's arithmetic says of whatever stands at a place. Assumes nothing.
use Rattle.std.specs.Prelude.{None}
use Prim.Native.Nat.{ℕ, zero, suc, ◌+◌, ◌-◌, ◌*◌, ◌/◌, ◌%◌, ◌≤◌, ◌<◌}
use native.Mathlib.Omega.{arith}
use mathlib.Core.Path.{◌≡◌, refl, sym, ap}
use mathlib.Core.List.{List, [], ◌∷◌}
use mathlib.Core.Option.{none, some}
use mathlib.Core.Logic.{inl, inr}
use lib.Dec.{eqb}
use lib.ListN.{length, take, drop, get_or}
use Rattle.rules.specs.Bytes.{Bytes, Aid, at, u1, u2, many, aid, counted}
use Rattle.rules.specs.Code.{u2_at}
use Rattle.rules.specs.Package.{Limits, format_of, most_references, most_methods, most_classes, ClassNumber, Reference, Item, Policy, class_number, reference, item, policy, method, class}
use Rattle.places.specs.Reads.{Reads, Ends, EndsAt}
use Rattle.places.proofs.Inverse.{reads_counted, reads_u1, reads_u2}
use Rattle.places.proofs.Steady.{steady_u1, steady_u2, steady_number, steady_reference, steady_item}
use Rattle.places.proofs.Parts.{moved, aid_part, number_part, reference_part, item_part, policy_part, method_part, class_part}
use Rattle.places.proofs.Track.{many_wide, many_nth, many_length, placed_at, counted_inside}
use Rattle.files.specs.Say.{Aids, References, AfterReferences, ReferenceNth, PolicyThere, AfterPolicy, MethodThere, PolicyAt, NameIs, VisibleIs, ImplementedIs, StaticIs, Methods, AfterMethods, ClassThere, AfterClass, ParentsAt, MethodsAt, InterfaceIs, Classes}

-- AIDs
module _ {s : Bytes} {i : ℕ} where
  pub aid_in : Ends aid s i → i + 1 + get_or s i 0 ≤ length s
  aid_in e = let a = aid_part s i e.0 e.1 e.2 in omega (arith, a.next, a.to)

  pub aid_next : EndsAt aid s i (i + 1 + get_or s i 0)
  aid_next a j p = (aid_part s i a j p).next

  pub aids_in : Aids s i → i < length s
  aids_in e = counted_inside aid s e.0 i e.1.0 e.1.1 e.1.2

  -- an AID as the bytes of a part
  pub aid_bytes : {e : ℕ} {a : Aid} {j : ℕ} → EndsAt aid s i e → Reads aid s i a j → (i + 1 ≤ e) × (e ≤ length s) × (take (e - (i + 1)) (drop (i + 1) s) ≡ a)
  aid_bytes {e} {a} {j} h p =
      let t = aid_part s i a j p in
      let k : e ≡ j = h a j p in
      let n : e - (i + 1) ≡ get_or s i 0 = omega (arith, t.next) in
      (omega (arith, t.next), omega (arith, t.to), rw n t.bytes)

-- references
references_to : (s : Bytes) (i : ℕ) (xs : List Reference) (j : ℕ) → Reads (counted most_references u2 reference) s i xs j → (i + 1 < length s) ×
    (i + 2 + 4 * u2_at s i ≡ j)
references_to s i xs j p =
    let c = reads_counted most_references u2 reference steady_u2 s i xs j p in
    let u = reads_u2 s i c.number c.place c.count in
    let w = many_wide reference steady_reference 4 s (λ i a j p. (reference_part s i a j p).next) c.number c.place xs j c.list in
    (u.inside, omega (arith, u.value, u.next))

at_none : {A : Type 0} (xs : List A) (k : ℕ) → length xs ≤ k → none ≡ at xs k
at_none [] k h = refl
at_none (x ∷ xs) zero h = absurd (omega arith)
at_none (x ∷ xs) (suc k) h = at_none xs k (omega arith)

-- the reference whose four bytes start at c
abbrev pub reference_of : Bytes → ℕ → Reference
reference_of s c = record { class = record { pack = get_or s c 0; class = get_or s (c + 1) 0 }; name = u2_at s (c + 2) }

module _ {s : Bytes} {i : ℕ} where
  pub references_in : References s i → (i + 1 < length s) × (i + 2 + 4 * u2_at s i ≤ length s)
  references_in e = let r = references_to s i e.0 e.1 e.2 in (r.0, omega (arith, r.1, e.2.to))

  pub references_next : AfterReferences s i (i + 2 + 4 * u2_at s i)
  references_next xs j p = (references_to s i xs j p).1

  module _ {k : ℕ} where
    pub reference_none : u2_at s i ≤ k → ReferenceNth s i k None
    reference_none h xs j p =
        let c = reads_counted most_references u2 reference steady_u2 s i xs j p in
        let u = reads_u2 s i c.number c.place c.count in
        at_none xs k (omega (arith, many_length reference steady_reference c.number s c.place xs j c.list, u.value))

    pub reference_some : k < u2_at s i → (xs : List Reference) (j : ℕ) → Reads (counted most_references u2 reference) s i xs j → some
        (reference_of s (i + 2 + 4 * k)) ≡ at xs k
    reference_some h xs j p =
        let c = reads_counted most_references u2 reference steady_u2 s i xs j p in
        let u = reads_u2 s i c.number c.place c.count in
        let n = many_nth reference steady_reference 4 s (λ i a j p. (reference_part s i a j p).next) c.number c.place xs j c.list k
        (omega (arith, u.value)) in
        let z = placed_at n in
        go z.0 z.1 z.2 (moved z.3 (ap (λ (m : ℕ). m + 4 * k) (sym u.next)) refl refl)
      where
        go : (x : Reference) (e : ℕ) → at xs k ≡ some x → Reads reference s (i + 2 + 4 * k) x e → some (reference_of s (i + 2 + 4 * k)) ≡ at xs k
        go x e q r = let t = reference_part s (i + 2 + 4 * k) x e r in rw (q, t.pack, t.class, t.name)

-- policies
indexes : (ds : List Aid) (s : Bytes) (n i : ℕ) (xs : List Item) (j : ℕ) → Reads (many n (item ds)) s i xs j → i + n ≡ j
indexes ds s n i xs j p = let w = many_wide (item ds) (steady_item ds) 1 s (λ i a j p. (item_part ds s i a j p).next) n i xs j p in omega arith

-- a policy takes a byte or more
pub policy_long : (ds : List Aid) (s : Bytes) (i : ℕ) (q : Policy) (j : ℕ) → Reads (policy ds) s i q j → i + 1 ≤ j
policy_long ds s i q j p = elim (policy_part ds s i q j p) [
  | inl x ↦ omega (arith, x.next)
  | inr x ↦ omega (arith, indexes ds s (get_or s i 0) (i + 1) x.listed j x.list)
]

module _ {s : Bytes} {i : ℕ} where
  pub policy_in : PolicyThere s i → i < length s
  policy_in e = elim (policy_part e.0 s i e.1.0 e.1.1 e.1.2) [ inl x ↦ x.inside | inr x ↦ x.inside ]

  pub policy_every : get_or s i 0 ≡ 255 → AfterPolicy s i (i + 1)
  policy_every h ds q j p = elim (policy_part ds s i q j p) [ inl x ↦ x.next | inr x ↦ absurd (omega (arith, x.few)) ]

  pub policy_only : (get_or s i 0 ≡ 255 → ⊥) → AfterPolicy s i (i + 1 + get_or s i 0)
  policy_only h ds q j p = elim (policy_part ds s i q j p) [ inl x ↦ absurd (h x.mark) | inr x ↦ indexes ds s (get_or s i 0) (i + 1) x.listed j x.list ]

  pub policy_to : (get_or s i 0 ≡ 255 → ⊥) → PolicyThere s i → i + 1 + get_or s i 0 ≤ length s
  policy_to h e = let n = policy_only h e.0 e.1.0 e.1.1 e.1.2 in omega (arith, e.1.2.to)

-- methods
module _ {s : Bytes} {i : ℕ} where
  pub method_in_lem : MethodThere s i → i + 3 ≤ length s
  method_in_lem e = (method_part (format_of e.0 s) e.1 s i e.2.0 e.2.1 e.2.2).inside

  pub method_policy : MethodThere s i → PolicyThere s (i + 3)
  method_policy e = let m = method_part (format_of e.0 s) e.1 s i e.2.0 e.2.1 e.2.2 in (e.1, (e.2.0.policy, m.middle, m.policy))

  pub policy_at : PolicyAt s i (i + 3)
  policy_at l ds m j p = let t = method_part (format_of l s) ds s i m j p in (t.middle, t.policy)

  pub method_name : NameIs s i (u2_at s (i + 1))
  method_name l ds m j p = (method_part (format_of l s) ds s i m j p).name

  module _ {n : ℕ} (h : n ≡ get_or s i 0) where
    pub method_visible : VisibleIs s i (eqb (n / 128 % 2) 1)
    method_visible l ds m j p = rw h (method_part (format_of l s) ds s i m j p).visible

    pub method_implemented : ImplementedIs s i (eqb (n / 64 % 2) 1)
    method_implemented l ds m j p = rw h (method_part (format_of l s) ds s i m j p).implemented

    pub method_static : StaticIs s i (eqb (n / 32 % 2) 1)
    method_static l ds m j p = rw h (method_part (format_of l s) ds s i m j p).static
    -- a non-static method of a name

-- classes
parents_to : (l : Limits) (s : Bytes) (i : ℕ) (xs : List ClassNumber) (j : ℕ) → Reads (counted l.parents u1 class_number) s i xs j → (i < length s) ×
    (i + 1 + 2 * get_or s i 0 ≡ j)
parents_to l s i xs j p =
    let c = reads_counted l.parents u1 class_number steady_u1 s i xs j p in
    let u = reads_u1 s i c.number c.place c.count in
    let w = many_wide class_number steady_number 2 s (λ i a j p. (number_part s i a j p).next) c.number c.place xs j c.list in
    (u.inside, omega (arith, u.byte, u.next))

module _ {s : Bytes} {i : ℕ} where
  pub methods_in_lem : Methods s i → i < length s
  methods_in_lem e = counted_inside (method (format_of e.0 s) e.1) s most_methods i e.2.0 e.2.1 e.2.2

  pub classes_in_lem : Classes s i → i < length s
  classes_in_lem e = counted_inside (class (format_of e.0 s) e.1) s most_classes i e.2.0 e.2.1 e.2.2

  pub class_in_lem : ClassThere s i → (i + 1 < length s) × (i + 2 + 2 * get_or s (i + 1) 0 ≤ length s)
  class_in_lem e =
      let k = class_part (format_of e.0 s) e.1 s i e.2.0 e.2.1 e.2.2 in
      let q = parents_to e.0 s (i + 1) e.2.0.parents k.middle k.parents in
      (q.0, omega (arith, q.1, k.parents.to))

  pub class_parents : ParentsAt s i (i + 1)
  class_parents l ds k j p = let t = class_part (format_of l s) ds s i k j p in (t.middle, t.parents)

  pub class_methods : MethodsAt s i (i + 2 + 2 * get_or s (i + 1) 0)
  class_methods l ds k j p =
      let t = class_part (format_of l s) ds s i k j p in
      let q = parents_to l s (i + 1) k.parents t.middle t.parents in
      moved t.methods (omega (arith, q.1)) refl refl

  pub class_interface : {n : ℕ} → n ≡ get_or s i 0 → InterfaceIs s i (eqb n 1)
  class_interface h l ds k j p = rw h (class_part (format_of l s) ds s i k j p).interface

  pub methods_there : {d : ℕ} → MethodsAt s i d → ClassThere s i → Methods s d
  methods_there h e = (e.0, e.1, (e.2.0.methods, e.2.1, h e.0 e.1 e.2.0 e.2.1 e.2.2))

  pub class_next : {d n : ℕ} → MethodsAt s i d → AfterMethods s d n → AfterClass s i n
  class_next h e l ds k j p = e l ds k.methods j (h l ds k j p)
