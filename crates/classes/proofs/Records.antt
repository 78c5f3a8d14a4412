-- A class record as a part of its file: its kind, how many parents it has, and where each is named. Assumes nothing.
use Rattle.std.specs.Prelude.{ℕ, Some, None}
use Rattle.std.specs.Prelude.{Option as Optional}
use Rattle.fields.specs.Told.{told}
use Prim.Native.Nat.{ℕ, zero, suc, ◌+◌, ◌*◌, ◌≤◌, ◌<◌}
use native.Mathlib.Omega.{arith}
use mathlib.Core.Path.{◌≡◌, refl, sym, ◌∙◌, ap, subst}
use mathlib.Core.Bool.{true, false}
use mathlib.Core.List.{List, [], ◌∷◌}
use mathlib.Core.Option.{some, some-injective}
use lib.Dec.{eqb}
use lib.ListN.{length, drop, get_or, length-drop}
use lib.Seq.{get_or-drop}
use borrow.Author.Tests.{eq-eqb, ne_eqb}
use Rattle.rules.specs.Bytes.{Bytes, Aid, at, u1}
use Rattle.rules.specs.Package.{Format, ClassNumber, Class, class_number, class}
use Rattle.rules.specs.Store.{Entry}
use Rattle.rules.specs.Classes.{Installed}
use Rattle.rules.proofs.Tests.{none_some}
use Rattle.rules.proofs.Lists.{at_below}
use Rattle.rules.proofs.Limits.{limits_range_lem}
use Rattle.places.specs.Reads.{Reads, Placed}
use Rattle.places.proofs.Steady.{steady_u1, steady_number}
use Rattle.places.proofs.Inverse.{reads_counted, reads_u1}
use Rattle.places.proofs.Parts.{number_part, class_part}
use Rattle.places.proofs.Track.{placed_at, placed_none, many_length, many_wide, many_nth}
use Rattle.homes.specs.Homes.{file_of, format_at, record_from, HomeIs, HomeThere, RecordIs}
use Rattle.homes.specs.declared.Home.{Home}
use Rattle.classes.specs.Say.{Judged, ClassThere, CountIs, ParentThere, Kind0Is}

-- the parts of a class record that stands at the front of the bytes r
pub record Front (k : Class) (r : Bytes) : Type 0 where
  pub kind : eqb (get_or r 0 0) 1 ≡ k.interface
  pub count : get_or r 1 0 ≡ length k.parents
  pub few : get_or r 1 0 ≤ 8
  pub inside : 2 + 2 * get_or r 1 0 ≤ length r
  pub pair : (i : ℕ) (p : ClassNumber) → at k.parents i ≡ some p → (get_or r (2 + 2 * i) 0 ≡ p.pack) × (get_or r (3 + 2 * i) 0 ≡ p.class)

-- an element by its number: the list from there on
pub at_split : {A : Type 0} (xs : List A) (i : ℕ) → i < length xs → (p : A) × (at xs i ≡ some p) × (drop i xs ≡ p ∷ drop (suc i) xs)
at_split [] i h = absurd (omega arith)
at_split (y ∷ ys) zero h = (y, refl, refl)
at_split (y ∷ ys) (suc i) h = at_split ys i (omega arith)

module _ (form : Format) (few : form.limits.parents ≤ 8) (ds : List Aid) (g : Bytes) (c : ℕ) (k : Class) (j : ℕ) (p : Reads (class form ds) g c k j) where
  pub front : Front k (drop c g)
  front =
      let t = class_part form ds g c k j p in
      let u = reads_counted form.limits.parents u1 class_number steady_u1 g (c + 1) k.parents t.middle t.parents in
      let w = reads_u1 g (c + 1) u.number u.place u.count in
      let len = many_length class_number steady_number u.number g u.place k.parents t.middle u.list in
      let wide : (i : ℕ) (a : ClassNumber) (e : ℕ) → Reads class_number g i a e → i + 2 ≡ e = λ i a e q. (number_part g i a e q).next in
      let far = many_wide class_number steady_number 2 g wide u.number u.place k.parents t.middle u.list in
      let one : get_or (drop c g) 1 0 ≡ u.number = get_or-drop c g 1 0 ∙ w.byte in
      let zeroth : c + 0 ≡ c = omega arith in
      let small : u.number ≤ 8 = omega (arith, u.small) in
      record {
        kind = ap (λ (b : ℕ). eqb b 1) (get_or-drop c g 0 0 ∙ ap (λ (i : ℕ). get_or g i 0) zeroth) ∙ t.interface;
        count = one ∙ sym len;
        few = omega (arith, one, small);
        inside = omega (arith, one, far, w.next, u.list.to, length-drop c g);
        pair = λ i x e.
            let below : i < u.number = omega (arith, at_below k.parents i x e, len) in
            let y = placed_at (many_nth class_number steady_number 2 g wide u.number u.place k.parents t.middle u.list i below) in
            let z : y.0 ≡ x = some-injective _ _ (sym y.2 ∙ e) in
            let n = number_part g (u.place + 2 * i) y.0 y.1 y.3 in
            let first : c + (2 + 2 * i) ≡ u.place + 2 * i = omega (arith, w.next) in
            let second : c + (3 + 2 * i) ≡ u.place + 2 * i + 1 = omega (arith, w.next) in (
              get_or-drop c g (2 + 2 * i) 0 ∙ ap (λ (m : ℕ). get_or g m 0) first ∙ n.pack ∙ ap (λ (m : ClassNumber). m.pack) z,
              get_or-drop c g (3 + 2 * i) 0 ∙ ap (λ (m : ℕ). get_or g m 0) second ∙ n.class ∙ ap (λ (m : ClassNumber). m.class) z,
            );
      }

module _ (f s : Bytes) (h : Home) (n : ℕ) where
  pub home_there : ClassThere f s h n → HomeThere f s h
  home_there t = let c = t.1 in (t.0, c.entries, c.self, c.asked.parents.imported, c.pack, c.home)

  module _ (r : Bytes) (p : RecordIs f s h n r) where
    -- what a class record says, in every setting
    pub record_front : (end : ℕ) (es : List Entry) (self : Installed) → Judged f s end es self → (x : Installed) → HomeIs f s end es self h x →
        (k : Class) → at x.pack.classes n ≡ some k → Front k r
    record_front end es self j x o k e =
        let t = p end es self j.parents.imported x o in
        go t.0 t.1 t.2
      where
        go : (c : Optional ℕ) → Placed (class (format_at s (file_of f s h)) x.pack.domains) (file_of f s h) (at x.pack.classes n) (told c) → r ≡ record_from
            (file_of f s h) c → Front k r
        go (Some c) q z =
            let y = placed_at q in
            let same : y.0 ≡ k = some-injective _ _ (sym y.2 ∙ e) in
            subst (λ (b : Bytes). Front k b) (sym z) (subst (λ (a : Class). Front a (drop c (file_of f s h))) same
            (front (format_at s (file_of f s h)) (limits_range_lem s).1 x.pack.domains (file_of f s h) c y.0 y.1 y.3))
        go None q z = absurd (none_some (sym (placed_none q) ∙ e))

    there_front : (t : ClassThere f s h n) → Front t.1.class r
    there_front t = let c = t.1 in record_front t.0 c.entries c.self c.asked c.pack c.home c.class c.is

    pub record_inside : ClassThere f s h n → 1 < length r
    record_inside t = omega (arith, (there_front t).inside)

    -- how many parents
    pub count_is : (m : ℕ) → m ≡ get_or r 1 0 → CountIs f s h n m
    count_is m z end es self j x o k e = z ∙ (record_front end es self j x o k e).count

    pub count_few : (m : ℕ) → m ≡ get_or r 1 0 → ClassThere f s h n → m ≤ 8
    count_few m z t = omega (arith, (there_front t).few)

    -- the places of parent i
    pub pair_inside : (i : ℕ) → ParentThere f s h n i → (i < 8) × (3 + 2 * i < length r)
    pair_inside i t = let u = there_front t.class in (omega (arith, t.inside, u.count, u.few), omega (arith, t.inside, u.count, u.inside))

    -- the kind
    pub kind_one : (b : ℕ) → b ≡ get_or r 0 0 → b ≡ 1 → Kind0Is f s h n false
    kind_one b z y end es self j x o k e =
        let i : k.interface ≡ true = sym (record_front end es self j x o k e).kind ∙ eq-eqb (get_or r 0 0) 1 (sym z ∙ y) in rw (e, i)

    pub kind_zero : (b : ℕ) → b ≡ get_or r 0 0 → (b ≡ 1 → ⊥) → Kind0Is f s h n true
    kind_zero b z y end es self j x o k e =
        let i : k.interface ≡ false = sym (record_front end es self j x o k e).kind ∙ ne_eqb (get_or r 0 0) 1 (λ q. y (z ∙ q)) in rw (e, i)
