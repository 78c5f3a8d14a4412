-- The AID of a file that reads stands at place 7. Assumes nothing.
use Prim.Native.Nat.{◌+◌, ◌≤◌, ◌<◌}
use native.Mathlib.Omega.{arith}
use native.Mathlib.Decide.{dec_le}
use mathlib.Core.Path.{◌≡◌, sym, ◌∙◌, ap, subst}
use mathlib.Core.Bool.{Bool, true, false}
use mathlib.Core.List.{List, [], ◌∷◌}
use mathlib.Core.Option.{some, some-injective}
use lib.Dec.{eqb}
use lib.ListN.{length, drop, get_or, drop_of_length-le}
use Rattle.rules.specs.Bytes.{Bytes, Aid, Reader, aid_length, when, u1, u2, span, aid, counted, at_end}
use Rattle.rules.specs.Code.{u2_at}
use Rattle.rules.specs.Package.{Limits, Format, format_of, Reference, Package, most_domains, most_imports, most_references, most_classes, reference, class, contents, sized, read_file}
use Rattle.rules.proofs.Tails.{classes_of, references_of, imports_of, domains_of}
use Rattle.rules.proofs.Tests.{none_some, and_then_is}
use Rattle.store.specs.Entries.{own_aid}
use Rattle.store.proofs.Parts.{drop_one, span_drop}

-- a reader behind a test that passed
when_is : {A : Type 0} (b : Bool) (r : Reader A) (bs : Bytes) (x : A × Bytes) → when b r bs ≡ some x → r bs ≡ some x
when_is true r bs x e = e
when_is false r bs x e = absurd (none_some e)

-- the value read to the end is the value read
exactly_is : {A : Type 0} (x : A × Bytes) (a : A) → at_end x.0 x.1 ≡ some a → x.0 ≡ a
exactly_is x a e = go x.1 e
  where
    go : (bs : Bytes) → at_end x.0 bs ≡ some a → x.0 ≡ a
    go [] e = some-injective _ _ e
    go (b ∷ bs) e = absurd (none_some e)

-- the lists do not change the AID before them
module _ (t : Format) (a : Aid) where
  classes_aid : (ds is : List Aid) (rs : List Reference) (bs : Bytes) (x : Package × Bytes) → classes_of t a ds is rs bs ≡ some x → x.0.aid ≡ a
  unfolding classes_of
  classes_aid ds is rs bs x e =
      let y = and_then_is (counted most_classes u1 (class t ds) bs) _ x e in
      let z = some-injective _ _ y.2 in
      sym (ap (λ (v : Package × Bytes). v.0.aid) z)

  references_aid : (ds is : List Aid) (bs : Bytes) (x : Package × Bytes) → references_of t a ds is bs ≡ some x → x.0.aid ≡ a
  unfolding references_of
  references_aid ds is bs x e = let y = and_then_is (counted most_references u2 reference bs) _ x e in classes_aid ds is y.0.0 y.0.1 x y.2

  imports_aid : (ds : List Aid) (bs : Bytes) (x : Package × Bytes) → imports_of t a ds bs ≡ some x → x.0.aid ≡ a
  unfolding imports_of
  imports_aid ds bs x e = let y = and_then_is (counted most_imports u1 aid bs) _ x e in references_aid ds y.0.0 y.0.1 x y.2

  domains_aid : (bs : Bytes) (x : Package × Bytes) → domains_of t a bs ≡ some x → x.0.aid ≡ a
  unfolding domains_of
  domains_aid bs x e = let y = and_then_is (counted most_domains u1 aid bs) _ x e in imports_aid y.0.0 y.0.1 x y.2

-- what the contents begin with
pub record OwnBy (f : Bytes) (p : Package) : Type 0 where
  pub inside : 7 < length f
  pub to : 8 + get_or f 7 0 ≤ length f
  pub is : own_aid f ≡ p.aid

aid_own : (f : Bytes) (v : Aid × Bytes) (p : Package) → 7 ≤ length f → aid (drop 7 f) ≡ some v → p.aid ≡ v.0 → OwnBy f p
aid_own f v p h e z = elim (dec_le (length f) 7) [
  | yes g ↦ absurd (none_some (rw (drop_of_length-le f {i = 7} g) at e))
  | no g ↦ let k : 7 < length f = omega arith in go k (rw (drop_one f 7 k) at e)
]
  where
    go : 7 < length f → when (aid_length (get_or f 7 0)) (span (get_or f 7 0)) (drop 8 f) ≡ some v → OwnBy f p
    go k q =
        let d = span_drop f 8 (get_or f 7 0) v (omega arith) (when_is (aid_length (get_or f 7 0)) (span (get_or f 7 0)) (drop 8 f) v q) in
        record { inside = k; to = d.0; is = d.1 ∙ sym z }

contents_own : (t : Format) (f : Bytes) (x : Package × Bytes) → 7 ≤ length f → contents t (drop 7 f) ≡ some x → OwnBy f x.0
unfolding contents domains_of imports_of references_of classes_of
contents_own t f x h e =
    let y = and_then_is (aid (drop 7 f)) (λ (v : Aid × Bytes). domains_of t v.0 v.1) x e in
    aid_own f y.0 x.0 h y.1 (domains_aid t y.0.0 y.0.1 x y.2)

sized_own : (t : Format) (f : Bytes) (x : Package × Bytes) → sized t (length f) (drop 5 f) ≡ some x → OwnBy f x.0
unfolding sized
sized_own t f x e = elim (dec_le (length f) 5) [
  | yes g ↦ absurd (none_some (rw (drop_of_length-le f {i = 5} g) at e))
  | no g ↦ elim (dec_le (length f) 6) [
    | yes g₁ ↦ let a : 5 < length f = omega arith in absurd (none_some (rw (drop_one f 5 a, drop_of_length-le f {i = 5 + 1} g₁) at e))
    | no g₁ ↦
        let a : 5 < length f = omega arith in
        let b : 6 < length f = omega arith in
        let q : when (eqb (u2_at f 5) (length f)) (contents t) (drop 7 f) ≡ some x = rw (drop_one f 5 a, drop_one f 6 b) at e in
        contents_own t f x (omega arith) (when_is (eqb (u2_at f 5) (length f)) (contents t) (drop 7 f) x q)
  ]
]

-- the AID of a file that reads stands at place 7, with its length
pub own_by : (l : Limits) (f : Bytes) (p : Package) → read_file l f ≡ some p → OwnBy f p
unfolding read_file
own_by l f p e =
    let y = and_then_is (sized (format_of l f) (length f) (drop 5 f)) (λ (x : Package × Bytes). at_end x.0 x.1) p e in
    subst (OwnBy f) (exactly_is y.0 p y.2) (sized_own (format_of l f) f y.0 y.1)
