-- The place that is found for an AID is that of an entry with a package of that AID, and the package there is the one that a search by the AID
-- finds. Assumes nothing.
use Prim.Native.Nat.{ℕ, ◌+◌, ◌<◌}
use native.Mathlib.Omega.{arith}
use mathlib.Core.Path.{◌≡◌, refl, sym, ◌∙◌, ap, subst}
use mathlib.Core.Bool.{Bool, true, false}
use mathlib.Core.List.{List, [], ◌∷◌, ◌++◌}
use mathlib.Core.Option.{Option, none, some, some-injective}
use lib.Dec.{T, eqb, eqb→eq, eqb_refl}
use lib.ListN.{length, length-append}
use Rattle.rules.specs.Bytes.{Bytes, Aid, pick, at, find, is_some, some_and, ◌and_then◌, list_of, same}
use Rattle.rules.specs.Package.{Limits, Package, read_file}
use Rattle.rules.specs.Store.{Entry, domain, loaded, entry_bytes, entries_bytes}
use Rattle.rules.specs.Classes.{Installed, installed_by, installed, has_aid, by_aid}
use Rattle.rules.specs.Operations.{is_package}
use Rattle.rules.specs.Places.{place_from, package_from, PackageFile}
use Rattle.rules.proofs.Tests.{is_true, of_true, none_some, some_and_is, same_eq, same_refl}
use Rattle.rules.proofs.Lists.{and_then_cong}

-- a greater number is not the same
unlike : (p i : ℕ) → i < p → eqb p i ≡ false
unlike p i h = go (eqb p i) refl
  where
    go : (b : Bool) → eqb p i ≡ b → b ≡ false
    go false r = refl
    go true r = absurd (let z = eqb→eq p i (of_true r) in omega arith)

module _ (l : Limits) (a : Aid) where
  -- of entries that stand from place i on, the one at a place has a package with the AID
  pub record Stands (i : ℕ) (es : List Entry) (place : ℕ) : Type 0 where
    pub domain : Aid
    pub file : Bytes
    pub before : List Entry
    pub behind : List Entry
    pub entry : es ≡ before ++ loaded domain file ∷ behind
    pub place_is : place ≡ i + length (entries_bytes before)
    pub holds : PackageFile l a file

  file_of_lem : (d : Aid) (f : Bytes) → T (is_package l a (loaded d f)) → PackageFile l a f
  file_of_lem d f h =
      let r = some_and_is (read_file l f) (λ p. same a p.aid) h in
      record { pack = r.0; reads = r.1; named = sym (same_eq a r.0.aid r.2) }

  first_stands : (i : ℕ) (e : Entry) (es : List Entry) → T (is_package l a e) → Stands i (e ∷ es) i
  first_stands i (domain k b) es h = absurd h
  first_stands i (loaded d f) es h =
      record { domain = d; file = f; before = []; behind = es; entry = refl; place_is = omega arith; holds = file_of_lem d f h }

  later_stands : (i : ℕ) (e : Entry) (es : List Entry) (p : ℕ) → Stands (i + length (entry_bytes e)) es p → Stands i (e ∷ es) p
  later_stands i e es p s = record {
    domain = s.domain;
    file = s.file;
    before = e ∷ s.before;
    behind = s.behind;
    entry = ap (λ (xs : List Entry). e ∷ xs) s.entry;
    place_is = s.place_is ∙ simp length-append (omega arith);
    holds = s.holds;
  }

  pub place_stands : (i : ℕ) (es : List Entry) (p : ℕ) → place_from l a i es ≡ some p → Stands i es p
  place_stands i [] p e = absurd (none_some e)
  place_stands i (x ∷ xs) p e = go (is_package l a x) refl e (place_stands (i + length (entry_bytes x)) xs p)
    where
      go : (b : Bool) → is_package l a x ≡ b → pick b (some i) (place_from l a (i + length (entry_bytes x)) xs) ≡ some p →
          (place_from l a (i + length (entry_bytes x)) xs ≡ some p → Stands (i + length (entry_bytes x)) xs p) → Stands i (x ∷ xs) p
      go true h q rec = subst (Stands i (x ∷ xs)) (some-injective _ _ q) (first_stands i x xs (of_true h))
      go false h q rec = later_stands i x xs p (rec q)

  -- an entry with the package has a place
  pub stands_place : (i : ℕ) (pre : List Entry) (d : Aid) (f : Bytes) (post : List Entry) → PackageFile l a f →
      T (is_some (place_from l a i (pre ++ loaded d f ∷ post)))
  stands_place i [] d f post o = let h : same a a ≡ true = is_true _ (same_refl a) in rw (o.reads, o.named, h) tt
  stands_place i (x ∷ pre) d f post o = go (is_package l a x) (stands_place (i + length (entry_bytes x)) pre d f post o)
    where
      go : (b : Bool) → T (is_some (place_from l a (i + length (entry_bytes x)) (pre ++ loaded d f ∷ post))) →
          T (is_some (pick b (some i) (place_from l a (i + length (entry_bytes x)) (pre ++ loaded d f ∷ post))))
      go true r = tt
      go false r = r

  -- the search by the AID, one entry at a time
  find_entry : (e : Entry) (is : List Installed) →
      find (has_aid a) (installed_by l e ++ is) ≡ pick (is_package l a e) (at (installed_by l e) 0) (find (has_aid a) is)
  find_entry (domain k b) is = refl
  find_entry (loaded d f) is = go (read_file l f)
    where
      one : Package → List Installed
      one p = record { domain = d; pack = p } ∷ []

      go : (o : Option Package) → find (has_aid a) (list_of o one ++ is) ≡ pick (some_and o λ p. same a p.aid) (at (list_of o one) 0) (find (has_aid a) is)
      go none = refl
      go (some p) = refl

  -- the place of a later entry is not that of an earlier one
  later_place : (i : ℕ) (e : Entry) (es : List Entry) (p : ℕ) → place_from l a (i + length (entry_bytes e)) es ≡ some p →
      package_from l p i (e ∷ es) ≡ package_from l p (i + length (entry_bytes e)) es
  later_place i e es p q =
      let s = (place_stands (i + length (entry_bytes e)) es p q).place_is in
      let h : eqb p i ≡ false = unlike p i (omega arith) in rw h

  pub package_placed : (i : ℕ) (es : List Entry) → (place_from l a i es and_then λ p. package_from l p i es) ≡ by_aid (installed l es) a
  package_placed i [] = refl
  package_placed i (x ∷ xs) = go (is_package l a x) (package_placed (i + length (entry_bytes x)) xs) ∙ sym (find_entry x (installed l xs))
    where
      j : ℕ
      j = i + length (entry_bytes x)

      go : (b : Bool) → (place_from l a j xs and_then λ p. package_from l p j xs) ≡ by_aid (installed l xs) a →
          (pick b (some i) (place_from l a j xs) and_then λ p. package_from l p i (x ∷ xs)) ≡ pick b (at (installed_by l x) 0) (by_aid (installed l xs) a)
      go true r = let h : eqb i i ≡ true = is_true _ (eqb_refl i) in rw h
      go false r = and_then_cong (place_from l a j xs) (λ p. package_from l p i (x ∷ xs)) (λ p. package_from l p j xs) (λ p q. later_place i x xs p q) ∙ r

-- the package at the place of an entry is that of the entry
pub package_there : (l : Limits) (i : ℕ) (pre : List Entry) (d : Aid) (f : Bytes) (post : List Entry) (p : Package) → read_file l f ≡ some p →
    package_from l (i + length (entries_bytes pre)) i (pre ++ loaded d f ∷ post) ≡ some (record { domain = d; pack = p })
package_there l i [] d f post p r = let z : i + 0 ≡ i = omega arith in let h : eqb i i ≡ true = is_true _ (eqb_refl i) in rw (z, h, r)
package_there l i (e ∷ pre) d f post p r =
    let z : i + length (entry_bytes e ++ entries_bytes pre) ≡ i + length (entry_bytes e) + length (entries_bytes pre) = simp length-append (omega arith) in
    let h : eqb (i + length (entry_bytes e) + length (entries_bytes pre)) i ≡ false = unlike _ i (omega arith) in
    let later : package_from l (i + length (entry_bytes e) + length (entries_bytes pre)) i (e ∷ (pre ++ loaded d f ∷ post)) ≡ some (record { domain = d; pack = p }) =
    rw h (package_there l (i + length (entry_bytes e)) pre d f post p r) in
    ap (λ (k : ℕ). package_from l k i (e ∷ (pre ++ loaded d f ∷ post))) z ∙ later
