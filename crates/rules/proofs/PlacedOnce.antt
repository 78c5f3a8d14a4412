-- In a sound store one entry has the package with an AID; the place found for the AID is that entry's and no other's. Assumes nothing.
use Prim.Native.Nat.{ℕ, zero, suc}
use mathlib.Core.Path.{◌≡◌, refl, sym, ◌∙◌, ap, subst}
use mathlib.Core.Logic.{◌⊎◌, inl, inr}
use mathlib.Core.List.{List, [], ◌∷◌, ◌++◌, map, append-nil, append_assoc, Memᴰ}
use mathlib.Core.Option.{some, some-injective}
use lib.Dec.{T, eqb→eq, T_not}
use Rattle.rules.specs.Bytes.{Bytes, Aid, at, is_some}
use Rattle.rules.specs.Package.{Limits, Package}
use Rattle.rules.specs.Store.{Opening, opening_limits, opening_length, Entry, loaded, used}
use Rattle.rules.specs.Classes.{Installed, installed_by, installed, has_aid, by_aid}
use Rattle.rules.specs.Questions.{q12_new, q13_imports}
use Rattle.rules.specs.Operations.{accepted, accepted_all, sound_entries}
use Rattle.rules.specs.Places.{package_place, import_places, package_at, PackageFile, OnlyAt}
use Rattle.rules.proofs.Tests.{and_l, and_r, none_some, all_mem, and_then_is, same_refl}
use Rattle.rules.proofs.Lists.{at_mem, some_is, find_there}
use Rattle.rules.proofs.Bounds.{flat_mem}
use Rattle.rules.proofs.Asked.{load_yes}
use Rattle.rules.proofs.Placed.{place_stands, stands_place, package_placed, package_there}

-- of two ways to part a list at an element, they are one, or one's element is in front of the other's
split_cases : {A : Type 0} (xs : List A) (x : A) (us : List A) (ys : List A) (y : A) (vs : List A) → xs ++ x ∷ us ≡ ys ++ y ∷ vs →
    (xs ≡ ys) ⊎ (Memᴰ y xs ⊎ Memᴰ x ys)
split_cases [] x us [] y vs e = inl refl
split_cases [] x us (z ∷ ys) y vs e = let h : x ≡ z = cc in inr (inr (mathlib.Core.List.Memᴰ.head h))
split_cases (w ∷ xs) x us [] y vs e = let h : y ≡ w = cc in inr (inl (mathlib.Core.List.Memᴰ.head h))
split_cases (w ∷ xs) x us (z ∷ ys) y vs e =
    let t : xs ++ x ∷ us ≡ ys ++ y ∷ vs = cc in
    let h : w ≡ z = cc in
    elim (split_cases xs x us ys y vs t) [
      | inl s ↦ inl cc
      | inr s ↦ inr (elim s [ inl m ↦ inl (mathlib.Core.List.Memᴰ.tail m) | inr m ↦ inr (mathlib.Core.List.Memᴰ.tail m) ])
    ]

module _ (v : Opening) where
  abbrev l : Limits
  l = opening_limits v

  -- an entry was accepted over those before it
  accepted_over : (n : ℕ) (es pre : List Entry) (e : Entry) (post : List Entry) → T (accepted_all v n es (pre ++ e ∷ post)) → T (accepted v n (es ++ pre) e)
  accepted_over n es [] e post t = subst (λ (xs : List Entry). T (accepted v n xs e)) (sym (append-nil es)) (and_l (accepted v n es e) _ t)
  accepted_over n es (x ∷ pre) e post t = subst (λ (xs : List Entry). T (accepted v n xs e)) (append_assoc es (x ∷ []) pre)
      (accepted_over n (es ++ x ∷ []) pre e post (and_r (accepted v n es x) _ t))

  -- a package of an entry is found by its AID
  entry_found : (es : List Entry) (d : Aid) (f : Bytes) (a : Aid) → Memᴰ (loaded d f) es → PackageFile l a f → T (is_some (by_aid (installed l es) a))
  entry_found es d f a m o =
      let i : Installed = record { domain = d; pack = o.pack } in
      let there : Memᴰ i (installed_by l (loaded d f)) = rw o.reads (mathlib.Core.List.Memᴰ.head refl) in
      find_there (has_aid a) (installed l es) i (flat_mem (installed_by l) (loaded d f) i es m there) (rw o.named (same_refl a))

  module _ (n : ℕ) (es : List Entry) (sound : T (sound_entries v n es)) (a : Aid) where
    -- question 12: no entry before one with a package of the AID has such a one
    new_there : (pre : List Entry) (d : Aid) (f : Bytes) (post : List Entry) → es ≡ pre ++ loaded d f ∷ post → PackageFile l a f →
        (c : Aid) (g : Bytes) → PackageFile l a g → Memᴰ (loaded c g) pre → ⊥
    unfolding sound_entries q12_new
    new_there pre d f post e o c g r m =
        let t : T (accepted v n pre (loaded d f)) = accepted_over n [] pre (loaded d f) post (subst (λ (xs : List Entry). T (accepted_all v n [] xs)) e sound) in
        let y = load_yes v n pre d f (eqb→eq _ 0 t) in
        let p : o.pack ≡ y.0 = some-injective _ _ (sym o.reads ∙ y.1.q11) in
        let b : y.0.aid ≡ a = sym (ap (λ (q : Package). q.aid) p) ∙ o.named in
        T_not (is_some (by_aid (installed l pre) y.0.aid)) y.1.q12 (rw b (entry_found pre c g a m r))

    one_entry : (pre : List Entry) (d : Aid) (f : Bytes) (post : List Entry) → es ≡ pre ++ loaded d f ∷ post → PackageFile l a f →
        (xs : List Entry) (c : Aid) (g : Bytes) (ys : List Entry) → es ≡ xs ++ loaded c g ∷ ys → PackageFile l a g → xs ≡ pre
    one_entry pre d f post e o xs c g ys h r = elim (split_cases xs (loaded c g) ys pre (loaded d f) post (sym h ∙ e)) [
      | inl s ↦ s
      | inr s ↦ absurd (elim s [ inl m ↦ new_there xs c g ys h r d f o m | inr m ↦ new_there pre d f post e o c g r m ])
    ]

    pub place_only : (place : ℕ) → package_place v es a ≡ some place → OnlyAt v es a place
    place_only place e = let s = place_stands l a (opening_length v) es place e in record {
      domain = s.domain;
      file = s.file;
      before = s.before;
      behind = s.behind;
      entry = s.entry;
      place_is = s.place_is;
      holds = s.holds;
      only = λ d f pre post h o. one_entry s.before s.domain s.file s.behind s.entry s.holds pre d f post h o;
    }

  -- the one entry's place is the one found
  pub only_place : (es : List Entry) (a : Aid) (place : ℕ) → OnlyAt v es a place → package_place v es a ≡ some place
  only_place es a place o =
      let there = subst (λ (xs : List Entry). T (is_some (package_place v xs a))) (sym o.entry)
      (stands_place l a (opening_length v) o.before o.domain o.file o.behind o.holds) in
      let r = some_is (package_place v es a) there in
      let s = place_stands l a (opening_length v) es r.0 r.1 in
      let same : s.before ≡ o.before = o.only s.domain s.file s.before s.behind s.entry s.holds in
      r.1 ∙ ap some (s.place_is ∙ ap (used v) same ∙ sym o.place_is)

  -- the package there is the one that a search by the AID finds
  pub only_package : (es : List Entry) (a : Aid) (place : ℕ) (o : OnlyAt v es a place) →
      (package_at v es place ≡ some (record { domain = o.domain; pack = o.holds.pack }))
      × (by_aid (installed l es) a ≡ some (record { domain = o.domain; pack = o.holds.pack }))
  only_package es a place o =
      let there = subst (λ (xs : List Entry). package_at v xs place ≡ some (record { domain = o.domain; pack = o.holds.pack })) (sym o.entry)
      (rw o.place_is (package_there l (opening_length v) o.before o.domain o.file o.behind o.holds.pack o.holds.reads)) in
      let found : package_place v es a ≡ some place = only_place es a place o in
      (there, sym (package_placed l a (opening_length v) es) ∙ rw found there)

-- an element of what is made of a list
at_map : {A B : Type 0} (f : A → B) (xs : List A) (k : ℕ) (x : A) → at xs k ≡ some x → at (map f xs) k ≡ some (f x)
at_map f [] k x e = absurd (none_some e)
at_map f (y ∷ ys) zero x e = ap (λ (z : _). some (f z)) (some-injective _ _ e)
at_map f (y ∷ ys) (suc k) x e = at_map f ys k x e

-- an AID that is installed has a place; so each import has, that of the one entry
pub installed_place : (v : Opening) (es : List Entry) (a : Aid) → T (is_some (by_aid (installed (opening_limits v) es) a)) → (place : ℕ)
    × (package_place v es a ≡ some place)
installed_place v es a h =
    let i = some_is (by_aid (installed (opening_limits v) es) a) h in
    let r = and_then_is (package_place v es a) (package_at v es) i.0 (package_placed (opening_limits v) a (opening_length v) es ∙ i.1) in
    (r.0, r.1)

pub import_only : (v : Opening) (n : ℕ) (es : List Entry) → T (sound_entries v n es) → (p : Package) → T (q13_imports (installed (opening_limits v) es) p) →
    (k : ℕ) (a : Aid) → at p.imports k ≡ some a → (place : ℕ) × (at (import_places v es p) k ≡ some (some place)) × OnlyAt v es a place
unfolding q13_imports
import_only v n es h p q k a e =
    let there = all_mem (λ b. is_some (by_aid (installed (opening_limits v) es) b)) q (at_mem p.imports k a e) in
    let r = installed_place v es a there in
    (r.0, at_map (package_place v es) p.imports k a e ∙ ap some r.1, place_only v n es h a r.0 r.1)
