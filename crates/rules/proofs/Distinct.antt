-- In a sound store a package is told by its AID, a class by that and its number, a method by these and its name. Assumes nothing.
use Prim.Native.Nat.{ℕ}
use mathlib.Core.Path.{◌≡◌, sym, ◌∙◌, ap, ap₂, subst}
use mathlib.Core.Logic.{inl, inr}
use mathlib.Core.Bool.{true, ◌&&◌, not}
use mathlib.Core.List.Memᴰ
use mathlib.Core.List.{List, [], ◌∷◌, ◌++◌, Memᴰ, append-nil, append_assoc}
use mathlib.Core.Option.{none, some, some-injective}
use lib.Dec.{T, eqb, eqb→eq, eqb_refl, T_not}
use Rattle.rules.specs.Bytes.{all, same}
use Rattle.rules.specs.Package.{Limits, Method, Class}
use Rattle.rules.specs.Store.{Opening, opening_limits, Entry, domain, loaded}
use Rattle.rules.specs.Classes.{Installed, installed, has_aid, by_aid, ClassAt, record_of, MethodAt}
use Rattle.rules.specs.Questions.{names_differ, method_form, q12_new, q15_names}
use Rattle.rules.specs.Operations.{accepted, accepted_all, sound_entries}
use Rattle.rules.specs.Called.{same_class, same_method}
use Rattle.rules.proofs.Tests.{and_l, and_r, and_i, is_true, all_mem, same_eq, same_refl}
use Rattle.rules.proofs.Lists.{at_mem, not_some, find_append}
use Rattle.rules.proofs.Asked.{load_yes}
use Rattle.rules.proofs.Sound.{Sane, by_aid_more, installed_domain, installed_loaded}

-- every installed package is the one found by its AID
abbrev pub Distinct : List Installed → Type 0
Distinct is = (x : Installed) → Memᴰ x is → by_aid is x.pack.aid ≡ some x

module _ (v : Opening) where
  abbrev l : Limits
  l = opening_limits v

  distinct_with : (is : List Installed) (self : Installed) → Distinct is → T (q12_new is self.pack) → Distinct (is ++ self ∷ [])
  unfolding q12_new
  distinct_with is self d q12 x m = elim (Memᴰ.append_cases is m) [
    | inl h ↦ sym (by_aid_more is (self ∷ []) x.pack.aid (rw (d x h) tt)) ∙ d x h
    | inr h ↦ let e : x ≡ self = Memᴰ.eq_of_singleton h in
        let n : by_aid is self.pack.aid ≡ none = not_some _ q12 in
        let s : same self.pack.aid self.pack.aid ≡ true = is_true _ (same_refl self.pack.aid) in
        rw e (find_append (has_aid self.pack.aid) is (self ∷ []) ∙ rw (n, s))
  ]

  distinct_next : (n : ℕ) (es : List Entry) (e : Entry) → Distinct (installed l es) → T (accepted v n es e) → Distinct (installed l (es ++ e ∷ []))
  distinct_next n es (domain k a) s h = subst Distinct (sym (installed_domain l es k a)) s
  distinct_next n es (loaded d f) s h =
      let r = load_yes v n es d f (eqb→eq _ 0 h) in
      subst Distinct (sym (installed_loaded l es d f r.0 r.1.q11)) (distinct_with (installed l es) (record { domain = d; pack = r.0 }) s r.1.q12)

  distinct_all : (n : ℕ) (es rest : List Entry) → Distinct (installed l es) → T (accepted_all v n es rest) → Distinct (installed l (es ++ rest))
  distinct_all n es [] s h = subst (λ (xs : List Entry). Distinct (installed l xs)) (sym (append-nil es)) s
  distinct_all n es (e ∷ rest) s h =
      let a : T (accepted v n es e) = and_l (accepted v n es e) _ h in
      let b : T (accepted_all v n (es ++ e ∷ []) rest) = and_r (accepted v n es e) _ h in
      subst (λ (xs : List Entry). Distinct (installed l xs)) (append_assoc es (e ∷ []) rest) (distinct_all n (es ++ e ∷ []) rest (distinct_next n es e s a) b)

  -- in a sound store
  pub sound_distinct : (n : ℕ) (es : List Entry) → T (sound_entries v n es) → Distinct (installed l es)
  unfolding sound_entries
  sound_distinct n es h = distinct_all n [] es (λ x m. elim m [ ]) h

-- a method of an installed package, where it stands
pub record There (is : List Installed) (m : MethodAt) : Type 0 where
  pub class : Class
  pub home : Memᴰ m.class.home is
  pub there : record_of m.class ≡ some class
  pub member : Memᴰ m.method class.methods

-- methods of a class whose names differ are told by their names
names_differ_lem : (ms : List Method) → T (names_differ ms) → (m o : Method) → Memᴰ m ms → Memᴰ o ms → m.name ≡ o.name → m ≡ o
names_differ_lem [] h m o p q e = elim p [ ]
names_differ_lem (x ∷ ms) h m o p q e =
    let a : T (all (λ y. not (eqb x.name y.name)) ms) = and_l (all (λ y. not (eqb x.name y.name)) ms) (names_differ ms) h in
    let b : T (names_differ ms) = and_r (all (λ y. not (eqb x.name y.name)) ms) (names_differ ms) h in
    let unlike : (y : Method) → Memᴰ y ms → x.name ≡ y.name → ⊥ =
    λ y r z. T_not (eqb x.name y.name) (all_mem (λ (w : Method). not (eqb x.name w.name)) a r) (rw z (eqb_refl y.name)) in
    elim (Memᴰ.cases_cons p) [
      | inl u ↦ elim (Memᴰ.cases_cons q) [ inl v ↦ u ∙ sym v | inr v ↦ absurd (unlike o v (sym (ap (λ (w : Method). w.name) u) ∙ e)) ]
      | inr u ↦ elim (Memᴰ.cases_cons q) [
        | inl v ↦ absurd (unlike m u (sym (ap (λ (w : Method). w.name) v) ∙ sym e))
        | inr v ↦ names_differ_lem ms b m o
            u v e
      ]
    ]

module _ (l : Limits) (is : List Installed) (sane : Sane l is) (distinct : Distinct is) where
  -- one package by its AID
  one_package : (x y : Installed) → Memᴰ x is → Memᴰ y is → x.pack.aid ≡ y.pack.aid → x ≡ y
  one_package x y p q e = some-injective _ _ (sym (distinct x p) ∙ ap (by_aid is) e ∙ distinct y q)

  -- one class by package AID and number
  pub one_class : (c d : ClassAt) → Memᴰ c.home is → Memᴰ d.home is → T (same_class c d) → c ≡ d
  one_class c d p q h =
      let a = same_eq c.home.pack.aid d.home.pack.aid (and_l (same c.home.pack.aid d.home.pack.aid) _ h) in
      let n : c.number ≡ d.number = eqb→eq c.number d.number (and_r (same c.home.pack.aid d.home.pack.aid) _ h) in
      ap₂ (λ (i : Installed) (k : ℕ). record { home = i; number = k }) (one_package c.home d.home p q a) n

  pub class_refl : (c : ClassAt) → T (same_class c c)
  class_refl c = and_i (same c.home.pack.aid c.home.pack.aid) (eqb c.number c.number) (same_refl c.home.pack.aid) (eqb_refl c.number)

  -- one method by these and its name
  pub one_method : (m o : MethodAt) → There is m → There is o → T (same_method m o) → m ≡ o
  unfolding q15_names
  one_method m o p q h =
      let c : m.class ≡ o.class = one_class m.class o.class p.home q.home (and_l (same_class m.class o.class) _ h) in
      let n = eqb→eq m.method.name o.method.name (and_r (same_class m.class o.class) _ h) in
      let k : p.class ≡ q.class = some-injective _ _ (sym p.there ∙ ap record_of c ∙ q.there) in
      let t =
      all_mem (λ (y : Class). names_differ y.methods && all (method_form y) y.methods) (sane.each m.class.home p.home).q15
      (at_mem m.class.home.pack.classes m.class.number p.class p.there) in
      let d = and_l (names_differ p.class.methods) _ t in
      let e : m.method ≡ o.method = names_differ_lem p.class.methods d m.method o.method p.member (rw (← k) at q.member) n in
      ap₂ (λ (y : ClassAt) (z : Method). record { class = y; method = z }) c e
