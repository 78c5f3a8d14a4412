-- The search gives after every list of calls what it gave at the load: as long as a package stays installed, each of its references names the
-- class and means the declaration that question 18 found. Assumes nothing.
use Prim.Native.Nat.{ℕ, zero, suc}
use mathlib.Core.Path.{◌≡◌, refl, sym, ◌∙◌, ap, subst}
use mathlib.Core.Logic.{inl, inr}
use mathlib.Core.Bool.{Bool, true, false}
use mathlib.Core.List.Memᴰ
use mathlib.Core.List.{List, [], ◌∷◌, ◌++◌, Memᴰ}
use mathlib.Core.Option.{some, some-injective}
use lib.Dec.{T}
use lib.ListN.{length}
use Rattle.rules.specs.Bytes.{Bytes, Aid, pick, is_some}
use Rattle.rules.specs.Package.{Limits, Reference, Package, read_file}
use Rattle.rules.specs.Store.{Opening, opening_limits, Entry, domain, loaded}
use Rattle.rules.specs.Classes.{Installed, installed_by, installed, has_aid, by_aid}
use Rattle.rules.specs.Questions.{q13_imports, reference_names}
use Rattle.rules.specs.Operations.{sound_entries, Operation, create, delete, load, remove, is_domain, is_package, without, change, if_done, fresh_number}
use Rattle.rules.specs.Ledger.{ledger_number, ledger_step, ledger_after, Stays}
use Rattle.rules.proofs.Tests.{all_mem, find_some, flat_mem_is, same_eq}
use Rattle.rules.proofs.Lists.{flat_append, some_is}
use Rattle.rules.proofs.Bounds.{flat_mem}
use Rattle.rules.proofs.Asked.{load_yes}
use Rattle.rules.proofs.Agree.{reference_names_agree}
use Rattle.rules.proofs.Sound.{Sane, by_aid_more, sound_sane, installed_loaded}
use Rattle.rules.proofs.Distinct.{Distinct, sound_distinct}
use Rattle.rules.proofs.Ledger.{number_written, ledger_sound}
use Rattle.rules.proofs.Whole.{FreshDone, fresh_done, fresh_sound}

-- a list of packages that holds all of another's, whose imports are installed there
module _ (l : Limits) (is js : List Installed) (sane : Sane l is) (distinct : Distinct js) (more : (x : Installed) → Memᴰ x is → Memᴰ x js) where
  found_more : (x : Installed) → Memᴰ x is → (a : Aid) → Memᴰ a x.pack.imports → by_aid is a ≡ by_aid js a
  unfolding q13_imports
  found_more x m a k =
      let y = some_is (by_aid is a) (all_mem (λ b. is_some (by_aid is b)) (sane.imports x m) k) in
      let f = find_some (has_aid a) is y.0 y.1 in
      let z : a ≡ y.0.pack.aid = same_eq a y.0.pack.aid f.1 in
      y.1 ∙ sym (ap (by_aid js) z ∙ distinct y.0 (more y.0 f.0))

  names_more : (self : Installed) → Memᴰ self is → (x : Reference) → reference_names l is self x ≡ reference_names l js self x
  names_more self m = reference_names_agree is js (λ y. Memᴰ y is) found_more (λ y k a h z e. (find_some (has_aid a) is z e).0) l self m

-- what is left without an entry was there
without_mem : (q : Entry → Bool) (es : List Entry) (e : Entry) → Memᴰ e (without q es) → Memᴰ e es
without_mem q [] e m = m
without_mem q (x ∷ es) e m = go (q x) m (without_mem q es e)
  where
    go : (b : Bool) → Memᴰ e (pick b es (x ∷ without q es)) → (Memᴰ e (without q es) → Memᴰ e es) → Memᴰ e (x ∷ es)
    go true k rec = Memᴰ.tail k
    go false k rec = elim (Memᴰ.cases_cons k) [ inl z ↦ Memᴰ.head z | inr h ↦ Memᴰ.tail (rec h) ]

module _ (l : Limits) (es : List Entry) (x : Installed) where
  -- the packages of fewer entries, and of more
  fewer : (q : Entry → Bool) → Memᴰ x (installed l (without q es)) → Memᴰ x (installed l es)
  fewer q m = let e = flat_mem_is (installed_by l) (without q es) x m in flat_mem (installed_by l) e.0 x es (without_mem q es e.0 e.1) e.2

  pub further : (ds : List Entry) → Memᴰ x (installed l es) → Memᴰ x (installed l (es ++ ds))
  further ds m = rw (flat_append (installed_by l) es ds) (Memᴰ.append_left (installed l ds) m)

module _ (s : Bytes) (v : Opening) (z : fresh_number s v ≡ 0) where
  abbrev l : Limits
  l = opening_limits v

  abbrev n : ℕ
  n = length s

  known : FreshDone s v
  known = fresh_done s v z

  step_sound : (es : List Entry) (o : Operation) → T (sound_entries v n es) → T (sound_entries v n (ledger_step v n es o))
  step_sound = ledger_sound v known.ranged n known.least known.most

  -- two lists of entries, both sound, of which one has all packages of the other
  both_name : (es ds : List Entry) → T (sound_entries v n es) → T (sound_entries v n ds) → ((x : Installed) → Memᴰ x (installed l es) →
      Memᴰ x (installed l ds)) → (self : Installed) → Memᴰ self (installed l es) → (x : Reference) →
      reference_names l (installed l es) self x ≡ reference_names l (installed l ds) self x
  both_name es ds h k = names_more l (installed l es) (installed l ds) (sound_sane v n es h) (sound_distinct v n ds k)

  -- one call
  step_names : (es : List Entry) (o : Operation) → T (sound_entries v n es) → (self : Installed) → Memᴰ self (installed l es) →
      Memᴰ self (installed l (ledger_step v n es o)) → (x : Reference) →
      reference_names l (installed l (ledger_step v n es o)) self x ≡ reference_names l (installed l es) self x
  unfolding ledger_step
  step_names es o h self m k x = go o (ledger_number v n es o) (step_sound es o h) k
    where
      Same : List Entry → Type 0
      Same ds = reference_names l (installed l ds) self x ≡ reference_names l (installed l es) self x

      go : (o : Operation) (r : ℕ) → T (sound_entries v n (if_done r (change l es o) es)) → Memᴰ self (installed l (if_done r (change l es o) es)) →
          Same (if_done r (change l es o) es)
      go o (suc r) a b = refl
      go (create j d) zero a b = sym (both_name es (es ++ domain j d ∷ []) h a (λ y. further l es y (domain j d ∷ [])) self m x)
      go (load d f) zero a b = sym (both_name es (es ++ loaded d f ∷ []) h a (λ y. further l es y (loaded d f ∷ [])) self m x)
      go (delete d) zero a b = both_name (without (is_domain d) es) es a h (λ y. fewer l es y (is_domain d)) self b x
      go (remove d) zero a b = both_name (without (is_package l d) es) es a h (λ y. fewer l es y (is_package l d)) self b x

  -- a list of calls through which the package stays
  stays_there : (es : List Entry) (os : List Operation) (self : Installed) → Stays v n es os self → Memᴰ self (installed l es)
  stays_there es [] self k = k
  stays_there es (o ∷ os) self k = k.0

  stays_names : (es : List Entry) (os : List Operation) → T (sound_entries v n es) → (self : Installed) → Stays v n es os self → (x : Reference) →
      reference_names l (installed l (ledger_after v n es os)) self x ≡ reference_names l (installed l es) self x
  stays_names es [] h self k x = refl
  stays_names es (o ∷ os) h self k x =
      let next : List Entry = ledger_step v n es o in
      stays_names next os (step_sound es o h) self k.1 x ∙ step_names es o h self k.0 (stays_there next os self k.1) x

  -- the load, on the ledger after any list of calls
  after_append : (es : List Entry) (os qs : List Operation) → ledger_after v n es (os ++ qs) ≡ ledger_after v n (ledger_after v n es os) qs
  after_append es [] qs = refl
  after_append es (o ∷ os) qs = after_append (ledger_step v n es o) os qs

  load_names : (es : List Entry) → T (sound_entries v n es) → (d : Aid) (f : Bytes) (p : Package) → ledger_number v n es (load d f) ≡ 0 →
      read_file l f ≡ some p → (installed l (ledger_step v n es (load d f)) ≡ installed l es ++ record { domain = d; pack = p } ∷ []) ×
      ((x : Reference) → reference_names l (installed l es) (record { domain = d; pack = p }) x ≡
      reference_names l (installed l es ++ record { domain = d; pack = p } ∷ []) (record { domain = d; pack = p }) x)
  unfolding ledger_step ledger_number q13_imports
  load_names es h d f p e r =
      let y = load_yes v n es d f (sym (number_written v known.ranged n known.least known.most es (load d f) h) ∙ e) in
      let q : y.0 ≡ p = some-injective _ _ (sym y.1.q11 ∙ r) in
      let q13 = subst (λ (c : Package). T (q13_imports is c)) q y.1.q13 in
      let more = ap (λ (k : ℕ). installed l (if_done k (es ++ loaded d f ∷ []) es)) e ∙ installed_loaded l es d f p r in (
        more,
        reference_names_agree is (is ++ self ∷ []) (λ c. T (q13_imports is c.pack))
            (λ c k a m. by_aid_more is (self ∷ []) a (all_mem (λ b. is_some (by_aid is b)) k m))
            (λ c k a m w i. sane.imports w (find_some (has_aid a) is w i).0) l self q13,
      )
    where
      is : List Installed
      is = installed l es

      self : Installed
      self = record { domain = d; pack = p }

      sane : Sane l is
      sane = sound_sane v n es h

  pub names_since : (os : List Operation) (d : Aid) (f : Bytes) (p : Package) → ledger_number v n (ledger_after v n [] os) (load d f) ≡ 0 →
      read_file l f ≡ some p → (qs : List Operation) → Stays v n (ledger_after v n [] (os ++ load d f ∷ [])) qs (record { domain = d; pack = p }) →
      (x : Reference) → reference_names l (installed l (ledger_after v n [] (os ++ load d f ∷ qs))) (record { domain = d; pack = p }) x ≡
      reference_names l (installed l (ledger_after v n [] os)) (record { domain = d; pack = p }) x
  names_since os d f p e r qs k x =
      let es : List Entry = ledger_after v n [] os in
      let self : Installed = record { domain = d; pack = p } in
      let h = fresh_sound s v z os in
      let a = load_names es h d f p e r in
      let k' : Stays v n (ledger_step v n es (load d f)) qs self = subst (λ (ds : List Entry). Stays v n ds qs self) (after_append [] os (load d f ∷ [])) k in
      let on = stays_names (ledger_step v n es (load d f)) qs (step_sound es (load d f) h) self k' x in
      ap (λ (ds : List Entry). reference_names l (installed l ds) self x) (after_append [] os (load d f ∷ qs)) ∙ on
      ∙ ap (λ (is : List Installed). reference_names l is self x) a.0 ∙ sym (a.1 x)
