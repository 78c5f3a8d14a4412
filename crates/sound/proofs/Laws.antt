-- Questions 1 and 2 of a buffer by its layout, its domains and its packages. Assumes nothing.
use Prim.Native.Nat.{ℕ}
use native.Mathlib.Omega.{arith}
use mathlib.Core.Path.{◌≡◌, refl, sym, ◌∙◌, ap, subst}
use mathlib.Core.Bool.{Bool, true, false, ◌&&◌}
use mathlib.Core.List.{List, [], ◌∷◌, ◌++◌}
use mathlib.Core.Logic.{⊎_elim}
use mathlib.Core.Option.{Option, none, some, some-injective}
use lib.Dec.{T}
use lib.ListN.{length}
use Rattle.rules.specs.Bytes.{Bytes, Aid, ◌and_then◌}
use Rattle.rules.specs.Code.{u2_at}
use Rattle.rules.specs.Limits.{Limits}
use Rattle.rules.specs.Store.{Entry, domain, loaded, used, entries_of, first_entry, store_limits, store_opening}
use Rattle.rules.specs.Questions.{q1_size, q3_lengths, q5_created}
use Rattle.rules.specs.Operations.{accepted_all, sound_entries, sound, entries, load, number, questions}
use Rattle.rules.proofs.Tests.{and_l, and_r, of_true}
use Rattle.store.specs.Entries.{Entries, StandFrom, Holds}
use Rattle.store.specs.Sound.{Over, SoundAt, Asked}
use Rattle.std.specs.Prelude.{Some, None, Result, Ok, Err}
use Rattle.std.specs.Prelude.{Option as Optional}
use Rattle.fields.specs.Told.{told}
use Rattle.store.proofs.Asked.{size_is}
use Rattle.store.proofs.Sound.{asked_number}
use Rattle.store.proofs.Stand.{entries_next}
use Rattle.store.proofs.Laid.{laid_by}
use Rattle.domains.specs.Domains.{domain_accepted, domains_accepted, AllSay}
use Rattle.domains.proofs.Split.{all_domains, kept_reads, domains_append}
use Rattle.judge.specs.Says.{DomainYes, DomainsYes, PackagesSay, LoadSays}
use Rattle.refusals.specs.declared.refusal.Refusal.{Refusal}
use Rattle.refusals.specs.declared.refusal.Refusal.TheVariants as refused
use Rattle.refusals.specs.Refusals.{number_of, number_said}
use Rattle.sound.specs.Says.{LaidAt, Unopened, JudgedSays}

-- the domains of entries that question 2 goes through
pub domains_yes : (s : Bytes) (u : ℕ) → AllSay s u true → DomainsYes s u
domains_yes s u h es pre post e r are =
    let all : domains_accepted l [] (pre ++ e ∷ post) ≡ true = ap (domains_accepted l []) (sym are) ∙ sym (h es r) in
    let split : T (domains_accepted l [] pre && domains_accepted l pre (e ∷ post)) = of_true (sym (domains_append l [] pre (e ∷ post)) ∙ all) in
    let here : T (domain_accepted l pre e && domains_accepted l (pre ++ e ∷ []) post) =
    and_r (domains_accepted l [] pre) (domains_accepted l pre (e ∷ post)) split in
    one e (and_l (domain_accepted l pre e) (domains_accepted l (pre ++ e ∷ []) post) here)
  where
    l : Limits
    l = store_limits s

    one : (e : Entry) → T (domain_accepted l pre e) → DomainYes l pre e
    one (domain k a) t = (and_l (q3_lengths (a ∷ [])) _ t, and_r (q3_lengths (a ∷ [])) _ t)
    one (loaded d f) t =
        let five = and_r (q3_lengths (d ∷ [])) _ t in
        (and_l (q3_lengths (d ∷ [])) _ t, and_l (q5_created pre d) _ five, λ p e. kept_reads l pre d f p e (and_r (q5_created pre d) _ five))

-- what the layout's answer says
told_broken : (s : Bytes) (r : Optional ℕ) → r ≡ None → told r ≡ (entries_of s and_then λ es. some (used (store_opening s) es)) → entries_of s ≡ none
told_broken s r q e = go (entries_of s) (ap told (sym q) ∙ e)
  where
    go : (o : Option (List Entry)) → none ≡ (o and_then λ es. some (used (store_opening s) es)) → o ≡ none
    go none h = refl
    go (some es) h = let z : ◌≡◌ {A = ℕ} 0 1 = cc in absurd (omega arith)

told_used : (s : Bytes) (r : Optional ℕ) (u : ℕ) → r ≡ Some u → told r ≡ (entries_of s and_then λ es. some (used (store_opening s) es)) →
    (es : List Entry) × (entries_of s ≡ some es) × (used (store_opening s) es ≡ u)
told_used s r u q e = go (entries_of s) refl (ap told (sym q) ∙ e)
  where
    go : (o : Option (List Entry)) → entries_of s ≡ o → some u ≡ (o and_then λ es. some (used (store_opening s) es)) →
        (es : List Entry) × (entries_of s ≡ some es) × (used (store_opening s) es ≡ u)
    go none h x = let z : ◌≡◌ {A = ℕ} 0 1 = cc in absurd (omega arith)
    go (some es) h x = (es, h, sym (some-injective _ _ x))

-- a refusal of 1 or 2 as a load's number
pub unopened_load : (s : Bytes) (e : Refusal) (d : Aid) (f : Bytes) → Unopened s e → number_of e ≡ number s (load d f)
unfolding number
unopened_load s e d f p = p (questions (store_opening s) (length s) (entries s) (load d f))

module _ (s : Bytes) where
  -- 1 answered no
  pub unopened_1 : q1_size s ≡ false → Unopened s refused.StoreSize
  unopened_1 h qs = rw h

  module _ (size : q1_size s ≡ true) where
    -- 2 answered no
    unopened_2 : sound s ≡ false → Unopened s refused.StoreUnsound
    unopened_2 k qs = rw (size, k)

    module _ (r : Optional ℕ) (is : told r ≡ (entries_of s and_then λ es. some (used (store_opening s) es))) where
      pub unopened_broken : r ≡ None → Unopened s refused.StoreUnsound
      unfolding sound
      unopened_broken e = unopened_2 (rw (size, told_broken s r e is))

      module _ (u : ℕ) (e : r ≡ Some u) (holds : (es : List Entry) → entries_of s ≡ some es → Holds s es) where
        -- the entries, and that they stand
        abbrev es : List Entry
        es = (told_used s r u e is).0

        reads : entries_of s ≡ some es
        reads = (told_used s r u e is).1

        ends : used (store_opening s) es ≡ u
        ends = (told_used s r u e is).2

        stand : Entries s (first_entry s) es u
        stand = subst (Entries s (first_entry s) es) ends (holds es reads).stand

        pub stand_from : StandFrom s (first_entry s) u
        stand_from = (es, stand)

        -- the domains refused
        pub unopened_domains : AllSay s u false → Unopened s refused.StoreUnsound
        unfolding sound sound_entries
        unopened_domains h =
            let no : sound_entries (store_opening s) (length s) es ≡ false = go (accepted_all (store_opening s) (length s) [] es)
            (λ t. all_domains (store_opening s) (length s) [] es t) in
            unopened_2 (rw (size, reads) no)
          where
            go : (b : Bool) → (T b → T (domains_accepted (store_limits s) [] es)) → b ≡ false
            go false k = refl
            go true k = absurd (subst T (sym (h es stand)) (k tt))

        pub laid_at : AllSay s u true → LaidAt s u
        laid_at h = record {
          size = size;
          small = (size_is s size).1;
          entries = es;
          reads = reads;
          holds = holds es reads;
          ends = ends;
          field = sym (entries_next s (first_entry s) es (u2_at s 5) (laid_by s es reads).stand) ∙ ends;
          stand = stand_from;
          domains = domains_yes s u h;
        }

module _ (s : Bytes) (u : ℕ) (a : LaidAt s u) where
  -- the entries stand
  stands : Entries s (first_entry s) a.entries u
  stands = subst (Entries s (first_entry s) a.entries) a.ends a.holds.stand

  -- question 2, by that of the entries
  sound_by : (b : Bool) → sound_entries (store_opening s) (length s) a.entries ≡ b → sound s ≡ b
  unfolding sound
  sound_by b e = rw (a.size, a.reads) e

  pub unopened_packages : PackagesSay s u false → Unopened s refused.StoreUnsound
  unopened_packages h qs = rw (a.size, sound_by false (sym (h a.entries stands)))

  pub sound_at : PackagesSay s u true → SoundAt s u
  unfolding sound_entries
  sound_at h =
      let yes : sound_entries (store_opening s) (length s) a.entries ≡ true = sym (h a.entries stands) in
      record {
        is = sound_by true yes;
        entries = λ fs q.
            let z : a.entries ≡ fs = some-injective _ _ (sym a.reads ∙ q) in
            let over : Over s u a.entries = record { stand = stands; sound = of_true yes } in
            subst (λ (gs : List Entry). Holds s gs × Over s u gs × (used (store_opening s) gs ≡ u)) z (a.holds, over, a.ends);
      }

  -- a load
  module _ (d : Aid) (f : Bytes) (r : Result ℕ Refusal) (j : JudgedSays s u d f r) where
    pub loading_refused : (e : Refusal) → r ≡ Err e → number_of e ≡ number s (load d f)
    unfolding number
    loading_refused e z = ⊎_elim unsound asked j
      where
        unsound : PackagesSay s u false × (r ≡ Err refused.StoreUnsound) → number_of e ≡ number s (load d f)
        unsound x =
            let is : 2 ≡ number_of e = ap (number_said {A = ℕ}) (sym x.1 ∙ z) in
            sym is ∙ unopened_packages x.0 (questions (store_opening s) (length s) (entries s) (load d f))

        asked : PackagesSay s u true × LoadSays s u d f r → number_of e ≡ number s (load d f)
        asked x =
            let is : Asked s u (load d f) (number_of e) = λ es o. ap (number_said {A = ℕ}) (sym z) ∙ (x.1 es o).number in
            asked_number s u (sound_at x.0) (load d f) (number_of e) is

    pub loading_done : (depth : ℕ) → r ≡ Ok depth → SoundAt s u × LoadSays s u d f (Ok depth)
    loading_done depth e = ⊎_elim unsound asked j
      where
        unsound : PackagesSay s u false × (r ≡ Err refused.StoreUnsound) → SoundAt s u × LoadSays s u d f (Ok depth)
        unsound x = let z : ◌≡◌ {A = ℕ} 0 2 = ap (number_said {A = ℕ}) (sym e ∙ x.1) in absurd (omega (arith, z))

        asked : PackagesSay s u true × LoadSays s u d f r → SoundAt s u × LoadSays s u d f (Ok depth)
        asked x = (sound_at x.0, subst (LoadSays s u d f) e x.1)
