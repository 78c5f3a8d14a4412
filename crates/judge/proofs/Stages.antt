-- A load's questions from 15 on: each stage from the answers of its questions. Assumes nothing.
use Prim.Native.Nat.{ℕ}
use native.Mathlib.Omega.{arith}
use mathlib.Core.Path.{◌≡◌, refl, sym, ◌∙◌, ap, subst}
use mathlib.Core.Bool.{Bool, true, false, ◌||◌}
use mathlib.Core.List.{List, [], ◌∷◌}
use lib.Dec.{T, eqb}
use lib.ListN.{length}
use borrow.Author.Tests.{ne_eqb, eqb-true}
use Rattle.rules.specs.Bytes.{Bytes, Aid, pick, aid}
use Rattle.rules.specs.Package.{Package}
use Rattle.rules.specs.Store.{Entry, loaded, store_limits, store_opening}
use Rattle.rules.specs.Classes.{installed}
use Rattle.rules.specs.Questions.{q15_names, q16_splits, q17_targets, q24_handlers, q26_subset, q18_calls, q19_allowed, q20_running, q21_fits}
use Rattle.rules.specs.Operations.{Question, first_no, package_questions}
use Rattle.store.specs.Answers.{Fits}
use Rattle.store.proofs.Sound.{over_used}
use Rattle.places.specs.Reads.{Ends}
use Rattle.homes.specs.Homes.{aid_at, DomainAt}
use Rattle.names.specs.Say.{NamesIs}
use Rattle.file_codes.specs.Codes.{file_number, FileNumberIs}
use Rattle.file_codes.proofs.Numbers as codes
use Rattle.calls.specs.Calls.{CodesSplit, CallsNumberIs}
use Rattle.rules.proofs.Tests.{of_true}
use Rattle.running.specs.Say.{JudgedThere, RunningIs}
use Rattle.judge.specs.Says.{Asked14, Asked14Some, NumberFrom, NumberBefore, SubsetIs, SubsetTold, from, asks}
use Rattle.judge.proofs.Answers.{number_no, number-yes, joined-no, joined-yes}
use Rattle.judge.proofs.Settings.{self_of, parents, loading}

module _ (s : Bytes) (end : ℕ) (d : Aid) (f : Bytes) where
  -- 21
  last : (b : Bool) (es : List Entry) → b ≡ q21_fits (store_opening s) (length s) es (loaded d f) →
      pick b 0 21 ≡ first_no ((21, q21_fits (store_opening s) (length s) es (loaded d f)) ∷ [])
  last true es q = rw (sym q)
  last false es q = rw (sym q)

  -- the number from 20 on, where 20 is answered yes and 21 as told
  abbrev pub From20 : Bool → Type 0
  From20 b = NumberFrom 20 s end d f (pick b 0 21)

  -- from 20 on: the loading domain stands at place i
  module _ (i : ℕ) (e : Ends aid s i) (z : d ≡ aid_at s i) where
    loads : (p : Package) → DomainAt s i (self_of d p)
    loads p = record { there = e; is = z }

    pub judged_there : Asked14Some s end d f → JudgedThere f s end i
    judged_there t = (t.0, self_of d t.1, parents t.0 t.1 t.2, t.2.q14, loads t.1)

    pub number_20 : RunningIs f s end i false → NumberFrom 20 s end d f 20
    unfolding package_questions
    number_20 n es p a =
        number_no 20 (q20_running (store_limits s) (installed (store_limits s) es) (self_of d p)) (from 21 (asks s es d f p))
        (sym (n es (self_of d p) (parents es p a) a.q14 (loads p)))

    pub number_21 : (b : Bool) → RunningIs f s end i true → Fits s end (loaded d f) b → From20 b
    unfolding package_questions
    number_21 b twenty n es p a =
        number-yes 20 (q20_running (store_limits s) (installed (store_limits s) es) (self_of d p)) (from 21 (asks s es d f p)) (pick b 0 21)
        (sym (twenty es (self_of d p) (parents es p a) a.q14 (loads p))) (last b es (n es (over_used s end es a.read.over)))

  -- 18 and 19, which are asked together, and what follows them
  abbrev calls : List Entry → Package → List Question
  calls es p =
      let is = installed (store_limits s) es in
      (18, q18_calls (store_limits s) is (self_of d p)) ∷ (19, q19_allowed (store_limits s) is (self_of d p)) ∷ []

  module _ (c : ℕ) (number : CallsNumberIs f s end d c) where
    number_18 : (c ≡ 0 → ⊥) → NumberFrom 18 s end d f c
    unfolding package_questions
    number_18 z es p a = joined-no (calls es p) (from 20 (asks s es d f p)) c tt (number es (self_of d p) (loading es p a) refl) z

    behind_19 : c ≡ 0 → (r : ℕ) → NumberFrom 20 s end d f r → NumberFrom 18 s end d f r
    unfolding package_questions
    behind_19 z r n es p a = joined-yes (calls es p) (from 20 (asks s es d f p)) r tt (sym z ∙ number es (self_of d p) (loading es p a) refl) (n es p a)

    pub calls_before : NumberBefore 18 20 s end d f c
    calls_before = (number_18, behind_19)

  -- 15
  number_15 : NamesIs f false → NumberFrom 15 s end d f 15
  unfolding package_questions
  number_15 n es p a = number_no 15 (q15_names p) (from 16 (asks s es d f p)) (sym (n (store_limits s) p a.read.reads))

  pub names_before : NamesIs f false → NumberBefore 15 20 s end d f 15
  names_before n = ((λ z. number_15 n), (λ z. absurd (omega (arith, z))))

  module _ (fifteen : NamesIs f true) (c : ℕ) (number : FileNumberIs f c) where
    -- behind 15
    behind_15 : (es : List Entry) (p : Package) → Asked14 s end d f es p → (r : ℕ) → r ≡ first_no (from 16 (asks s es d f p)) → r ≡ first_no
        (from 15 (asks s es d f p))
    unfolding package_questions
    behind_15 es p a r h = number-yes 15 (q15_names p) (from 16 (asks s es d f p)) r (sym (fifteen (store_limits s) p a.read.reads)) h

    -- the number of the codes of the file
    of_file : (es : List Entry) (p : Package) → Asked14 s end d f es p → c ≡ file_number p
    of_file es p a = number (store_limits s) p a.read.reads

    -- 16, 17 or 24
    number_16 : (c ≡ 0 → ⊥) → (c ≡ 18 → ⊥) → NumberFrom 15 s end d f c
    unfolding package_questions
    number_16 z y es p a =
        let e = of_file es p a in
        behind_15 es p a c (e ∙ sym (codes.number_no p (from 26 (asks s es d f p)) (λ x. z (e ∙ x)) (λ x. y (e ∙ x))))

    -- a number that is neither 0 nor 18
    pub codes_before : (c ≡ 0 → ⊥) → (c ≡ 18 → ⊥) → NumberBefore 15 20 s end d f c
    codes_before z y = (λ k. number_16 z y, λ e. absurd (z e))

    -- 0 or 18: 16, 17 and 24 are answered yes
    module _ (ok : (eqb c 0 || eqb c 18) ≡ true) where
      passed : (es : List Entry) (p : Package) → Asked14 s end d f es p → (q16_splits p ≡ true) × (q17_targets p ≡ true) × (q24_handlers p ≡ true)
      passed es p a = go (eqb c 0) (eqb c 18) refl refl ok
        where
          go : (x y : Bool) → eqb c 0 ≡ x → eqb c 18 ≡ y → (x || y) ≡ true → (q16_splits p ≡ true) × (q17_targets p ≡ true) × (q24_handlers p ≡ true)
          go true y e g h = let z = codes.number_0 p (sym (of_file es p a) ∙ eqb-true c 0 e) in (z.0, z.1, z.2)
          go false true e g h = codes.number_18 p (sym (of_file es p a) ∙ eqb-true c 18 g)
          go false false e g h = absurd (subst T (sym h) tt)

      -- and 18 where it is not 0
      pub is_18 : (c ≡ 0 → ⊥) → c ≡ 18
      is_18 z = eqb-true c 18 (sym (ap (λ (x : Bool). x || eqb c 18) (ne_eqb c 0 z)) ∙ ok)

      behind_24 : (es : List Entry) (p : Package) → Asked14 s end d f es p → (r : ℕ) → r ≡ first_no (from 26 (asks s es d f p)) →
          r ≡ first_no (from 15 (asks s es d f p))
      unfolding package_questions
      behind_24 es p a r h =
          let x = passed es p a in
          let from_24 = number-yes 24 (q24_handlers p) (from 26 (asks s es d f p)) r x.2 h in
          let from_17 = number-yes 17 (q17_targets p) (from 24 (asks s es d f p)) r x.1 from_24 in
          behind_15 es p a r (number-yes 16 (q16_splits p) (from 17 (asks s es d f p)) r x.0 from_17)

      -- 26, as it was asked
      module _ (x kept : Bool) (is : SubsetIs f x kept) (told : SubsetTold s end d f x) where
        subset_is : (es : List Entry) (p : Package) → Asked14 s end d f es p → q26_subset es d p ≡ kept
        subset_is es p a = sym (told es a.read.over p a.read.reads) ∙ sym (is (store_limits s) p a.read.reads)

        number_26 : kept ≡ false → NumberFrom 15 s end d f 26
        unfolding package_questions
        number_26 e es p a = behind_24 es p a 26 (number_no 26 (q26_subset es d p) (from 18 (asks s es d f p)) (subset_is es p a ∙ e))

        pub subset_before : kept ≡ false → NumberBefore 15 20 s end d f 26
        subset_before e = ((λ z. number_26 e), (λ z. absurd (omega (arith, z))))

        module _ (e : kept ≡ true) where
          behind_26 : (r : ℕ) → NumberFrom 18 s end d f r → NumberFrom 15 s end d f r
          unfolding package_questions
          behind_26 r n es p a =
              behind_24 es p a r (number-yes 26 (q26_subset es d p) (from 18 (asks s es d f p)) r (subset_is es p a ∙ e) (n es p a))

          -- there are no calls: 18 and 19 are answered yes
          without_calls : c ≡ 0 → (r : ℕ) → NumberFrom 20 s end d f r → NumberFrom 18 s end d f r
          unfolding package_questions
          without_calls z r n es p a =
              let quiet = (codes.number_0 p (sym (of_file es p a) ∙ z)).3 in
              let is = installed (store_limits s) es in
              let l = store_limits s in
              let self = self_of d p in
              let from_19 = number-yes 19 (q19_allowed l is self) (from 20 (asks s es d f p)) r (codes.quiet_19 is self quiet l) (n es p a) in
              number-yes 18 (q18_calls l is self) (from 19 (asks s es d f p)) r (codes.quiet_18 is self quiet l) from_19

          pub quiet_before : c ≡ 0 → NumberBefore 15 20 s end d f 0
          quiet_before z = ((λ y. absurd (y refl)), (λ y r n. behind_26 r (without_calls z r n)))

          -- 18 and 19 behind them
          pub calls_behind : (r : ℕ) → NumberBefore 18 20 s end d f r → NumberBefore 15 20 s end d f r
          calls_behind r b = ((λ z. behind_26 r (b.0 z)), (λ z n from-20. behind_26 n (b.1 z n from-20)))

    -- every code splits
    pub codes_split : Asked14Some s end d f → c ≡ 18 → CodesSplit f
    codes_split t e l p r = of_true (codes.number_18 p (sym (number l p r) ∙ e)).0
