-- A load over sound entries: 3 and 5, and what follows 10 to 14. Assumes nothing.
use Prim.Native.Nat.{ℕ, ◌+◌}
use native.Mathlib.Omega.{arith}
use mathlib.Core.Path.{◌≡◌, refl, sym, ◌∙◌, ap, subst}
use mathlib.Core.Bool.{Bool, true, false, ◌||◌, not}
use mathlib.Core.List.{List, [], ◌∷◌}
use lib.Dec.{T}
use lib.ListN.{length}
use Rattle.rules.specs.Bytes.{Bytes, Aid, aid_length, aid}
use Rattle.rules.specs.Package.{Package, read_file}
use Rattle.rules.specs.Store.{Entry, domain, loaded, store_limits, store_opening, first_entry}
use Rattle.rules.specs.Classes.{installed}
use Rattle.rules.specs.Questions.{q3_lengths, q5_created, q10_marked, q11_reads, q12_new, q13_imports, q14_parents, all_codes, q26_subset}
use Rattle.rules.specs.Operations.{first_no, package_questions, load_questions, deepest_of, is_domain}
use Rattle.rules.proofs.Tests.{is_true, of_true, same_eq}
use Rattle.places.specs.Reads.{Ends}
use Rattle.homes.specs.Homes.{aid_at}
use Rattle.homes.proofs.Domains.{created_domain}
use Rattle.store.specs.Entries.{EntryAt}
use Rattle.store.specs.Answers.{spot, SpotAt, SubsetSays}
use Rattle.store.specs.Sound.{Over, OverSome}
use Rattle.std.specs.Prelude.{Some}
use Rattle.std.specs.Prelude.{Option as Optional}
use Rattle.store.specs.declared.EntryPlace.{EntryPlace}
use Rattle.store.proofs.Walk.{FoundAt, found_at}
use Rattle.store.proofs.Sound.{one_length}
use Rattle.rules.specs.Subset.{code_without_int}
use Rattle.judge.specs.Says.{Asked14, asks, from, AnswerIs, Asked14Some, NumberFrom, NumberBefore, file_asks, ParentsSay, ParentsAnswer, InsideAnswer, FileSays, LoadSays, SubsetTold}
use Rattle.std.specs.Prelude.{Result, Ok, Err}
use Rattle.refusals.specs.declared.refusal.Refusal.{Refusal}
use Rattle.refusals.specs.declared.refusal.Refusal.TheVariants as refused
use Rattle.refusals.specs.Refusals.{number_of}
use Rattle.refusals.proofs.Numbers.{some_number}
use Rattle.judge.proofs.Answers.{number_no, number-yes, answer-yes, answer-refused, answer-accepted}
use Rattle.judge.proofs.Settings.{self_of}

module _ (s : Bytes) (end : ℕ) (d : Aid) (f : Bytes) (es : List Entry) where
  -- a number from 15 on is one from 10 on, where 10 to 14 were answered yes
  pub behind_14 : (p : Package) → Asked14 s end d f es p → q10_marked f ≡ true → (n : ℕ) → n ≡ first_no (from 15 (asks s es d f p)) → n ≡ first_no
      (file_asks s es d f)
  unfolding load_questions package_questions q11_reads
  behind_14 p a ten n h =
      let is = installed (store_limits s) es in
      let from_14 = number-yes 14 (q14_parents (store_limits s) is (self_of d p)) (from 15 (asks s es d f p)) n (is_true _ a.q14) h in
      let from_13 = number-yes 13 (q13_imports is p) (from 14 (asks s es d f p)) n (is_true _ a.q13) from_14 in
      let from_12 = number-yes 12 (q12_new is p) (from 13 (asks s es d f p)) n (is_true _ a.q12) from_13 in
      number-yes 10 (q10_marked f) (package_questions (store_opening s) (length s) es d f (read_file (store_limits s) f)) n ten (rw a.read.reads from_12)

  -- a number from 10 on is a load's, where 3 and 5 were answered yes
  pub behind_5 : q3_lengths (d ∷ []) ≡ true → q5_created es d ≡ true → (n : ℕ) → n ≡ first_no (file_asks s es d f) → n ≡ first_no
      (load_questions (store_opening s) (length s) es d f)
  unfolding load_questions
  behind_5 three five n h = number-yes 3 (q3_lengths (d ∷ [])) (from 5 (load_questions (store_opening s) (length s) es d f)) n three
      (number-yes 5 (q5_created es d) (file_asks s es d f) n five h)

module _ (s : Bytes) (end : ℕ) (d : Aid) (f : Bytes) where
  -- 3 and 5 answered no
  pub load_3 : aid_length (length d) ≡ false → LoadSays s end d f (Err refused.AidLength)
  unfolding load_questions
  load_3 h es o = answer-refused (load_questions (store_opening s) (length s) es d f) _ refused.AidLength
      (number_no 3 (q3_lengths (d ∷ [])) (from 5 (load_questions (store_opening s) (length s) es d f)) (one_length d ∙ h))

  module _ (three : aid_length (length d) ≡ true) where
    pub load_5 : ((es : List Entry) → Over s end es → false ≡ q5_created es d) → LoadSays s end d f (Err refused.DomainUnknown)
    unfolding load_questions
    load_5 c es o =
        answer-refused (load_questions (store_opening s) (length s) es d f) _ refused.DomainUnknown
        (number-yes 3 (q3_lengths (d ∷ [])) (from 5 (load_questions (store_opening s) (length s) es d f)) 5 (one_length d ∙ three)
        (number_no 5 (q5_created es d) (file_asks s es d f) (sym (c es o))))

    -- both answered yes
    pub load_file : ((es : List Entry) → Over s end es → true ≡ q5_created es d) → (r : Result ℕ Refusal) → FileSays s end d f r → LoadSays s end d f r
    unfolding load_questions
    load_file five r a es o =
        answer-yes 3 (q3_lengths (d ∷ [])) (from 5 (load_questions (store_opening s) (length s) es d f)) _ r (one_length d ∙ three)
        (answer-yes 5 (q5_created es d) (file_asks s es d f) _ r (sym (five es o)) (a es o))

  module _ (r : Result ℕ Refusal) (first : ParentsAnswer s end f r) where
    -- answered yes
    module _ (depth : ℕ) (e : r ≡ Ok depth) where
      pub asked_14 : (es : List Entry) × Over s end es → Asked14Some s end d f
      asked_14 o = let x = subst (ParentsSay s end d f o.0) e (first d o.0 o.1) in (o.0, x.0, x.1)

      module _ (n : ℕ) (number : NumberFrom 15 s end d f n) where
        -- the number of what follows is that of all from 10 on
        file_number_lem : (es : List Entry) → Over s end es → n ≡ first_no (file_asks s es d f)
        file_number_lem es o =
            let x = subst (ParentsSay s end d f es) e (first d es o) in
            behind_14 s end d f es x.0 x.1 x.2 n (number es x.0 x.1)

        file_refused : (g : Refusal) → n ≡ number_of g → FileSays s end d f (Err g)
        file_refused g z es o = answer-refused (file_asks s es d f) _ g (sym z ∙ file_number_lem es o)

        file_done : n ≡ 0 → FileSays s end d f (Ok depth)
        file_done z es o =
            let x = subst (ParentsSay s end d f es) e (first d es o) in
            let is : deepest_of (store_limits s) es d (read_file (store_limits s) f) ≡ depth = ap (deepest_of (store_limits s) es d) x.1.read.reads ∙ sym
            x.3 in
            subst (λ (m : ℕ). AnswerIs (file_asks s es d f) m (Ok depth)) (sym is) (answer-accepted (file_asks s es d f) depth (sym z ∙ file_number_lem es o))

-- 10 to 19, from the answer to 10 to 14
module _ (s : Bytes) (end : ℕ) (d : Aid) (f : Bytes) (r : Result ℕ Refusal) (first : ParentsAnswer s end f r) where
  pub inside_first : (g : Refusal) → r ≡ Err g → InsideAnswer s end d f (Err g)
  inside_first g e es o = subst (ParentsSay s end d f es) e (first d es o)

  module _ (depth : ℕ) (e : r ≡ Ok depth) (n : ℕ) (number : NumberBefore 15 20 s end d f n) where
    pub inside_refused : (g : Refusal) → n ≡ number_of g → InsideAnswer s end d f (Err g)
    inside_refused g z es o =
        sym z ∙ file_number_lem s end d f r first depth e n (number.0 (λ y. omega (arith, some_number g, z, y))) es o

    pub inside_yes : n ≡ 0 → InsideAnswer s end d f (Ok depth)
    inside_yes z = (subst (ParentsAnswer s end f) e first, number.1 z)

-- 10 to 21, from the answer to 10 to 19
module _ (s : Bytes) (end : ℕ) (d : Aid) (f : Bytes) (r : Result ℕ Refusal) (inside : InsideAnswer s end d f r) where
  -- answered no, as a number from 10 on
  pub inside_number : (g : Refusal) → r ≡ Err g → (es : List Entry) → Over s end es → number_of g ≡ first_no (file_asks s es d f)
  inside_number g e = subst (InsideAnswer s end d f) e inside

  pub file_inside : (g : Refusal) → r ≡ Err g → FileSays s end d f (Err g)
  file_inside g e es o = answer-refused (file_asks s es d f) _ g (inside_number g e es o)

  -- answered yes
  module _ (depth : ℕ) (e : r ≡ Ok depth) where
    both : InsideAnswer s end d f (Ok depth)
    both = subst (InsideAnswer s end d f) e inside

    pub asked_inside : (es : List Entry) × Over s end es → Asked14Some s end d f
    asked_inside = asked_14 s end d f (Ok depth) both.0 depth refl

    module _ (n : ℕ) (number : NumberFrom 20 s end d f n) where
      pub later_number : (es : List Entry) → Over s end es → n ≡ first_no (file_asks s es d f)
      later_number = file_number_lem s end d f (Ok depth) both.0 depth refl n (both.1 n number)

      pub later_refused : (g : Refusal) → n ≡ number_of g → FileSays s end d f (Err g)
      later_refused = file_refused s end d f (Ok depth) both.0 depth refl n (both.1 n number)

      pub later_done : n ≡ 0 → FileSays s end d f (Ok depth)
      later_done = file_done s end d f (Ok depth) both.0 depth refl n (both.1 n number)

-- 26 is asked where the domain is of kind 3
pub kind_asked : (s : Bytes) (end : ℕ) (d f : Bytes) (b : Bool) → SubsetSays s end d b → SubsetTold s end d f b
unfolding q26_subset
kind_asked s end d f b h es o p e = ap (λ (x : Bool). not x || all_codes code_without_int p) (h es o.stand)

-- the place of the loading domain's AID, by that of its entry
pub domain_place_lem : (s : Bytes) (end : ℕ) (a : Aid) (r : Optional EntryPlace) (p : EntryPlace) → SpotAt (is_domain a) s end r → r ≡ Some p → OverSome s end →
    aid_length (length a) ≡ true → Ends aid s (p.at + 2) × (a ≡ aid_at s (p.at + 2))
domain_place_lem s end a r p h e o l = go x.one x.stands (of_true x.found)
  where
    x : FoundAt (is_domain a) s (first_entry s) o.0 end p.at p.next
    x = found_at (is_domain a) s (first_entry s) o.0 end p.at p.next o.1.stand (sym (h o.0 o.1.stand) ∙ ap spot e)

    go : (y : Entry) → EntryAt s p.at y p.next → T (is_domain a y) → Ends aid s (p.at + 2) × (a ≡ aid_at s (p.at + 2))
    go (domain k b) t q =
        let same : a ≡ b = same_eq a b q in
        created_domain s p.at a p.next (subst (λ (z : Aid). EntryAt s p.at (domain k z) p.next) (sym same) t) (of_true (one_length a ∙ l))
    go (loaded d f) t q = absurd q
