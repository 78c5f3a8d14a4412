-- The numbers of the operations and what they say: the proofs of demands 1 and 2. Assumes nothing.
use Prim.Native.Nat.{ℕ, zero, suc}
use mathlib.Core.Path.{◌≡◌, refl}
use mathlib.Core.Bool.{false}
use mathlib.Core.List.{[], ◌∷◌}
use mathlib.Core.Option.{Option, none, some}
use lib.Dec.{T, eqb}
use lib.ListN.{length}
use Rattle.rules.specs.Bytes.{Bytes, Aid, any}
use Rattle.rules.specs.Package.{Package, read_file}
use Rattle.rules.specs.Store.{Opening, version1, version2, store_opening, store_limits}
use Rattle.rules.specs.Operations.{create_questions, delete_questions, package_questions, load_questions, remove_questions, query_questions, entries, Operation, create, delete, load, remove, number, if_done, after, fresh_number, fresh_bytes, query_number, query_yes}
use Rattle.rules.specs.Demands.{refusals_of, fresh_refusals, query_refusals, with_done, asked, asked_fresh, asked_query, numbers_in, HasFile, all_yes, FirstNo, stored_allows}
use Rattle.rules.proofs.Answers.{numberedBy, positive, first-listed, zero-yes, yes-zero, first-no}
use Rattle.rules.proofs.Results.{if_refused}

-- an operation's questions have its numbers, none of which is 0
asked_numbers : (s : Bytes) (o : Operation) → T (numberedBy (refusals_of o) (asked s o))
unfolding create_questions delete_questions package_questions load_questions remove_questions
asked_numbers s (create k a) = tt
asked_numbers s (delete a) = tt
asked_numbers s (load d f) = of_file (read_file (store_limits s) f)
  where
    of_file : (o : Option Package) → T (numberedBy (refusals_of (load d f)) (package_questions (store_opening s) (length s) (entries s) d f o))
    of_file none = tt
    of_file (some p) = tt
asked_numbers s (remove a) = tt

refusals_positive : (o : Operation) → T (positive (refusals_of o))
refusals_positive (create k a) = tt
refusals_positive (delete a) = tt
refusals_positive (load d f) = tt
refusals_positive (remove a) = tt

query_numbers : (s : Bytes) (d a : Aid) (c n : ℕ) → T (numberedBy query_refusals (asked_query s d a c n))
unfolding query_questions
query_numbers s d a c n = tt

-- demand 1: the numbers
pub number_listed : (s : Bytes) (o : Operation) → T (any (eqb (number s o)) (with_done (refusals_of o)))
unfolding number
number_listed s o = first-listed (refusals_of o) (asked s o) (asked_numbers s o)

fresh_numbers : (s : Bytes) (v : Opening) → T (numberedBy (fresh_refusals v) (asked_fresh s v))
fresh_numbers s version1 = tt
fresh_numbers s (version2 l) = tt

fresh_positive : (v : Opening) → T (positive (fresh_refusals v))
fresh_positive version1 = tt
fresh_positive (version2 l) = tt

pub fresh_order : (s : Bytes) (v : Opening) → numbers_in (asked_fresh s v) ≡ fresh_refusals v
fresh_order s version1 = refl
fresh_order s (version2 l) = refl

pub fresh_listed : (s : Bytes) (v : Opening) → T (any (eqb (fresh_number s v)) (with_done (fresh_refusals v)))
unfolding fresh_number
fresh_listed s v = first-listed (fresh_refusals v) (asked_fresh s v) (fresh_numbers s v)

pub query_listed : (s : Bytes) (d a : Aid) (c n : ℕ) → T (any (eqb (query_number s d a c n)) (with_done query_refusals))
unfolding query_number
query_listed s d a c n = first-listed query_refusals (asked_query s d a c n) (query_numbers s d a c n)

-- demand 1: a refusal leaves every byte
pub refused_leaves : (s : Bytes) (o : Operation) → (number s o ≡ 0 → ⊥) → after s o ≡ s
unfolding after
refused_leaves s o h = if_refused (number s o) _ s h

pub fresh_leaves : (s : Bytes) (v : Opening) → (fresh_number s v ≡ 0 → ⊥) → fresh_bytes s v ≡ s
unfolding fresh_bytes
fresh_leaves s v h = if_refused (fresh_number s v) _ s h

-- demand 2: fresh
module _ (s : Bytes) (v : Opening) where
  pub fresh_done_yes : fresh_number s v ≡ 0 → T (all_yes (asked_fresh s v))
  unfolding fresh_number
  fresh_done_yes e = zero-yes (fresh_refusals v) (asked_fresh s v) (fresh_positive v) (fresh_numbers s v) e

  pub fresh_yes_done : T (all_yes (asked_fresh s v)) → fresh_number s v ≡ 0
  unfolding fresh_number
  fresh_yes_done h = yes-zero (asked_fresh s v) h

  pub fresh_refused_first : (fresh_number s v ≡ 0 → ⊥) → FirstNo (fresh_number s v) (asked_fresh s v)
  unfolding fresh_number
  fresh_refused_first h = first-no (asked_fresh s v) h

-- demand 2: the order of the questions
pub asked_order : (s : Bytes) (o : Operation) → HasFile s o → numbers_in (asked s o) ≡ refusals_of o
unfolding create_questions delete_questions package_questions load_questions remove_questions
asked_order s (create k a) h = refl
asked_order s (delete a) h = refl
asked_order s (load d f) h = rw h.1
asked_order s (remove a) h = refl

pub query_order : (s : Bytes) (d a : Aid) (c n : ℕ) → numbers_in (asked_query s d a c n) ≡ query_refusals
unfolding query_questions
query_order s d a c n = refl

-- of a file that does not read, up to 11
pub unread_order : (s : Bytes) (d : Aid) (f : Bytes) → read_file (store_limits s) f ≡ none → numbers_in (asked s (load d f)) ≡ 1 ∷ 2 ∷ 3 ∷ 5 ∷ 10 ∷ 11 ∷ []
unfolding load_questions package_questions
unread_order s d f e = rw e

-- demand 2: 0 exactly where all questions are answered yes, else the first no
module _ (s : Bytes) (o : Operation) where
  pub done_yes : number s o ≡ 0 → T (all_yes (asked s o))
  unfolding number
  done_yes e = zero-yes (refusals_of o) (asked s o) (refusals_positive o) (asked_numbers s o) e

  pub yes_done : T (all_yes (asked s o)) → number s o ≡ 0
  unfolding number
  yes_done h = yes-zero (asked s o) h

  pub refused_first : (number s o ≡ 0 → ⊥) → FirstNo (number s o) (asked s o)
  unfolding number
  refused_first h = first-no (asked s o) h

module _ (s : Bytes) (d a : Aid) (c n : ℕ) where
  pub query_done_yes : query_number s d a c n ≡ 0 → T (all_yes (asked_query s d a c n))
  unfolding query_number
  query_done_yes e = zero-yes query_refusals (asked_query s d a c n) tt (query_numbers s d a c n) e

  pub query_yes_done : T (all_yes (asked_query s d a c n)) → query_number s d a c n ≡ 0
  unfolding query_number
  query_yes_done h = yes-zero (asked_query s d a c n) h

  pub query_refused_first : (query_number s d a c n ≡ 0 → ⊥) → FirstNo (query_number s d a c n) (asked_query s d a c n)
  unfolding query_number
  query_refused_first h = first-no (asked_query s d a c n) h

  -- demand 2: the query says yes exactly where its number is 0 and the stored method allows the domain
  pub yes_allows : T (query_yes s d a c n) → (query_number s d a c n ≡ 0) × T (stored_allows s d a c n)
  unfolding query_yes
  yes_allows h = go (query_number s d a c n) refl h
    where
      go : (k : ℕ) → query_number s d a c n ≡ k → T (if_done k (stored_allows s d a c n) false) → (query_number s d a c n ≡ 0) × T (stored_allows s d a c n)
      go zero e t = (e, t)
      go (suc k) e t = absurd t

  pub allows_yes : (query_number s d a c n ≡ 0) × T (stored_allows s d a c n) → T (query_yes s d a c n)
  unfolding query_yes
  allows_yes h = rw h.0 h.1
