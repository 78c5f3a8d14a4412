-- The first of two answers: its laws, and what it makes of the answers of a list's elements. Assumes nothing.
use Prim.Native.Nat.{ℕ, suc, ◌≤◌, ◌<◌}
use native.Mathlib.Omega.{arith}
use native.Mathlib.Decide.{dec_le}
use mathlib.Core.Path.{◌≡◌, refl, sym, ap, ◌∙◌}
use mathlib.Core.Bool.{Bool, true, false, ◌&&◌}
use mathlib.Core.List.{List, [], ◌∷◌}
use mathlib.Core.Option.{some}
use lib.Dec.{T, eqb, ltb}
use lib.ListN.{length}
use borrow.Author.Tests.{ne_eqb, lt-ltb, le-ltb, ltb-true}
use Rattle.rules.specs.Bytes.{Bytes, Aid, pick, all}
use Rattle.rules.specs.Package.{Package}
use Rattle.rules.specs.Store.{Opening, Entry}
use Rattle.rules.specs.Operations.{Question, package_questions}
use Rattle.rules.proofs.Tests.{and_l, is_true}
use Rattle.refusals.specs.Order.{asked, rank_in, rank, first_of, Asks, no_of, no_of_all, numbers, rising}

rank_in_most : (ms : List ℕ) (n : ℕ) → rank_in ms n ≤ length ms
rank_in_most [] n = omega arith
rank_in_most (m ∷ ms) n = go (eqb n m) (rank_in_most ms n)
  where
    go : (b : Bool) → rank_in ms n ≤ length ms → pick b 0 (suc (rank_in ms n)) ≤ suc (length ms)
    go true h = omega arith
    go false h = omega arith

-- the rows, one after the other
module _ (n : ℕ) where
  pub rank_16 : n ≡ 16 → rank n ≡ 0
  unfolding rank
  rank_16 e = rw e refl

  pub rank_17 : n ≡ 17 → rank n ≡ 1
  unfolding rank
  rank_17 e = rw e refl

  pub rank_24 : n ≡ 24 → rank n ≡ 2
  unfolding rank
  rank_24 e = rw e refl

  pub rank_18 : n ≡ 18 → rank n ≡ 3
  unfolding rank
  rank_18 e = rw e refl

  pub rank_19 : n ≡ 19 → rank n ≡ 4
  unfolding rank
  rank_19 e = rw e refl

  pub rank_else : (n ≡ 16 → ⊥) → (n ≡ 17 → ⊥) → (n ≡ 24 → ⊥) → (n ≡ 18 → ⊥) → (n ≡ 19 → ⊥) → rank n ≡ 5
  unfolding rank
  rank_else a b d e f = rw (ne_eqb n 16 a, ne_eqb n 17 b, ne_eqb n 24 d, ne_eqb n 18 e, ne_eqb n 19 f)

-- no refusal stands last
pub rank_most : (n : ℕ) → rank n ≤ rank 0
unfolding rank
rank_most n = rank_in_most asked n

-- the two cases
pub first_right : (a b : ℕ) → rank b < rank a → first_of a b ≡ b
unfolding first_of
first_right a b h = rw (lt-ltb (rank b) (rank a) h)

pub first_left : (a b : ℕ) → rank a ≤ rank b → first_of a b ≡ a
unfolding first_of
first_left a b h = rw (le-ltb (rank b) (rank a) h)

pub first_zero : (a : ℕ) → first_of a 0 ≡ a
first_zero a = first_left a 0 (rank_most a)

pub first_assoc : (a b c : ℕ) → first_of a (first_of b c) ≡ first_of (first_of a b) c
first_assoc a b c = elim (dec_le (rank a) (rank b)) [
  | yes h ↦ elim (dec_le (rank b) (rank c)) [
    | yes k ↦ ap (first_of a) (first_left b c k) ∙ first_left a b h ∙ sym (ap (λ (x : ℕ). first_of x c) (first_left a b h) ∙ first_left a c (omega arith))
    | no k ↦ ap (first_of a) (first_right b c (omega arith)) ∙ sym (ap (λ (x : ℕ). first_of x c) (first_left a b h))
  ]
  | no h ↦ elim (dec_le (rank b) (rank c)) [
    | yes k ↦ ap (first_of a) (first_left b c k) ∙ first_right a b (omega arith)
        ∙ sym (ap (λ (x : ℕ). first_of x c) (first_right a b (omega arith)) ∙ first_left b c k)
    | no k ↦ ap (first_of a) (first_right b c (omega arith)) ∙ first_right a c (omega arith)
        ∙ sym (ap (λ (x : ℕ). first_of x c) (first_right a b (omega arith)) ∙ first_right b c (omega arith))
  ]
]

-- n stands before 0 and all of these numbers
abbrev before : ℕ → List ℕ → Bool
before n ns = ltb (rank n) (rank 0) && all (λ m. ltb (rank n) (rank m)) ns

before_more : (n m : ℕ) (ns : List ℕ) → T (before n (m ∷ ns)) → (rank n < rank m) × T (before n ns)
before_more n m ns h = go (ltb (rank n) (rank 0)) (ltb (rank n) (rank m)) refl h
  where
    go : (z b : Bool) → ltb (rank n) (rank m) ≡ b → T (z && (b && all (λ m. ltb (rank n) (rank m)) ns)) → (rank n < rank m) × T
        (z && all (λ m. ltb (rank n) (rank m)) ns)
    go true true e h = (ltb-true (rank n) (rank m) e, h)
    go true false e h = absurd h
    go false b e h = absurd h

before_zero : (n : ℕ) (ns : List ℕ) → T (before n ns) → rank n < rank 0
before_zero n ns h = ltb-true (rank n) (rank 0) (is_true (ltb (rank n) (rank 0)) (and_l (ltb (rank n) (rank 0)) (all (λ m. ltb (rank n) (rank m)) ns) h))

rising_more : (n : ℕ) (ns : List ℕ) → T (rising (n ∷ ns)) → T (before n ns) × T (rising ns)
unfolding rising
rising_more n ns h = go (ltb (rank n) (rank 0)) (all (λ m. ltb (rank n) (rank m)) ns) h
  where
    go : (a b : Bool) → T (a && (b && rising ns)) → T (a && b) × T (rising ns)
    go true true h = (tt, h)
    go true false h = absurd h
    go false b h = absurd h

module _ {A : Type 0} where
  -- a number before all others stands before the first no of these
  before_one : (n : ℕ) (qs : Asks A) (x : A) → T (before n (numbers qs)) → rank n < rank (no_of qs x)
  before_one n [] x h = before_zero n [] h
  before_one n (q ∷ qs) x h =
      let m = before_more n q.0 (numbers qs) h in
      go (q.1 x) m.0 (before_one n qs x m.1)
    where
      go : (b : Bool) → rank n < rank q.0 → rank n < rank (no_of qs x) → rank n < rank (pick b (no_of qs x) q.0)
      go true k l = l
      go false k l = k

  before_all : (n : ℕ) (qs : Asks A) (xs : List A) → T (before n (numbers qs)) → rank n < rank (no_of_all qs xs)
  before_all n [] xs h = before_zero n [] h
  before_all n (q ∷ qs) xs h =
      let m = before_more n q.0 (numbers qs) h in
      go (all q.1 xs) m.0 (before_all n qs xs m.1)
    where
      go : (b : Bool) → rank n < rank q.0 → rank n < rank (no_of_all qs xs) → rank n < rank (pick b (no_of_all qs xs) q.0)
      go true k l = l
      go false k l = k

  -- the first question that some element answers with no is the first of an element's and of the others'
  pub first_more : (qs : Asks A) → T (rising (numbers qs)) → (x : A) (xs : List A) → no_of_all qs (x ∷ xs) ≡ first_of (no_of qs x) (no_of_all qs xs)
  first_more [] h x xs = sym (first_zero 0)
  first_more (q ∷ qs) h x xs =
      let m = rising_more q.0 (numbers qs) h in
      go (q.1 x) (all q.1 xs) (before_one q.0 qs x m.0) (before_all q.0 qs xs m.0) (first_more qs m.1 x xs)
    where
      go : (a b : Bool) → rank q.0 < rank (no_of qs x) → rank q.0 < rank (no_of_all qs xs) → no_of_all qs (x ∷ xs) ≡ first_of (no_of qs x) (no_of_all qs xs) →
          pick (a && b) (no_of_all qs (x ∷ xs)) q.0 ≡ first_of (pick a (no_of qs x) q.0) (pick b (no_of_all qs xs) q.0)
      go true true k l e = e
      go true false k l e = sym (first_right (no_of qs x) q.0 k)
      go false true k l e = sym (first_left q.0 (no_of_all qs xs) (omega arith))
      go false false k l e = sym (first_left q.0 q.0 (omega arith))

  -- after no answer yet
  pub first_start : (qs : Asks A) → T (rising (numbers qs)) → (xs : List A) → first_of 0 (no_of_all qs xs) ≡ no_of_all qs xs
  first_start [] h xs = first_zero 0
  first_start (q ∷ qs) h xs =
      let m = rising_more q.0 (numbers qs) h in
      go (all q.1 xs) (before_zero q.0 (numbers qs) m.0) (first_start qs m.1 xs)
    where
      go : (b : Bool) → rank q.0 < rank 0 → first_of 0 (no_of_all qs xs) ≡ no_of_all qs xs → first_of 0 (pick b (no_of_all qs xs) q.0) ≡ pick b
          (no_of_all qs xs) q.0
      go true k e = e
      go false k e = first_right 0 q.0 k

  pub none_asked : (qs : Asks A) → no_of_all qs [] ≡ 0
  none_asked [] = refl
  none_asked (q ∷ qs) = none_asked qs

-- the numbers of the first list stand in the second in the same order
abbrev within : List ℕ → List Question → Bool
within [] qs = true
within (n ∷ ns) [] = false
within (n ∷ ns) (q ∷ qs) = pick (eqb n q.0) (within ns qs) (within (n ∷ ns) qs)

-- the order is that of a load's list
pub asked_by_load : (v : Opening) (n : ℕ) (es : List Entry) (d : Aid) (f : Bytes) (p : Package) → T (within asked (package_questions v n es d f (some p)))
unfolding package_questions
asked_by_load v n es d f p = tt
