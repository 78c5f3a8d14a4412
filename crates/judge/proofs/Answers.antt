-- Answers to lists of questions: a no, a yes with what follows, and lists one behind the other. Assumes nothing.
use Prim.Native.Nat.{ℕ, ◌<◌}
use native.Mathlib.Omega.{arith}
use mathlib.Core.Path.{◌≡◌, refl, sym, ◌∙◌, ap, subst}
use mathlib.Core.Bool.{Bool, true, false}
use mathlib.Core.List.{List, [], ◌∷◌, ◌++◌}
use lib.Dec.{T, ltb, eqb, ltb→lt}
use borrow.Author.Tests.{ne_eqb}
use Rattle.rules.specs.Bytes.{pick, all}
use Rattle.rules.specs.Operations.{Question, first_no}
use Rattle.rules.proofs.Tests.{and_l, and_r}
use Rattle.judge.specs.Says.{AnswerIs}
use Rattle.std.specs.Prelude.{Result, Ok, Err, IsErr, IsErrAnd}
use Rattle.refusals.specs.declared.refusal.Refusal.{Refusal}
use Rattle.refusals.specs.Refusals.{number_of}
use Rattle.refusals.proofs.Numbers.{some_number}

-- the number of the first no
pub number_no : (n : ℕ) (b : Bool) (qs : List Question) → b ≡ false → n ≡ first_no ((n, b) ∷ qs)
number_no n b qs e = rw e

pub number-yes : (n : ℕ) (b : Bool) (qs : List Question) (r : ℕ) → b ≡ true → r ≡ first_no qs → r ≡ first_no ((n, b) ∷ qs)
number-yes n b qs r e h = rw e h

-- each question has a number above 0
abbrev pub positive : List Question → Bool
positive qs = all (λ q. ltb 0 q.0) qs

-- two lists, the one behind the other
pub joined : (xs ys : List Question) → T (positive xs) → first_no (xs ++ ys) ≡ pick (eqb (first_no xs) 0) (first_no ys) (first_no xs)
joined [] ys h = refl
joined (x ∷ xs) ys h = go x.1 (joined xs ys (and_r (ltb 0 x.0) (positive xs) h))
  where
    go : (b : Bool) → first_no (xs ++ ys) ≡ pick (eqb (first_no xs) 0) (first_no ys) (first_no xs) →
        pick b (first_no (xs ++ ys)) x.0 ≡ pick (eqb (pick b (first_no xs) x.0) 0) (first_no ys) (pick b (first_no xs) x.0)
    go true rest = rest
    go false rest =
        let k : 0 < x.0 = ltb→lt 0 x.0 (and_l (ltb 0 x.0) (positive xs) h) in
        sym (ap (λ (b : Bool). pick b (first_no ys) x.0) (ne_eqb x.0 0 (λ e. omega (arith, k, e))))

-- a no of the first list
pub joined-no : (xs ys : List Question) (r : ℕ) → T (positive xs) → r ≡ first_no xs → (r ≡ 0 → ⊥) → r ≡ first_no (xs ++ ys)
joined-no xs ys r h e z = e ∙ sym (joined xs ys h ∙ ap (λ (b : Bool). pick b (first_no ys) (first_no xs)) (ne_eqb (first_no xs) 0 (λ q. z (e ∙ q))))

-- all of the first list answered yes
pub joined-yes : (xs ys : List Question) (r : ℕ) → T (positive xs) → 0 ≡ first_no xs → r ≡ first_no ys → r ≡ first_no (xs ++ ys)
joined-yes xs ys r h e q = q ∙ sym (joined xs ys h ∙ ap (λ (n : ℕ). pick (eqb n 0) (first_no ys) n) (sym e))

-- the same as answers of a load
pub answer-refused : (qs : List Question) (depth : ℕ) (e : Refusal) → number_of e ≡ first_no qs → AnswerIs qs depth (Err e)
answer-refused qs depth e h = record { number = h; figure = λ y. absurd (omega (arith, some_number e, h, y)) }

pub answer-accepted : (qs : List Question) (depth : ℕ) → 0 ≡ first_no qs → AnswerIs qs depth (Ok depth)
answer-accepted qs depth e = record { number = e; figure = λ y. refl }

pub answer-yes : (n : ℕ) (b : Bool) (qs : List Question) (depth : ℕ) (r : Result ℕ Refusal) → b ≡ true → AnswerIs qs depth r → AnswerIs ((n, b) ∷ qs) depth r
answer-yes n b qs depth r e a =
    let z : first_no ((n, b) ∷ qs) ≡ first_no qs = rw e in
    record { number = a.number ∙ sym z; figure = λ y. a.figure (sym z ∙ y) }

-- a refusal that is handed on
pub err_again : {A : Type 0} (r : Result A Refusal) (e : Refusal) → IsErr r × IsErrAnd r (λ x. x ≡ e) → r ≡ Err e
err_again (Ok x) e h = absurd (subst T (sym h.0) tt)
err_again (Err x) e h = ap (λ y. Err y) h.1
