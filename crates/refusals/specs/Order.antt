-- The order of refusals, where one walk answers several questions of a load. Assumes nothing.
--
-- asked           == the questions that walks over the methods answer, in the order in which a load asks them
-- rank n          == how many of these stand before n; of a number that is none of them, 0 too, as many as there are
-- first_of a b     == of two answers the one that stands first; 0 is no refusal
-- Asks A          == questions of an A, each with its number
-- no_of qs x       == the number of the first of them that x answers with no, 0 where there is none
-- no_of_all qs xs   == the number of the first of them that some element answers with no
-- each f qs       == the questions of everything in f of an A
-- rising ns       == these numbers stand in the list in this order
-- code_told r      == the number of what a walk over codes answers: 18 where every answer is yes and there is a call, else 0
-- call_told r      == the number of what a walk over calls answers, 0 where every answer is yes
-- Before n r       == if r is a refusal, it stands before n in the list
-- first_said a b    == of two answers the one that a load gives first; of two that are yes the greater
use Rattle.std.specs.Prelude.{ℕ, suc, ◌<◌, Bool, true, false, ◌&&◌, List, [], ◌∷◌, eqb, ltb, Result, Ok, Err}
use Rattle.std.specs.declared.cmp.Ordering.{Ordering}
use Rattle.std.specs.Ordering.{ord_max, ord_min}
use Rattle.rules.specs.Bytes.{pick, all}
use Rattle.rules.specs.Operations.{Question, first_no}
use Rattle.refusals.specs.declared.refusal.Refusal.{Refusal}
use Rattle.refusals.specs.Refusals.{number_of}
use Rattle.refusals.specs.contracts.refusal.RefusalOrd.TheImpl as order

-- a further question is a row here, at its place in a load's list, and a variant of `Refusal` at the same place
abbrev pub asked : List ℕ
asked = 16 ∷ 17 ∷ 24 ∷ 18 ∷ 19 ∷ []

-- how many numbers of a list stand before n
abbrev pub rank_in : List ℕ → ℕ → ℕ
rank_in [] n = 0
rank_in (m ∷ ms) n = pick (eqb n m) 0 (suc (rank_in ms n))

unfoldable pub rank : ℕ → ℕ
rank n = rank_in asked n

unfoldable pub first_of : ℕ → ℕ → ℕ
first_of a b = pick (ltb (rank b) (rank a)) b a

abbrev pub Asks : Type 0 → Type 0
Asks A = List (ℕ × (A → Bool))

-- the answers of one element
abbrev pub answers : {A : Type 0} → Asks A → A → List Question
answers [] x = []
answers (q ∷ qs) x = (q.0, q.1 x) ∷ answers qs x

-- each question of every element
abbrev pub answers_all : {A : Type 0} → Asks A → List A → List Question
answers_all [] xs = []
answers_all (q ∷ qs) xs = (q.0, all q.1 xs) ∷ answers_all qs xs

abbrev pub no_of : {A : Type 0} → Asks A → A → ℕ
no_of qs x = first_no (answers qs x)

abbrev pub no_of_all : {A : Type 0} → Asks A → List A → ℕ
no_of_all qs xs = first_no (answers_all qs xs)

abbrev pub each : {A B : Type 0} → (A → List B) → Asks B → Asks A
each f [] = []
each f (q ∷ qs) = (q.0, λ a. all q.1 (f a)) ∷ each f qs

-- the numbers of questions
abbrev pub numbers : {A : Type 0} → Asks A → List ℕ
numbers [] = []
numbers (q ∷ qs) = q.0 ∷ numbers qs

unfoldable pub rising : List ℕ → Bool
rising [] = true
rising (n ∷ ns) = ltb (rank n) (rank 0) && (all (λ m. ltb (rank n) (rank m)) ns && rising ns)

abbrev pub code_told : Result Bool Refusal → ℕ
code_told (Ok true) = 18
code_told (Ok false) = 0
code_told (Err e) = number_of e

abbrev pub call_told : Result Unit Refusal → ℕ
call_told (Ok u) = 0
call_told (Err e) = number_of e

abbrev pub Before : {A : Type 0} → ℕ → Result A Refusal → Type 0
Before n (Ok x) = Unit
Before n (Err e) = rank (number_of e) < rank n

-- refusals by the derived order
abbrev pub first_said : {A : Type 0} → (A → A → Ordering) → Result A Refusal → Result A Refusal → Result A Refusal
first_said cmp (Ok x) (Ok y) = Ok (ord_max cmp x y)
first_said cmp (Ok x) (Err f) = Err f
first_said cmp (Err e) (Ok y) = Err e
first_said cmp (Err e) (Err f) = Err (ord_min order.cmp-value.it e f)
