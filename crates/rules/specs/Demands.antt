-- What demands 1 and 2 speak of: the numbers of each operation in the documents' order, and its questions. Assumes nothing.
-- refusals_of o                   == the numbers that the documents list for an operation, in their order; with_done ns == these and 0
-- fresh_refusals, query_refusals   == those of the two fresh calls, told by the opening that they write, and of a query
-- asked, asked_fresh, asked_query  == all questions of an operation, of fresh or of a query on a buffer, in order
use Rattle.std.specs.Prelude.{ℕ, ◌≡◌, Bool, false, List, [], ◌∷◌, ◌++◌, T, length}
use Rattle.std.proofs.Math.Option.{some}
use Rattle.rules.specs.Bytes.{Bytes, Aid, all, some_and}
use Rattle.rules.specs.Package.{Package, read_file}
use Rattle.rules.specs.Store.{Opening, version1, version2, store_opening, store_limits}
use Rattle.rules.specs.Classes.{installed, allows}
use Rattle.rules.specs.Questions.{q1_size, method_queried}
use Rattle.rules.specs.Operations.{Question, query_questions, sound, entries, Operation, create, delete, load, remove, questions, fresh_questions}

-- Create: 1 to 4, 21. Delete: 1 to 3, 5, 6. Load: 1 to 3, 5, 10 to 17, 24, 26, 18 to 21. Remove: 1 to 3, 7, 8
abbrev pub refusals_of : Operation → List ℕ
refusals_of (create k a) = 1 ∷ 2 ∷ 3 ∷ 4 ∷ 21 ∷ []
refusals_of (delete a) = 1 ∷ 2 ∷ 3 ∷ 5 ∷ 6 ∷ []
refusals_of (load d f) = 1 ∷ 2 ∷ 3 ∷ 5 ∷ 10 ∷ 11 ∷ 12 ∷ 13 ∷ 14 ∷ 15 ∷ 16 ∷ 17 ∷ 24 ∷ 26 ∷ 18 ∷ 19 ∷ 20 ∷ 21 ∷ []
refusals_of (remove a) = 1 ∷ 2 ∷ 3 ∷ 7 ∷ 8 ∷ []

-- Fresh: 1; with limits 1, 30. Query: 1 to 3, 7, 9
abbrev pub fresh_refusals : Opening → List ℕ
fresh_refusals version1 = 1 ∷ []
fresh_refusals (version2 l) = 1 ∷ 30 ∷ []

abbrev pub query_refusals : List ℕ
query_refusals = 1 ∷ 2 ∷ 3 ∷ 7 ∷ 9 ∷ []

-- done is 0
abbrev pub with_done : List ℕ → List ℕ
with_done ns = 0 ∷ ns

-- all questions, in order
abbrev pub asked_by : Bytes → List Question → List Question
asked_by s qs = (1, q1_size s) ∷ (2, sound s) ∷ qs

abbrev pub asked : Bytes → Operation → List Question
asked s o = asked_by s (questions (store_opening s) (length s) (entries s) o)

abbrev pub asked_fresh : Bytes → Opening → List Question
asked_fresh s v = fresh_questions s v

abbrev pub asked_query : Bytes → Aid → Aid → ℕ → ℕ → List Question
asked_query s d a c n = asked_by s (query_questions (store_limits s) (entries s) d a c n)

-- their numbers
abbrev pub numbers_in : List Question → List ℕ
numbers_in [] = []
numbers_in (q ∷ qs) = q.0 ∷ numbers_in qs

-- the operation is no load, or its file reads in that store
abbrev pub HasFile : Bytes → Operation → Type 0
HasFile s (create k a) = Unit {0}
HasFile s (delete a) = Unit {0}
HasFile s (load d f) = (p : Package) × (read_file (store_limits s) f ≡ some p)
HasFile s (remove a) = Unit {0}

-- all are answered yes
abbrev pub all_yes : List Question → Bool
all_yes qs = all (λ q. q.1) qs

-- the first no: the questions before it are answered yes, its own answer is no
pub record FirstNo (k : ℕ) (qs : List Question) : Type 0 where
  pub before : List Question
  pub behind : List Question
  pub are : qs ≡ before ++ (k, false) ∷ behind
  pub yes : T (all_yes before)

-- the method that the store has for the query allows the domain
abbrev pub stored_allows : Bytes → Aid → Aid → ℕ → ℕ → Bool
stored_allows s d a c n = some_and (method_queried (installed (store_limits s) (entries s)) a c n) λ m. allows m d
