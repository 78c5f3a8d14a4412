-- Questions 16, 17, 24 and 26 over all codes of a file. Assumes nothing.
--
-- code_test q m    == q of the method's code, if it is implemented
-- code_questions   == what one walk asks of a method: 16, 17, 24, and, as 18, whether its code has no calls, so that 18 and 19 are yes
-- quiet p         == no code of the file has calls
-- file_number p    == the number of the first no of 16, 17 and 24; 18 where there is none and a code has calls; else 0
-- HandlersAre f i r == r are the bytes of the handlers of the method at place i
-- MethodHere, ClassHere, FileHere == such a thing stands there, within limits whose code length the sets have bits for
-- MethodNumberIs, .. == the answer is that number of whatever stands there
-- MethodKeeps, ..    == the answer to question 26 of whatever stands there
use Rattle.std.specs.Prelude.{ℕ, ◌*◌, ◌≤◌, ◌≡◌, Bool, ◌||◌, not, List, [], ◌∷◌, length}
use Rattle.std.proofs.Math.Option.{some}
use Rattle.rules.specs.Bytes.{Bytes, Aid, all}
use Rattle.rules.specs.Code.{code_splits, code_branches, code_handlers}
use Rattle.rules.specs.Package.{Limits, format_of, Method, Class, Package, method, class, read_file}
use Rattle.rules.specs.Subset.{code_without_int}
use Rattle.rules.specs.Questions.{all_codes, q16_splits, q17_targets, q24_handlers}
use Rattle.rules.specs.Operations.{first_no}
use Rattle.places.specs.Reads.{Ends}
use Rattle.places.specs.Parts.{handlers_in}
use Rattle.files.specs.Say.{OfMethod, OfClass}
use Rattle.codes.specs.Marks.{no_calls}
use Rattle.refusals.specs.Order.{Asks, each, no_of}

-- a question of a method's code, where it has one
abbrev pub code_test : (Bytes → Bool) → Method → Bool
code_test q m = not m.implemented || q m.code

-- 24 of its code and handlers
abbrev pub handler_test : Method → Bool
handler_test m = code_test (λ c. code_handlers c m.handlers) m

-- a further question of codes is a row here
abbrev pub code_questions : Asks Method
code_questions = (16, code_test code_splits) ∷ (17, code_test code_branches) ∷ (24, handler_test) ∷ (18, λ m. no_calls m.code) ∷ []

-- the same of all methods of a class
abbrev pub class_questions : Asks Class
class_questions = each (λ k. k.methods) code_questions

unfoldable pub quiet : Package → Bool
quiet p = all (λ k. all (λ m. no_calls m.code) k.methods) p.classes

abbrev pub file_number : Package → ℕ
file_number p = first_no ((16, q16_splits p) ∷ (17, q17_targets p) ∷ (24, q24_handlers p) ∷ (18, quiet p) ∷ [])

-- the bytes of the handlers of whatever method stands at a place
abbrev pub HandlersAre : Bytes → ℕ → Bytes → Type 0
HandlersAre f i r = OfMethod f i λ l ds m. handlers_in r ≡ m.handlers

-- both sets have a bit for each byte of a code within limits
abbrev pub HasRoom : Limits → Bytes → Bytes → Type 0
HasRoom l starts targets = (l.code ≤ 8 * length starts) × (l.code ≤ 8 * length targets)

abbrev pub MethodHere : Bytes → Bytes → Bytes → ℕ → Type 0
MethodHere f starts targets i = (l : Limits) × (ds : List Aid) × Ends (method (format_of l f) ds) f i × HasRoom l starts targets

abbrev pub ClassHere : Bytes → Bytes → Bytes → ℕ → Type 0
ClassHere f starts targets i = (l : Limits) × (ds : List Aid) × Ends (class (format_of l f) ds) f i × HasRoom l starts targets

abbrev pub FileHere : Bytes → Bytes → Bytes → Type 0
FileHere f starts targets = (l : Limits) × (p : Package) × (read_file l f ≡ some p) × HasRoom l starts targets

abbrev pub MethodNumberIs : Bytes → ℕ → ℕ → Type 0
MethodNumberIs s i r = OfMethod s i λ l ds m. r ≡ no_of code_questions m

abbrev pub ClassNumberIs : Bytes → ℕ → ℕ → Type 0
ClassNumberIs s i r = OfClass s i λ l ds k j. r ≡ no_of class_questions k

abbrev pub FileNumberIs : Bytes → ℕ → Type 0
FileNumberIs f r = (l : Limits) (p : Package) → read_file l f ≡ some p → r ≡ file_number p

-- 26 of the code of a method, of all methods of a class, of all codes of a file
abbrev pub keeps : Method → Bool
keeps m = code_test code_without_int m

abbrev pub MethodKeeps : Bytes → ℕ → Bool → Type 0
MethodKeeps s i r = OfMethod s i λ l ds m. r ≡ keeps m

abbrev pub ClassKeeps : Bytes → ℕ → Bool → Type 0
ClassKeeps s i r = OfClass s i λ l ds k j. r ≡ all keeps k.methods

abbrev pub FileKeeps : Bytes → Bool → Type 0
FileKeeps f r = (l : Limits) (p : Package) → read_file l f ≡ some p → r ≡ all_codes code_without_int p
