-- Questions 18 and 19, of a call, of a method, of a class and of a file. Assumes nothing.
--
-- Asking f s end d    == a setting in which they are asked of the file f, loaded in the domain d
-- Which                == which calls are asked, and of which of these what they name is known; the others answer 18 with no
-- asking p             == p are asked, of all is it known; every_call == all are asked, with_group g == those of a group of references
-- with_table g t        == those of a group, known where the table t tells it
-- call_names a c, call_allows a m c == their answers for the call c in the method m; call_names_in a w, call_allows_in a w m == where it is asked, and known
-- method_names a w, class_names, .. == for all calls there
-- OwnMethod, OwnClass == in the file being judged a method or class whose codes split stands at a place
-- CodesSplit f        == question 16 of the file was answered yes
-- call_asks, ..        == the two questions with their numbers
-- calls_number s es self == the number of the first no of a file, 0 where there is none
-- CallNumberIs, MethodCallsAre, ClassCallsAre, FileCallsAre, CallsNumberIs == the answer is the number of the first no of whatever stands there
use Rattle.std.specs.Prelude.{ℕ, ◌≡◌, Bool, true, ◌&&◌, ◌||◌, not, List, [], ◌∷◌, T}
use Rattle.std.proofs.Math.Option.{some}
use Rattle.rules.specs.Bytes.{Bytes, Aid, Reader, all}
use Rattle.rules.specs.Code.{Call, code_splits, calls_of}
use Rattle.rules.specs.Package.{Limits, Method, Class, Package, method, class, read_file}
use Rattle.rules.specs.Store.{Entry, store_limits}
use Rattle.rules.specs.Classes.{Installed, installed}
use Rattle.rules.specs.Questions.{q16_splits, q18_calls, q19_allowed, own_method, call_names_method, call_allowed}
use Rattle.rules.specs.Operations.{first_no}
use Rattle.places.specs.Reads.{Reads}
use Rattle.codes.specs.Calls.{kind_of}
use Rattle.codes.specs.declared.Calling.{Calling}
use Rattle.homes.specs.Homes.{format_at}
use Rattle.refusals.specs.Order.{Asks, no_of, no_of_all}
use Rattle.references.specs.Setting.{Loading, OfJudged}
use Rattle.references.specs.Kept.{in_group, told_in, is_told}
use Rattle.references.specs.declared.Group.{Group}
use Rattle.calls.specs.Codes.{code_test, class_test}

-- a setting in which the file f is asked, loaded in d
pub record Asking (f s : Bytes) (end : ℕ) (d : Aid) : Type 0 where
  pub es : List Entry
  pub self : Installed
  pub loading : Loading f s end es self
  pub loads : self.domain ≡ d

-- a reader's value at a place, in the setting's own file
abbrev pub MethodOf : {f s : Bytes} {end : ℕ} {d : Aid} → Asking f s end d → ℕ → Method → ℕ → Type 0
MethodOf {f} {s} a i m j = Reads (method (format_at s f) a.self.pack.domains) f i m j

abbrev pub ClassOf : {f s : Bytes} {end : ℕ} {d : Aid} → Asking f s end d → ℕ → Class → ℕ → Type 0
ClassOf {f} {s} a i k j = Reads (class (format_at s f) a.self.pack.domains) f i k j

-- which calls are asked, and of which of these it is known what they name
pub record Which : Type 0 where
  pub asked : Call → Bool
  pub known : Call → Bool

abbrev pub asking : (Call → Bool) → Which
asking p = record { asked = p; known = λ c. true }

abbrev pub every_call : Which
every_call = asking (λ c. true)

abbrev pub with_group : Group → Which
with_group g = asking (λ c. in_group g c.index)

abbrev pub with_table : Group → List ℕ → Which
with_table g t = record { asked = λ c. in_group g c.index; known = λ c. is_told (told_in t g c.index) }

-- the answers of 18
abbrev pub call_names : {f s : Bytes} {end : ℕ} {d : Aid} → Asking f s end d → Call → Bool
call_names {f} {s} a c = call_names_method (store_limits s) (installed (store_limits s) a.es) a.self c

abbrev pub call_names_in : {f s : Bytes} {end : ℕ} {d : Aid} → Asking f s end d → Which → Call → Bool
call_names_in a w c = not (w.asked c) || (w.known c && call_names a c)

abbrev pub method_names : {f s : Bytes} {end : ℕ} {d : Aid} → Asking f s end d → Which → Method → Bool
method_names a w m = all (call_names_in a w) (calls_of m.code)

abbrev pub class_names : {f s : Bytes} {end : ℕ} {d : Aid} → Asking f s end d → Which → Class → Bool
class_names a w k = all (method_names a w) k.methods

-- the answers of 19; none goes by the number of the caller's class
abbrev pub call_allows : {f s : Bytes} {end : ℕ} {d : Aid} → Asking f s end d → Method → Call → Bool
call_allows {f} {s} a m c = call_allowed (store_limits s) (installed (store_limits s) a.es) a.self (own_method a.self 0 m) c

abbrev pub call_allows_in : {f s : Bytes} {end : ℕ} {d : Aid} → Asking f s end d → Which → Method → Call → Bool
call_allows_in a w m c = not (w.known c && w.asked c) || call_allows a m c

abbrev pub method_allows : {f s : Bytes} {end : ℕ} {d : Aid} → Asking f s end d → Which → Method → Bool
method_allows a w m = all (call_allows_in a w m) (calls_of m.code)

abbrev pub class_allows : {f s : Bytes} {end : ℕ} {d : Aid} → Asking f s end d → Which → Class → Bool
class_allows a w k = all (method_allows a w) k.methods

-- something that passes a test is read at a place
abbrev pub Reading : {A : Type 0} → Reader A → (A → Bool) → Bytes → ℕ → Type 0
Reading {A} r p s i = (x : A) × (j : ℕ) × Reads r s i x j × T (p x)

-- in the file being judged a method or class whose codes split stands at a place
abbrev pub OwnMethod : Bytes → Bytes → ℕ → ℕ → Type 0
OwnMethod f s end i =
    (es : List Entry) × (self : Installed) × Loading f s end es self × Reading (method (format_at s f) self.pack.domains) (code_test code_splits) f i

abbrev pub OwnClass : Bytes → Bytes → ℕ → ℕ → Type 0
OwnClass f s end i =
    (es : List Entry) × (self : Installed) × Loading f s end es self × Reading (class (format_at s f) self.pack.domains) (class_test code_splits) f i

-- question 16 was answered yes
abbrev pub CodesSplit : Bytes → Type 0
CodesSplit f = (l : Limits) (p : Package) → read_file l f ≡ some p → T (q16_splits p)

-- the number of the first no of the two questions
abbrev pub calls_number : Bytes → List Entry → Installed → ℕ
calls_number s es self =
    let is = installed (store_limits s) es in
    first_no ((18, q18_calls (store_limits s) is self) ∷ (19, q19_allowed (store_limits s) is self) ∷ [])

-- the two questions, of a call, a method, a class
abbrev pub call_asks : {f s : Bytes} {end : ℕ} {d : Aid} → Asking f s end d → Which → Method → Asks Call
call_asks a w m = (18, call_names_in a w) ∷ (19, call_allows_in a w m) ∷ []

abbrev pub method_asks : {f s : Bytes} {end : ℕ} {d : Aid} → Asking f s end d → Which → Asks Method
method_asks a w = (18, method_names a w) ∷ (19, method_allows a w) ∷ []

abbrev pub class_asks : {f s : Bytes} {end : ℕ} {d : Aid} → Asking f s end d → Which → Asks Class
class_asks a w = (18, class_names a w) ∷ (19, class_allows a w) ∷ []

-- the numbers
abbrev pub CallNumberIs : Bytes → Bytes → ℕ → Aid → Which → ℕ → Calling → ℕ → ℕ → Type 0
CallNumberIs f s end d w i kind index r =
    (a : Asking f s end d) (m : Method) (j : ℕ) → MethodOf a i m j → r ≡ no_of (call_asks a w m) (record { kind = kind_of kind; index = index })

abbrev pub MethodCallsAre : Bytes → Bytes → ℕ → Aid → Which → ℕ → ℕ → Type 0
MethodCallsAre f s end d w i r = (a : Asking f s end d) (m : Method) (j : ℕ) → MethodOf a i m j → r ≡ no_of (method_asks a w) m

abbrev pub ClassCallsAre : Bytes → Bytes → ℕ → Aid → Which → ℕ → ℕ → Type 0
ClassCallsAre f s end d w i r = (a : Asking f s end d) (k : Class) (j : ℕ) → ClassOf a i k j → r ≡ no_of (class_asks a w) k

abbrev pub FileCallsAre : Bytes → Bytes → ℕ → Aid → Which → ℕ → Type 0
FileCallsAre f s end d w r = (a : Asking f s end d) → r ≡ no_of_all (class_asks a w) a.self.pack.classes

-- of the file, in every setting with this loading domain
abbrev pub CallsNumberIs : Bytes → Bytes → ℕ → Aid → ℕ → Type 0
CallsNumberIs f s end d r = OfJudged f s end λ es self. self.domain ≡ d → r ≡ calls_number s es self
