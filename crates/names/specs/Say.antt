-- What the functions of question 15 require and ensure. Assumes nothing.
--
-- form i s m       == whether a method has its form, by the three bits, as `method_form` asks
-- among t n x      == x is one of the first n names of the table t
-- Below t n top    == t has n names, and they are below top
-- class_ok k        == question 15 of one class
-- NamesIs f r      == r is question 15 of the package that the file reads as
use Rattle.std.specs.Prelude.{ℕ, zero, suc, ◌≤◌, ◌<◌, ◌≡◌, Bool, false, ◌&&◌, ◌||◌, not, List, eqb, length, get_or}
use Rattle.std.proofs.Math.Option.{some}
use Rattle.rules.specs.Bytes.{Bytes, pick, all}
use Rattle.rules.specs.Package.{Limits, Class, Package, read_file}
use Rattle.rules.specs.Questions.{names_differ, method_form, q15_names}
use Rattle.files.specs.Say.{OfMethod, OfClass}

-- whether a method that is static or not and implemented or not has the form that its class's kind asks for
abbrev pub form : Bool → Bool → Bool → Bool
form interface static implemented = pick interface (not static && not implemented) (not static || implemented)

abbrev pub FormIs : Bytes → ℕ → Bool → Bool → Type 0
FormIs s i b r = OfMethod s i λ l ds m. r ≡ form b m.static m.implemented

-- is x one of the first n names of the table?
abbrev pub among : List ℕ → ℕ → ℕ → Bool
among names zero x = false
among names (suc n) x = among names n x || eqb (get_or names n 0) x

-- the table has n names, and they are below a number
abbrev pub Below : List ℕ → ℕ → ℕ → Type 0
Below names n top = (n ≤ length names) × ((i : ℕ) → i < n → get_or names i 0 < top)

-- question 15 of one class
abbrev pub class_ok : Class → Bool
class_ok k = names_differ k.methods && all (method_form k) k.methods

abbrev pub ClassIs : Bytes → ℕ → Bool → Type 0
ClassIs s i r = OfClass s i λ l ds k j. r ≡ class_ok k

abbrev pub NamesIs : Bytes → Bool → Type 0
NamesIs f r = (l : Limits) (p : Package) → read_file l f ≡ some p → r ≡ q15_names p
