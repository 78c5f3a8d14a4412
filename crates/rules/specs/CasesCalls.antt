-- Rows of calls: packages, each loaded after the one before, and which of their methods call which, computed. Assumes nothing.
--
-- CallRow        == a name, the packages that are there, a caller and a method by package, class and name, whether it calls
-- two, three     == the first two of the three packages here, and all; searched == those of CasesSearch
-- failing_calls   == the names of the rows that do not follow from the definitions
use Rattle.std.specs.Prelude.{ℕ, ◌≡◌, refl, Bool, true, false, List, [], ◌∷◌, take}
use Prim.Native.String.{String}
use Rattle.rules.specs.Bytes.{Bytes, Aid, pick, some_and}
use Rattle.rules.specs.Code.{signed, numbers_from, length_of, length_as, instruction_length, split_from, split, call_at, calls_of}
use Rattle.rules.specs.Package.{standard, class_number, reference, item, items, policy, code_if, handler, handlers_if, method, class, contents, sized, edition_of, read_file}
use Rattle.rules.specs.Store.{full, Entry, domain, loaded}
use Rattle.rules.specs.Classes.{Installed, installed}
use Rattle.rules.specs.Questions.{method_queried}
use Rattle.rules.specs.Operations.{Operation, create, load}
use Rattle.rules.specs.CasesForm.{hex, same_bool}
use Rattle.rules.specs.CasesFiles.{D1, P1, P2}
use Rattle.rules.specs.CasesSearch.{searched_packages}
use Rattle.rules.specs.Called.{called, calls_b}

-- a third package
abbrev pub P3 : Aid
P3 = hex "A000000103"

-- P1. Class 0, kind 0: 7, and static 9. Class 1, an interface: 5. Class 2, kind 0: 5. All methods here and below allow every domain.
abbrev pub first : Bytes
first = hex "42504B 0001 0034  05A000000101  00  00  0000  03  00 00 02  C0 0007 FF 0001 7A  E0 0009 FF 0001 7A  01 00 01  80 0005 FF  00 00 01  C0 0005 FF 0001 7A"

-- P2. Class 0, kind 0 below P1's classes 2 and 1, declares nothing. Class 1: static 1 calls P1's 0.7 by 8B, 2 the same by 8C, 3 calls
-- P1's 0.9 by 8D, 4 calls P1's 1.5 by 8E.
abbrev pub second : Bytes
second = hex "42504B 0001 0058  05A000000102  00  01 05A000000101  0003 01000007 01000009 01010005  02  00 02 0102 0101 00  00 00 04  E0 0001 FF 0004 8B00007A  E0 0002 FF 0004 8C00007A  E0 0003 FF 0004 8D00017A  E0 0004 FF 0006 8E000002007A"

-- P3. Class 0, kind 0 below P1's class 0, declares 7 again. Class 1: static 8 calls P2's 1.3 by 8D.
abbrev pub third : Bytes
third = hex "42504B 0001 003B  05A000000103  00  02 05A000000102 05A000000101  0001 01010003  02  00 01 0200 01  C0 0007 FF 0001 7A  00 00 01  E0 0008 FF 0004 8D00007A"

-- the calls that install them
abbrev pub installing : List Operation
installing = create full D1 ∷ load D1 first ∷ load D1 second ∷ load D1 third ∷ []

-- the ledger after these (proofs/Witness)
abbrev pub three_packages : List Entry
three_packages = domain full D1 ∷ loaded D1 first ∷ loaded D1 second ∷ loaded D1 third ∷ []

pub data CallRow : Type 0 where
  calls : String → List Installed → (Aid × ℕ × ℕ) → (Aid × ℕ × ℕ) → Bool → CallRow

-- among these packages
abbrev call_in : List Installed → (Aid × ℕ × ℕ) → (Aid × ℕ × ℕ) → Bool
call_in is m o = some_and (method_queried is m.0 m.1 m.2) λ x. some_and (method_queried is o.0 o.1 o.2) λ y. calls_b standard is x y

abbrev call_holds : CallRow → Bool
call_holds (calls name is m o b) = same_bool (call_in is m o) b

abbrev call_name : CallRow → String
call_name (calls name is m o b) = name

unfoldable pub failing_calls : List CallRow → List String
unfolding signed numbers_from length_of length_as instruction_length split_from split call_at calls_of standard class_number reference item items policy
    code_if handler handlers_if method class contents sized edition_of read_file method_queried called calls_b
failing_calls [] = []
failing_calls (r ∷ rs) = pick (call_holds r) (failing_calls rs) (call_name r ∷ failing_calls rs)

-- the packages of the rows
abbrev two : List Installed
two = take 2 (installed standard three_packages)

abbrev three : List Installed
three = installed standard three_packages

abbrev searched : List Installed
searched = installed standard searched_packages

abbrev pub call_rows : List CallRow
call_rows =
    calls "8B calls what runs" two (P2, 1, 1) (P1, 0, 7) true
    ∷ calls "8B calls an overriding method of a later package" three (P2, 1, 1) (P3, 0, 7) true
    ∷ calls "8B calls nothing of another name" three (P2, 1, 1) (P1, 0, 9) false
    ∷ calls "8B calls nothing of a class beside" three (P2, 1, 1) (P1, 2, 5) false
    ∷ calls "8C calls the method named" three (P2, 1, 2) (P1, 0, 7) true
    ∷ calls "8C calls no overriding method" three (P2, 1, 2) (P3, 0, 7) false
    ∷ calls "8D calls the method named" three (P2, 1, 3) (P1, 0, 9) true
    ∷ calls "8D calls no other" three (P2, 1, 3) (P1, 0, 7) false
    ∷ calls "8E calls a method that a class inherits" two (P2, 1, 4) (P1, 2, 5) true
    ∷ calls "8E does not call the interface's method" three (P2, 1, 4) (P1, 1, 5) false
    ∷ calls "a method of a third package calls one of the second" three (P3, 1, 8) (P2, 1, 3) true
    ∷ calls "and not what that one calls" three (P3, 1, 8) (P1, 0, 9) false
    ∷ calls "a method is not called by what it calls" three (P1, 0, 9) (P2, 1, 3) false
    ∷ calls "a code without calls calls nothing" three (P1, 0, 7) (P1, 0, 9) false
    ∷ calls "8B calls what the class named inherits from a third package" searched (P3, 0, 1) (P1, 0, 7) true
    ∷ calls "8B calls an overriding method below the class named" searched (P3, 0, 1) (P2, 1, 7) true
    ∷ calls "8B calls nothing below the declaration alone" searched (P3, 0, 1) (P1, 1, 7) false
    ∷ calls "8C calls the inherited declaration" searched (P3, 0, 2) (P1, 0, 7) true
    ∷ calls "8C calls nothing below the class named" searched (P3, 0, 2) (P2, 1, 7) false
    ∷ calls "8D calls the inherited declaration" searched (P3, 0, 3) (P1, 0, 9) true
    ∷ calls "8B of an interface's method calls below the class named" searched (P3, 0, 4) (P2, 1, 5) true
    ∷ calls "and nothing below the interface alone" searched (P3, 0, 4) (P1, 3, 5) false
    ∷ calls "8E naming a class calls below it" searched (P3, 0, 6) (P2, 1, 5) true
    ∷ calls "and nothing below the interface that declares it alone" searched (P3, 0, 6) (P1, 3, 5) false
    ∷ calls "8E naming a class does not call the interface's method" searched (P3, 0, 6) (P1, 2, 5) false
    ∷ []

pub calls_hold : failing_calls call_rows ≡ []
unfolding failing_calls
calls_hold = refl
