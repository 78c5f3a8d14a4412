-- Rows of import places (request 6 of document 02): where the imports of a file lie, and what 18 and 19 say by places given. Assumes nothing.
--
-- PlaceRow      == a name, a store's opening and entries, a file, and the places of its imports; or places given and the answers by these
-- short, long   == files of two packages, the AID of the first beginning that of the second; between == a package that imports the second
-- failing_places == the names of the rows that do not follow from the definitions
use Rattle.std.specs.Prelude.{ℕ, ◌≡◌, refl, Bool, true, false, ◌&&◌, List, [], ◌∷◌, eqb}
use Prim.Native.String.{String}
use Rattle.std.proofs.Math.Option.{Option, none, some}
use Rattle.rules.specs.Bytes.{Bytes, Aid, pick, some_and}
use Rattle.rules.specs.Code.{signed, numbers_from, length_of, length_as, instruction_length, split_from, split, static, call_at, calls_of}
use Rattle.rules.specs.Package.{standard, class_number, reference, item, items, policy, code_if, handler, handlers_if, method, class, contents, sized, edition_of, read_file}
use Rattle.rules.specs.Store.{Opening, version1, version2, opening_limits, full, Entry, domain, loaded}
use Rattle.rules.specs.Places.{import_places, calls_placed, allowed_placed}
use Rattle.rules.specs.CasesForm.{hex, same_bool}
use Rattle.rules.specs.CasesFiles.{D1, P1}
use Rattle.rules.specs.CasesSearch.{file_of}

-- an AID that begins with that of P1
abbrev pub P1-more : Aid
P1-more = hex "A00000010101"

-- P1. Class 0: statics 7 and 9 allowing every domain. 35 bytes.
abbrev pub short : Bytes
short = hex "42504B 0001 0023  05A000000101  00  00  0000  01  00 00 02  E0 0007 FF 0001 7A  E0 0009 FF 0001 7A"

-- P1-more. Class 0: static 9 allowing none. 29 bytes.
abbrev pub long : Bytes
long = hex "42504B 0001 001D  06A00000010101  00  00  0000  01  00 00 01  E0 0009 00 0001 7A"

-- P2, importing P1-more. Class 0, below its class 0, declares nothing. 30 bytes.
abbrev between : Bytes
between = hex "42504B 0001 001E  05A000000102  00  01 06A00000010101  0000  01  00 01 0100 00"

-- a store's entries: domain D1 and the two packages, 8 bytes, then 44 and 38; so in the other order; the three packages
abbrev pub prefixed : List Entry
prefixed = domain full D1 ∷ loaded D1 short ∷ loaded D1 long ∷ []

abbrev long_first : List Entry
long_first = domain full D1 ∷ loaded D1 long ∷ loaded D1 short ∷ []

abbrev three : List Entry
three = domain full D1 ∷ loaded D1 short ∷ loaded D1 long ∷ loaded D1 between ∷ []

-- a version-2 opening, 11 bytes
abbrev second : Opening
second = version2 (record { depth = 8; parents = 4; code = 4096 })

-- files of P3 by the imports, which call their own method
abbrev importing : String → Bytes
importing t = file_of t "00000001" 0 static ""

-- files of P3 that import P1 and P1-more: they call 7, 9 or 1 of class 0 of the first import, or 9 of an own class below that class
abbrev pub sevens : Bytes
sevens = file_of "05A000000103  00  02 05A000000101 06A00000010101" "01000007" 0 static ""

abbrev nines : Bytes
nines = file_of "05A000000103  00  02 05A000000101 06A00000010101" "01000009" 0 static ""

abbrev ones : Bytes
ones = file_of "05A000000103  00  02 05A000000101 06A00000010101" "01000001" 0 static ""

abbrev pub inherits : Bytes
inherits = file_of "05A000000103  00  02 05A000000101 06A00000010101" "00000009" 1 static "00 01 0100 00"

-- a file of P3 that imports P1 and P2 and calls 9 of P2's class 0
abbrev through : Bytes
through = file_of "05A000000103  00  02 05A000000101 05A000000102" "02000009" 0 static ""

pub data PlaceRow : Type 0 where
  -- the places of a file's imports
  placed : String → Opening → List Entry → Bytes → List (Option ℕ) → PlaceRow
  -- what 18 and 19 say of a file by places given
  by_places : String → Opening → List Entry → Bytes → List (Option ℕ) → Bool → Bool → PlaceRow

abbrev same_place : Option ℕ → Option ℕ → Bool
same_place none none = true
same_place none (some j) = false
same_place (some i) none = false
same_place (some i) (some j) = eqb i j

abbrev same_places : List (Option ℕ) → List (Option ℕ) → Bool
same_places [] [] = true
same_places [] (o ∷ os) = false
same_places (o ∷ os) [] = false
same_places (o ∷ os) (p ∷ ps) = same_place o p && same_places os ps

abbrev place_holds : PlaceRow → Bool
place_holds (placed name v es f ps) = some_and (read_file (opening_limits v) f) λ p. same_places (import_places v es p) ps
place_holds (by_places name v es f ps b c) = some_and (read_file (opening_limits v) f) λ p.
    same_bool (calls_placed v es ps (record { domain = D1; pack = p })) b && same_bool (allowed_placed v es ps (record { domain = D1; pack = p })) c

abbrev place_name : PlaceRow → String
place_name (placed name v es f ps) = name
place_name (by_places name v es f ps b c) = name

unfoldable pub failing_places : List PlaceRow → List String
unfolding signed numbers_from length_of length_as instruction_length split_from split call_at calls_of standard class_number reference item items policy
    code_if handler handlers_if method class contents sized edition_of read_file
failing_places [] = []
failing_places (r ∷ rs) = pick (place_holds r) (failing_places rs) (place_name r ∷ failing_places rs)

-- in version 1 the first entry stands at 7, in version 2 at 11; without a row's word on it the store is prefixed: 7, 15, 59
abbrev pub place_rows : List PlaceRow
place_rows =
    placed "no imports: no places" version1 prefixed (importing "05A000000103  00  00") []
    ∷ placed "an import behind the domain" version1 prefixed (importing "05A000000103  00  01 05A000000101") (some 15 ∷ [])
    ∷ placed "an import behind a package" version1 prefixed (importing "05A000000103  00  01 06A00000010101") (some 59 ∷ [])
    ∷ placed "an import listed twice: its place twice" version1 prefixed (importing "05A000000103  00  02 05A000000101 05A000000101") (some 15 ∷ some 15 ∷ [])
    ∷ placed "one AID begins the other" version1 prefixed sevens (some 15 ∷ some 59 ∷ [])
    ∷ placed "one AID begins the other, imported in the other order" version1 prefixed (importing "05A000000103  00  02 06A00000010101 05A000000101")
    (some 59 ∷ some 15 ∷ [])
    ∷ placed "one AID begins the other, stored in the other order" version1 long_first sevens (some 53 ∷ some 15 ∷ [])
    ∷ placed "a longer AID alone is stored: none" version1 (domain full D1 ∷ loaded D1 long ∷ []) sevens (none ∷ some 15 ∷ [])
    ∷ placed "a shorter AID alone is stored: none" version1 (domain full D1 ∷ loaded D1 short ∷ []) sevens (some 15 ∷ none ∷ [])
    ∷ placed "a domain has the import's AID" version1 (domain full P1 ∷ loaded P1 short ∷ []) (importing "05A000000103  00  01 05A000000101") (some 15 ∷ [])
    ∷ placed "an import that is not installed, between others" version1 prefixed
    (importing "05A000000103  00  03 05A000000101 05A000000109 06A00000010101") (some 15 ∷ none ∷ some 59 ∷ [])
    ∷ placed "an opening of 11 bytes" second prefixed sevens (some 19 ∷ some 63 ∷ [])
    ∷ placed "two entries with one AID, which no sound store has: the first" version1
    (loaded D1 short ∷ loaded D1 short ∷ []) (importing "05A000000103  00  01 05A000000101") (some 7 ∷ [])
    ∷ by_places "a call by the places" version1 prefixed sevens (some 15 ∷ some 59 ∷ []) true true
    ∷ by_places "a call by the places exchanged: 18" version1 prefixed sevens (some 59 ∷ some 15 ∷ []) false true
    ∷ by_places "a call by a place inside an entry: 18" version1 prefixed nines (some 16 ∷ some 59 ∷ []) false true
    ∷ by_places "a call by the place of a domain: 18" version1 prefixed sevens (some 7 ∷ some 59 ∷ []) false true
    ∷ by_places "a call without a place: 18" version1 prefixed sevens (none ∷ some 59 ∷ []) false true
    ∷ by_places "a call without a place, the file's own class declaring the name: 18" version1 prefixed ones (none ∷ some 59 ∷ []) false true
    ∷ by_places "a call by the places, an opening of 11 bytes" second prefixed sevens (some 19 ∷ some 63 ∷ []) true true
    ∷ by_places "rights by the places" version1 prefixed nines (some 15 ∷ some 59 ∷ []) true true
    ∷ by_places "rights by the places exchanged: 19" version1 prefixed nines (some 59 ∷ some 15 ∷ []) true false
    ∷ by_places "an own class's parent by the places" version1 prefixed inherits (some 15 ∷ some 59 ∷ []) true true
    ∷ by_places "an own class's parent by the places exchanged: 19" version1 prefixed inherits (some 59 ∷ some 15 ∷ []) true false
    ∷ by_places "an own class's parent without a place: 18" version1 prefixed inherits (none ∷ some 59 ∷ []) false true
    ∷ by_places "a stored class's parent by its own package's imports: 19" version1 three through (some 15 ∷ some 97 ∷ []) true false
    ∷ []

pub places_hold : failing_places place_rows ≡ []
unfolding failing_places
places_hold = refl
