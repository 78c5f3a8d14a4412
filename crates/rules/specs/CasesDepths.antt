-- Rows of the table of cases: the depth figure that a load carries (request 5). Assumes nothing.
use Rattle.std.specs.Prelude.{List, [], ◌∷◌, ◌++◌}
use Rattle.rules.specs.Bytes.{Bytes}
use Rattle.rules.specs.Store.{version1, full, domain, loaded, write}
use Rattle.rules.specs.Operations.{load}
use Rattle.rules.specs.CasesForm.{hex, ◌answers◌, depth, Row, steps}
use Rattle.rules.specs.CasesFiles.{D1, D2, bare, domains_only}

-- one class
abbrev one : Bytes
one = hex "42504B 0001 0015  05A000000101  00  00  0000  01  00 00 00"

-- P2 and P3, each with one class below class 0 of the package before
abbrev second : Bytes
second = hex "42504B 0001 001D  05A000000102  00  01 05A000000101  0000  01  00 01 0100 00"

abbrev third : Bytes
third = hex "42504B 0001 001D  05A000000103  00  01 05A000000102  0000  01  00 01 0100 00"

-- three interfaces, each below the one before
abbrev three : Bytes
three = hex "42504B 0001 001F  05A000000101  00  00  0000  03  01 00 00  01 01 0000 00  01 01 0001 00"

-- eight of them, and nine
abbrev eight : Bytes
eight = hex "42504B 0001 0038  05A000000101  00  00  0000  08  01 00 00  01 01 0000 00  01 01 0001 00  01 01 0002 00"
    ++ hex "01 01 0003 00  01 01 0004 00  01 01 0005 00  01 01 0006 00"

abbrev nine : Bytes
nine = hex "42504B 0001 003D  05A000000101  00  00  0000  09  01 00 00  01 01 0000 00  01 01 0001 00  01 01 0002 00"
    ++ hex "01 01 0003 00  01 01 0004 00  01 01 0005 00  01 01 0006 00  01 01 0007 00"

-- the store with these three, and P2 with five and with six more below them
abbrev pub with_three : Bytes
with_three = write version1 256 (domain full D1 ∷ loaded D1 three ∷ [])

abbrev five_more : Bytes
five_more = hex "42504B 0001 0031  05A000000102  00  01 05A000000101  0000  05  01 01 0102 00  01 01 0000 00"
    ++ hex "01 01 0001 00  01 01 0002 00  01 01 0003 00"

abbrev six_more : Bytes
six_more = hex "42504B 0001 0036  05A000000102  00  01 05A000000101  0000  06  01 01 0102 00  01 01 0000 00"
    ++ hex "01 01 0001 00  01 01 0002 00  01 01 0003 00  01 01 0004 00"

-- P2 with a class below the last of the three, and one below none
abbrev pub first_deepest : Bytes
first_deepest = hex "42504B 0001 0020  05A000000102  00  01 05A000000101  0000  02  00 01 0102 00  00 00 00"

-- the deepest own class, wherever it stands among them and of whichever kind
abbrev own : List Row
own =
    steps "no class: depth 0" (write version1 64 (domain full D1 ∷ [])) (depth D1 bare 0 ∷ [])
    ∷ steps "one class: depth 1" domains_only (depth D1 one 1 ∷ [])
    ∷ steps "three classes, the second deepest: depth 2" domains_only
    (depth D1 (hex "42504B 0001 001D  05A000000101  00  00  0000  03  00 00 00  00 01 0000 00  00 00 00") 2 ∷ [])
    ∷ steps "three classes, an interface deepest: depth 2" domains_only
    (depth D1 (hex "42504B 0001 001D  05A000000101  00  00  0000  03  01 00 00  01 01 0000 00  00 00 00") 2 ∷ [])
    ∷ steps "a class below an interface: depth 2" domains_only
    (depth D1 (hex "42504B 0001 001A  05A000000101  00  00  0000  02  01 00 00  00 01 0000 00") 2 ∷ [])
    ∷ steps "the second of two parents deeper: depth 3" domains_only
    (depth D1 (hex "42504B 0001 0024  05A000000101  00  00  0000  04  01 00 00  01 01 0000 00  01 00 00  00 02 0002 0001 00") 3 ∷ [])
    ∷ steps "the first of two parents deeper: depth 3" domains_only
    (depth D1 (hex "42504B 0001 0024  05A000000101  00  00  0000  04  01 00 00  01 01 0000 00  01 00 00  00 02 0001 0002 00") 3 ∷ [])
    ∷ steps "interfaces: depth 8" domains_only (depth D1 eight 8 ∷ load D1 eight answers 0 ∷ [])
    ∷ []

-- installed classes count where an own one is below them, and only there
abbrev stored : List Row
stored =
    steps "depth 3 in the store and 5 more: depth 8" with_three (depth D1 five_more 8 ∷ load D1 five_more answers 0 ∷ [])
    ∷ steps "the first class deepest, below the store's: depth 4" with_three (depth D1 first_deepest 4 ∷ [])
    ∷ steps "two packages up: depth 3" (write version1 256 (domain full D1 ∷ loaded D1 one ∷ loaded D1 second ∷ [])) (depth D1 third 3 ∷ [])
    ∷ steps "an import that no class is below: depth 1" with_three
    (depth D1 (hex "42504B 0001 001B  05A000000102  00  01 05A000000101  0000  01  00 00 00") 1 ∷ [])
    ∷ []

-- a refused load carries 0, whatever its classes
abbrev refused : List Row
refused =
    steps "refused by 5: depth 0" (write version1 64 (domain full D1 ∷ [])) (load D2 one answers 5 ∷ depth D2 one 0 ∷ [])
    ∷ steps "refused by 14, its own parent: depth 0" domains_only
    (depth D2 (hex "42504B 0001 0017  05A000000101  00  00  0000  01  00 01 0000 00") 0 ∷ [])
    ∷ steps "interfaces, depth 9: 14" domains_only (load D1 nine answers 14 ∷ depth D1 nine 0 ∷ [])
    ∷ steps "depth 3 in the store and 6 more: 14" with_three (load D1 six_more answers 14 ∷ depth D1 six_more 0 ∷ [])
    ∷ steps "refused by 21: depth 0" (write version1 64 (domain full D1 ∷ [])) (load D1 eight answers 21 ∷ depth D1 eight 0 ∷ [])
    ∷ []

-- the rows of this file
abbrev pub depths : List Row
depths = own ++ stored ++ refused
