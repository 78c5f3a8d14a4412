-- Rows of the table of cases: two adjacent questions answered no together, the former giving the number. Assumes nothing.
--
-- The other adjacent pairs cannot be answered no together in a sound store: an AID of the wrong length is no created domain's (3, 4); in
-- a domain that was not created lies no package (5, 6); a package that is not installed is imported by none (7, 8).
use Rattle.std.specs.Prelude.{false, List, [], ◌∷◌, replicate}
use Rattle.rules.specs.Store.{version1, full, domain, write}
use Rattle.rules.specs.Operations.{create, delete, load, remove}
use Rattle.rules.specs.CasesForm.{hex, query, ◌answers◌, ◌says◌yes◌, Row, steps}
use Rattle.rules.specs.CasesFiles.{D1, D2, P1, domains_only, alone, beside}

-- the rows of this file
abbrev pub orders : List Row
orders =
    steps "1 before 2" (replicate 63 0) (create full D1 answers 1 ∷ [])
    ∷ steps "2 before 3" (replicate 64 0) (create full [] answers 2 ∷ delete [] answers 2 ∷ load [] [] answers 2 ∷ remove [] answers 2 ∷ query [] [] 0 0 says 2 yes false ∷ [])
    ∷ steps "4 before 21" (write version1 64 (domain full (replicate 16 0xA0) ∷ domain full (replicate 16 0xA1) ∷ domain full D1 ∷ domain full D2 ∷ [])) (create full D1 answers 4 ∷ create full P1 answers 21 ∷ [])
    ∷ steps "3 before 5, deletion and load" domains_only (delete (hex "A0000000") answers 3 ∷ load (hex "A0000000") [] answers 3 ∷ [])
    ∷ steps "3 before 7, removal and query" domains_only (remove (hex "A0000000") answers 3 ∷ query D1 (hex "A0000000") 0 0 says 3 yes false ∷ [])
    ∷ steps "7 before 9" domains_only (query D1 P1 0 0 says 7 yes false ∷ [])
    ∷ steps "5 before 10" (write version1 64 []) (load D1 [] answers 5 ∷ [])
    ∷ alone "10 before 11" "42504B 0003 0000" 10
    ∷ alone "11 before 12, which is not asked then" "42504B 0001 0011  05A000000101  00  00  0000  00" 11
    ∷ beside "12 before 13" "42504B 0001 0018  05A000000101  00  01 05A000000102  0000  00" 12
    ∷ alone "13 before 14" "42504B 0001 001D  05A000000101  00  01 05A000000102  0000  01  00 01 0000 00" 13
    ∷ alone "14 before 15" "42504B 0001 001B  05A000000101  00  00  0000  01  00 01 0000 01  20 0001 00" 14
    ∷ alone "15 before 16" "42504B 0001 0023  05A000000101  00  00  0000  02  00 00 01  20 0001 00  00 00 01  60 0001 00 0001 00" 15
    ∷ alone "16 before 17, in codes of two methods" "42504B 0001 0024  05A000000101  00  00  0000  01  00 00 02  60 0001 00 0002 7001  60 0002 00 0001 00" 16
    ∷ alone "17 before 18" "42504B 0001 0027  05A000000101  00  00  0000  01  00 00 02  60 0001 00 0004 8D00007A  60 0002 00 0002 7001" 17
    ∷ alone "18 before 19" "42504B 0001 002D  05A000000101  00  00  0001 00000002  01  00 00 02  60 0001 00 0004 8D00007A  60 0002 00 0004 8D00017A" 18
    ∷ alone "19 before 20" "42504B 0001 0044  05A000000101  01 05A0000000D1  00  0001 00010002  02  00 00 01  40 0007 0100 0001 7A  00 01 0000 03  40 0007 00 0001 7A  60 0001 00 0004 8D00007A  60 0002 00 0001 7A" 19
    ∷ steps "20 before 21" (write version1 64 (domain full D1 ∷ [])) (load D1 (hex "42504B 0001 0039  05A000000101  02 05A0000000D1 05A0000000D2  00  0000  03  00 00 01  40 0007 0100 0001 7A  01 00 01  00 0007 020001  00 02 0000 0001 00") answers 20 ∷ [])
    ∷ []
