-- Rows of the table of cases: what the questions do and do not ask. Assumes nothing.
use Rattle.std.specs.Prelude.{true, false, List, [], ◌∷◌, ◌++◌}
use Rattle.rules.specs.Store.{version1, full, domain, loaded, write}
use Rattle.rules.specs.Operations.{create, delete, load, remove}
use Rattle.rules.specs.CasesForm.{hex, times, query, ◌answers◌, ◌gives◌used◌, ◌says◌yes◌, holds, Row, steps}
use Rattle.rules.specs.CasesFiles.{D1, D2, P1, P2, bare, importer, library, with_library, alone, beside}

-- entries, AIDs and queries
abbrev stored : List Row
stored =
    steps "9: an unimplemented method counts" with_library (query D2 P1 0 0x0004 says 0 yes true ∷ [])
    ∷ steps "9: an inherited name does not" with_library (load D1 (hex "42504B 0001 001D  05A000000102  00  01 05A000000101  0000  01  00 01 0100 00") answers 0 ∷ query D1 P2 0 0x0003 says 9 yes false ∷ [])
    ∷ steps "a query allows no other domain" with_library (query D1 P1 0 0x0003 says 0 yes true ∷ query D2 P1 0 0x0003 says 0 yes false ∷ query P1 P1 0 0x0003 says 0 yes false ∷ [])
    ∷ steps "a refused query says no" with_library (query D1 P1 0 0x0009 says 9 yes false ∷ query D1 P2 0 0x0002 says 7 yes false ∷ [])
    ∷ steps "an accepted query leaves every byte" (write version1 64 (domain full D1 ∷ loaded D1 bare ∷ [])) (query D1 P1 0 0x0001 says 9 yes false ∷ holds (hex "424353 0001 002A  01 0005 A0000000D1  02 0018 05A0000000D1" ++ bare) ∷ [])
    ∷ steps "installed in another domain: 12" with_library (load D2 bare answers 12 ∷ [])
    ∷ steps "6: a domain in a policy does not count" (write version1 256 (domain full D1 ∷ domain full D2 ∷ loaded D2 library ∷ [])) (delete D1 answers 0 ∷ delete D2 answers 6 ∷ [])
    ∷ steps "8: what a package itself imports does not count" (write version1 128 (domain full D1 ∷ loaded D1 bare ∷ loaded D1 importer ∷ [])) (remove P2 answers 0 ∷ [])
    ∷ steps "13: one of two imports missing" (write version1 128 (domain full D1 ∷ loaded D1 bare ∷ [])) (load D1 (hex "42504B 0001 001E  05A000000102  00  02 05A000000101 05A000000103  0000  00") answers 13 ∷ load D1 (hex "42504B 0001 001E  05A000000102  00  02 05A000000103 05A000000101  0000  00") answers 13 ∷ [])
    ∷ steps "a creation is put last" (write version1 64 []) (create full D1 answers 0 ∷ create full D2 answers 0 ∷ holds (hex "424353 0001 0017  01 0005 A0000000D1  01 0005 A0000000D2") ∷ [])
    ∷ steps "an AID and a longer one that it begins" (write version1 64 []) (create full D1 answers 0 ∷ create full (hex "A0000000D100") answers 0 ∷ delete D1 answers 0 ∷ create full D1 answers 0 ∷ [])
    ∷ steps "a load is put last" (write version1 64 (domain full D1 ∷ [])) (load D1 bare answers 0 ∷ holds (hex "424353 0001 002A  01 0005 A0000000D1  02 0018 05A0000000D1" ++ bare) ∷ [])
    ∷ steps "refusals leave every byte" (write version1 64 (domain full D1 ∷ [])) (create full D1 answers 4 ∷ load D1 [] answers 10 ∷ delete D2 answers 5 ∷ remove P1 answers 7 ∷ holds (hex "424353 0001 000F  01 0005 A0000000D1") ∷ [])
    ∷ steps "used of 256 bytes and more" (write version1 512 (domain full D1 ∷ loaded D1 library ∷ [])) (load D1 (hex "42504B 0001 00D2  05A000000102  20" ++ times 32 (hex "05A0000000D1") ++ hex "00  0000  00") gives 0 used 304 ∷ remove P2 gives 0 used 85 ∷ [])
    ∷ []

-- files by questions 14 to 20
abbrev files : List Row
files =
    alone "14: kind-0 and interface parents, each once" "42504B 0001 001F  05A000000101  00  00  0000  03  00 00 00  01 00 00  00 02 0000 0001 00" 0
    ∷ alone "14: an interface parent listed twice" "42504B 0001 001C  05A000000101  00  00  0000  02  01 00 00  00 02 0000 0000 00" 0
    ∷ alone "14: an interface under an interface" "42504B 0001 001A  05A000000101  00  00  0000  02  01 00 00  01 01 0000 00" 0
    ∷ beside "14: an imported parent has any number" "42504B 0001 001D  05A000000102  00  01 05A000000101  0000  01  01 01 0101 00" 0
    ∷ beside "14: an imported kind-0 parent and an own one" "42504B 0001 0022  05A000000102  00  01 05A000000101  0000  02  00 00 00  00 02 0000 0100 00" 14
    ∷ beside "14: an interface with an imported class as parent" "42504B 0001 001D  05A000000102  00  01 05A000000101  0000  01  01 01 0100 00" 14
    ∷ alone "15: the first name again, third" "42504B 0001 0021  05A000000101  00  00  0000  01  00 00 03  00 0001 00  00 0002 00  00 0001 00" 15
    ∷ alone "15: a name in two classes" "42504B 0001 0020  05A000000101  00  00  0000  02  00 00 01  00 0001 00  00 00 01  00 0001 00" 0
    ∷ alone "15: a class method neither static nor implemented" "42504B 0001 0019  05A000000101  00  00  0000  01  00 00 01  00 0001 00" 0
    ∷ alone "15: an interface method static and implemented" "42504B 0001 001C  05A000000101  00  00  0000  01  01 00 01  60 0001 00 0001 7A" 15
    ∷ alone "16: the second of two codes" "42504B 0001 0023  05A000000101  00  00  0000  01  00 00 02  60 0001 00 0001 7A  60 0002 00 0001 00" 16
    ∷ alone "17: a code of the second class" "42504B 0001 0027  05A000000101  00  00  0000  02  00 00 01  60 0001 00 0001 7A  00 00 01  60 0001 00 0002 7001" 17
    ∷ alone "17: a code of a method that is not static" "42504B 0001 001D  05A000000101  00  00  0000  01  00 00 01  40 0001 00 0002 7001" 17
    ∷ alone "18: a reference to the own package, invisible" "42504B 0001 002A  05A000000101  00  00  0001 00000002  01  00 00 02  60 0001 00 0004 8D00007A  60 0002 FF 0001 7A" 0
    ∷ alone "18: a later own class" "42504B 0001 002D  05A000000101  00  00  0001 00010002  02  00 00 01  60 0001 00 0004 8D00007A  00 00 01  60 0002 FF 0001 7A" 0
    ∷ alone "18: an inherited name is found by the search of request 3" "42504B 0001 0036  05A000000101  01 05A0000000D1  00  0001 00010007  02  00 00 01  40 0007 0100 0001 7A  00 01 0000 01  60 0001 00 0004 8B00007A" 0
    ∷ alone "18: the second of two calls" "42504B 0001 002D  05A000000101  00  00  0001 00000002  01  00 00 02  60 0001 00 0007 8D00008D00017A  60 0002 FF 0001 7A" 18
    ∷ beside "18: 8C of a static method" "42504B 0001 0029  05A000000102  00  01 05A000000101  0001 01000001  01  00 00 01  60 0001 00 0004 8C00007A" 0
    ∷ beside "18: 8E of a static method" "42504B 0001 002B  05A000000102  00  01 05A000000101  0001 01000001  01  00 00 01  60 0001 00 0006 8E000000007A" 18
    ∷ beside "18: 8C of an invisible imported method" "42504B 0001 0029  05A000000102  00  01 05A000000101  0001 01000002  01  00 00 01  60 0001 00 0004 8C00007A" 18
    ∷ alone "19: 8B of a method allowing none" "42504B 0001 0027  05A000000101  00  00  0001 00000002  01  00 00 02  60 0001 00 0004 8B00007A  00 0002 00" 19
    ∷ alone "19: 8E of a method allowing none" "42504B 0001 002C  05A000000101  00  00  0001 00000002  02  01 00 01  00 0002 00  00 00 01  60 0001 00 0006 8E000000007A" 19
    ∷ alone "19: 8C of a method allowing none" "42504B 0001 002A  05A000000101  00  00  0001 00000002  01  00 00 02  60 0001 00 0004 8C00007A  40 0002 00 0001 7A" 19
    ∷ alone "19: the second of two calls" "42504B 0001 0038  05A000000101  00  00  0002 00000002 00000003  01  00 00 03  60 0001 00 0007 8D00008D00017A  60 0002 FF 0001 7A  60 0003 00 0001 7A" 19
    ∷ alone "19: the callee may allow more" "42504B 0001 0039  05A000000101  02 05A0000000D1 05A0000000D2  00  0001 00000002  01  00 00 02  60 0001 0100 0004 8D00007A  60 0002 020001 0001 7A" 0
    ∷ alone "20: the loading domain is not asked for" "42504B 0001 001C  05A000000101  00  00  0000  01  00 00 01  40 0007 00 0001 7A" 0
    ∷ alone "20: a static n is not compared" "42504B 0001 002F  05A000000101  01 05A0000000D1  00  0000  02  00 00 01  40 0007 0100 0001 7A  00 01 0000 01  60 0007 FF 0001 7A" 0
    ∷ alone "20: another name is not compared" "42504B 0001 002F  05A000000101  01 05A0000000D1  00  0000  02  00 00 01  40 0007 0100 0001 7A  00 01 0000 01  40 0008 00 0001 7A" 0
    ∷ alone "20: C13 with the interface listed first" "42504B 0001 0039  05A000000101  02 05A0000000D1 05A0000000D2  00  0000  03  00 00 01  40 0007 0100 0001 7A  01 00 01  00 0007 020001  00 02 0001 0000 00" 20
    ∷ alone "20: an interface is not compared with its parent" "42504B 0001 0029  05A000000101  01 05A0000000D1  00  0000  02  01 00 01  00 0007 0100  01 01 0000 01  00 0007 00" 0
    ∷ alone "20: n inherited from two steps up runs" "42504B 0001 003E  05A000000101  02 05A0000000D1 05A0000000D2  00  0000  04  00 00 01  40 0007 0100 0001 7A  00 01 0000 00  01 00 01  00 0007 020001  00 02 0001 0002 00" 20
    ∷ alone "20: an unimplemented n allows less, and none runs"
    "42504B 0001 002C  05A000000101  01 05A0000000D1  00  0000  02  00 00 01  40 0007 0100 0001 7A  00 01 0000 01  00 0007 00" 0
    ∷ alone "20: an unimplemented n ends the search" "42504B 0001 0031  05A000000101  01 05A0000000D1  00  0000  03  00 00 01  40 0007 00 0001 7A  00 01 0000 01  00 0007 0100  00 01 0001 00" 0
    ∷ steps "20: n two packages up" (write version1 256 (domain full D1 ∷ loaded D1 (hex "42504B 0001 0023  05A000000101  01 05A0000000D1  00  0000  01  00 00 01  40 0007 0100 0001 7A") ∷ loaded D1 (hex "42504B 0001 001D  05A000000102  00  01 05A000000101  0000  01  00 01 0100 00") ∷ [])) (load D1 (hex "42504B 0001 0024  05A000000103  00  01 05A000000102  0000  01  00 01 0100 01  40 0007 00 0001 7A") answers 20 ∷ [])
    ∷ []

-- the rows of this file
abbrev pub readings : List Row
readings = stored ++ files
