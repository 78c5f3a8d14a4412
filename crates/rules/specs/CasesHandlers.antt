-- Rows of the table of cases: version 2 of the package file, with handlers (request 7 of document 02). Assumes nothing.
use Rattle.std.specs.Prelude.{true, List, [], ◌∷◌, ◌++◌}
use Rattle.rules.specs.Bytes.{Bytes}
use Rattle.rules.specs.Store.{version1, full, Entry, domain, loaded, write}
use Rattle.rules.specs.Operations.{Operation, create, load, remove}
use Rattle.rules.specs.CasesForm.{hex, query, ◌answers◌, ◌says◌yes◌, Row, steps}
use Rattle.rules.specs.CasesFiles.{D1, D2, P1, P2, alone}

-- the code of most rows is 10 05, 00, 7A: instructions start at 0, 2 and 3, and it has 4 bytes

-- question 10 of versions, and question 11 of handler counts
abbrev reading_handlers : List Row
reading_handlers =
    alone "version 2, no class" "42504B 0002 0012  05A000000101  00  00  0000  00" 0
    ∷ alone "version 0: 10" "42504B 0000 0012  05A000000101  00  00  0000  00" 10
    ∷ alone "version 0102: 10" "42504B 0102 0012  05A000000101  00  00  0000  00" 10
    ∷ alone "version 0201: 10" "42504B 0201 0012  05A000000101  00  00  0000  00" 10
    ∷ alone "version 2 alone: 11" "42504B 0002" 11
    ∷ alone "a code without handlers" "42504B 0002 0020  05A000000101  00  00  0000  01  00 00 01  60 0001 00 0004 1005007A 00" 0
    ∷ alone "no handler count: 11" "42504B 0002 001F  05A000000101  00  00  0000  01  00 00 01  60 0001 00 0004 1005007A" 11
    ∷ alone "a handler count in version 1: 11" "42504B 0001 0020  05A000000101  00  00  0000  01  00 00 01  60 0001 00 0004 1005007A 00" 11
    ∷ alone "a handler count behind a method without code: 11" "42504B 0002 001A  05A000000101  00  00  0000  01  00 00 01  00 0001 00 00" 11
    ∷ alone "a method without code, and one with a handler" "42504B 0002 002A  05A000000101  00  00  0000  01  00 00 02  00 0001 00  60 0002 00 0004 1005007A 01 000000020003" 0
    ∷ steps "16 handlers" (write version1 256 (domain full D1 ∷ [])) (load D1 (hex "42504B 0002 0080  05A000000101  00  00  0000  01  00 00 01  60 0001 00 0004 1005007A 10 000000020003 000000020003 000000020003 000000020003 000000020003 000000020003 000000020003 000000020003 000000020003 000000020003 000000020003 000000020003 000000020003 000000020003 000000020003 000000020003") answers 0 ∷ [])
    ∷ alone "17 handlers: 11" "42504B 0002 0086  05A000000101  00  00  0000  01  00 00 01  60 0001 00 0004 1005007A 11 000000020003 000000020003 000000020003 000000020003 000000020003 000000020003 000000020003 000000020003 000000020003 000000020003 000000020003 000000020003 000000020003 000000020003 000000020003 000000020003 000000020003" 11
    ∷ alone "a handler that is cut off: 11" "42504B 0002 0024  05A000000101  00  00  0000  01  00 00 01  60 0001 00 0004 1005007A 01 00000002" 11
    ∷ []

-- question 24
abbrev edges : List Row
edges =
    alone "all three are starts" "42504B 0002 0026  05A000000101  00  00  0000  01  00 00 01  60 0001 00 0004 1005007A 01 000000020003" 0
    ∷ alone "end at the code's end" "42504B 0002 0026  05A000000101  00  00  0000  01  00 00 01  60 0001 00 0004 1005007A 01 000000040003" 0
    ∷ alone "the last instruction guarded" "42504B 0002 0026  05A000000101  00  00  0000  01  00 00 01  60 0001 00 0004 1005007A 01 000300040000" 0
    ∷ alone "target inside" "42504B 0002 0026  05A000000101  00  00  0000  01  00 00 01  60 0001 00 0004 1005007A 01 000000040002" 0
    ∷ alone "target at the code's end: 24" "42504B 0002 0026  05A000000101  00  00  0000  01  00 00 01  60 0001 00 0004 1005007A 01 000000020004" 24
    ∷ alone "target in an operand: 24" "42504B 0002 0026  05A000000101  00  00  0000  01  00 00 01  60 0001 00 0004 1005007A 01 000000020001" 24
    ∷ alone "target FFFF: 24" "42504B 0002 0026  05A000000101  00  00  0000  01  00 00 01  60 0001 00 0004 1005007A 01 00000002FFFF" 24
    ∷ alone "start equal to end: 24" "42504B 0002 0026  05A000000101  00  00  0000  01  00 00 01  60 0001 00 0004 1005007A 01 000200020003" 24
    ∷ alone "start above end: 24" "42504B 0002 0026  05A000000101  00  00  0000  01  00 00 01  60 0001 00 0004 1005007A 01 000300020000" 24
    ∷ alone "start in an operand: 24" "42504B 0002 0026  05A000000101  00  00  0000  01  00 00 01  60 0001 00 0004 1005007A 01 000100020000" 24
    ∷ alone "start and end at the code's end: 24" "42504B 0002 0026  05A000000101  00  00  0000  01  00 00 01  60 0001 00 0004 1005007A 01 000400040000" 24
    ∷ alone "end in an operand: 24" "42504B 0002 0026  05A000000101  00  00  0000  01  00 00 01  60 0001 00 0004 1005007A 01 000000010000" 24
    ∷ alone "end past the code's end: 24" "42504B 0002 0026  05A000000101  00  00  0000  01  00 00 01  60 0001 00 0004 1005007A 01 000000050000" 24
    ∷ alone "end FFFF: 24" "42504B 0002 0026  05A000000101  00  00  0000  01  00 00 01  60 0001 00 0004 1005007A 01 0000FFFF0000" 24
    ∷ alone "handlers overlap, repeat and come in any order" "42504B 0002 0038  05A000000101  00  00  0000  01  00 00 01  60 0001 00 0004 1005007A 04 000200040000 000000030003 000000030003 000200030002" 0
    ∷ alone "the last of three handlers: 24" "42504B 0002 0032  05A000000101  00  00  0000  01  00 00 01  60 0001 00 0004 1005007A 03 000000020003 000000040003 000000020004" 24
    ∷ alone "a code of one byte" "42504B 0002 0023  05A000000101  00  00  0000  01  00 00 01  60 0001 00 0001 7A 01 000000010000" 0
    ∷ alone "the offsets of another method's code: 24" "42504B 0002 0034  05A000000101  00  00  0000  01  00 00 02  60 0001 00 0004 1005007A 01 000000020003  60 0002 00 0001 7A 01 000000020003" 24
    ∷ alone "the second class's handler: 24" "42504B 0002 003A  05A000000101  00  00  0000  02  00 00 01  60 0001 00 0004 1005007A 01 000000020003  00 00 01  60 0001 00 0004 1005007A 01 000000020004" 24
    ∷ []

-- each question of the whole file before the next
abbrev turns : List Row
turns =
    alone "16 before 24, in codes of two methods" "42504B 0002 002E  05A000000101  00  00  0000  01  00 00 02  60 0001 00 0004 1005007A 01 000000020004  60 0002 00 0001 00 00" 16
    ∷ alone "17 before 24, in codes of two methods" "42504B 0002 002F  05A000000101  00  00  0000  01  00 00 02  60 0001 00 0004 1005007A 01 000000020004  60 0002 00 0002 7001 00" 17
    ∷ alone "17 before 24, in codes of two classes" "42504B 0002 0032  05A000000101  00  00  0000  02  00 00 01  60 0001 00 0004 1005007A 01 000000020004  00 00 01  60 0001 00 0002 7001 00" 17
    ∷ alone "24 before 18, in codes of two methods" "42504B 0002 0031  05A000000101  00  00  0000  01  00 00 02  60 0001 00 0004 8D00007A 00  60 0002 00 0004 1005007A 01 000000020004" 24
    ∷ alone "24 before 18, in one code" "42504B 0002 0026  05A000000101  00  00  0000  01  00 00 01  60 0001 00 0004 8D00007A 01 000000040004" 24
    ∷ alone "24 before 19" "42504B 0002 0035  05A000000101  00  00  0001 00000002  01  00 00 02  60 0001 00 0004 8D00007A 00  60 0002 00 0004 1005007A 01 000000020004" 24
    ∷ []

-- a call inside a handler is a call of its method: questions 18 and 19
abbrev guarded : List Row
guarded =
    alone "a call that a handler guards: 19" "42504B 0002 0032  05A000000101  00  00  0001 00000002  01  00 00 02  60 0001 00 0004 8D00007A 01 000000030003  60 0002 00 0001 7A 00" 19
    ∷ alone "a call at a handler's target: 19" "42504B 0002 0033  05A000000101  00  00  0001 00000002  01  00 00 02  60 0001 00 0005 7A8D00007A 01 000000010001  60 0002 00 0001 7A 00" 19
    ∷ alone "a call at a handler's target that names nothing: 18" "42504B 0002 0027  05A000000101  00  00  0000  01  00 00 01  60 0001 00 0005 7A8D00007A 01 000000010001" 18
    ∷ []

-- files of both versions in one store, and soundness
abbrev together : List Row
together =
    steps "version 2 imports version 1" (write version1 256 (domain full D1 ∷ [])) (load D1 (hex "42504B 0001 001C  05A000000101  00  00  0000  01  00 00 01  E0 0001 FF 0001 7A") answers 0 ∷ load D1 (hex "42504B 0002 0030  05A000000102  00  01 05A000000101  0001 01000001  01  00 00 01  60 0001 00 0004 8D00007A 01 000000040003") answers 0 ∷ query D2 P1 0 1 says 0 yes true ∷ remove P2 answers 0 ∷ [])
    ∷ steps "version 1 imports version 2" (write version1 256 (domain full D1 ∷ [])) (load D1 (hex "42504B 0002 0024  05A000000101  00  00  0000  01  00 00 01  E0 0001 FF 0002 007A 01 000000010001") answers 0 ∷ load D1 (hex "42504B 0001 0029  05A000000102  00  01 05A000000101  0001 01000001  01  00 00 01  60 0001 00 0004 8D00007A") answers 0 ∷ query D2 P1 0 1 says 0 yes true ∷ remove P2 answers 0 ∷ [])
    ∷ steps "a bad handler stored: 2" (write version1 256 (domain full D1 ∷ loaded D1 (hex "42504B 0002 0026  05A000000101  00  00  0000  01  00 00 01  60 0001 00 0004 1005007A 01 000000020004") ∷ [])) (create full D2 answers 2 ∷ [])
    ∷ steps "a good handler stored" (write version1 256 (domain full D1 ∷ loaded D1 (hex "42504B 0002 0026  05A000000101  00  00  0000  01  00 00 01  60 0001 00 0004 1005007A 01 000000020003") ∷ [])) (create full D2 answers 0 ∷ [])
    ∷ steps "a stored file of version 3: 2" (write version1 256 (domain full D1 ∷ loaded D1 (hex "42504B 0003 0012  05A000000101  00  00  0000  00") ∷ [])) (create full D2 answers 2 ∷ [])
    ∷ []

-- P1, version 1: visible static 1 allowing FF, and 2 allowing D2 and FE
abbrev library : Bytes
library = hex "42504B 0001 002B  05A000000101  01 05A0000000D2  00  0000  01  00 00 02  E0 0001 FF 0001 7A  E0 0002 0200FE 0001 7A"

-- P2, version 2: its code calls P1's 1 at offset 0, which a handler guards, and P1's 2 at offset 4, that handler's target
abbrev guarding : Bytes
guarding = hex "42504B 0002 0038  05A000000102  00  01 05A000000101  0002 01000001 01000002  01  00 00 01  60 0001 00 0008 8D00007A8D00017A 01 000000030004"

-- the calls that install them in two domains, and the ledger after these (proofs/WitnessHandlers)
abbrev pub installing_handlers : List Operation
installing_handlers = create full D1 ∷ create full D2 ∷ load D1 library ∷ load D2 guarding ∷ []

abbrev pub handler_packages : List Entry
handler_packages = domain full D1 ∷ domain full D2 ∷ loaded D1 library ∷ loaded D2 guarding ∷ []

-- the rows of this file
abbrev pub handlers : List Row
handlers = reading_handlers ++ edges ++ turns ++ guarded ++ together
