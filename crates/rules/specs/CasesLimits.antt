-- Rows of the table of cases: every limit of the package file at its value and one past it. Assumes nothing.
use Rattle.std.specs.Prelude.{List, [], ◌∷◌, ◌++◌}
use Rattle.rules.specs.Bytes.{Bytes}
use Rattle.rules.specs.Store.{version1, full, domain, loaded, write}
use Rattle.rules.specs.Operations.{load}
use Rattle.rules.specs.CasesForm.{hex, times, ◌answers◌, Row, steps}
use Rattle.rules.specs.CasesFiles.{D1, bare, alone}

-- a store of 256 bytes where D1 is created
abbrev roomy : Bytes
roomy = write version1 256 (domain full D1 ∷ [])

-- one where P1 lies in D1 too
abbrev with_bare : Bytes
with_bare = write version1 256 (domain full D1 ∷ loaded D1 bare ∷ [])

-- the rows of this file
abbrev pub limits : List Row
limits =
    steps "32 domains" roomy (load D1 (hex "42504B 0001 00D2  05A000000101  20" ++ times 32 (hex "05A0000000D1") ++ hex "00  0000  00") answers 0 ∷ [])
    ∷ steps "33 domains: 11" roomy (load D1 (hex "42504B 0001 00D8  05A000000101  21" ++ times 33 (hex "05A0000000D1") ++ hex "00  0000  00") answers 11 ∷ [])
    ∷ steps "15 imports" with_bare (load D1 (hex "42504B 0001 006C  05A000000102  00  0F" ++ times 15 (hex "05A000000101") ++ hex "0000  00") answers 0 ∷ [])
    ∷ steps "16 imports: 11" with_bare (load D1 (hex "42504B 0001 0072  05A000000102  00  10" ++ times 16 (hex "05A000000101") ++ hex "0000  00") answers 11 ∷ [])
    ∷ steps "1,024 references, too many for this store alone: 21" roomy (load D1 (hex "42504B 0001 1012  05A000000101  00  00  0400" ++ times 1024 (hex "00000000") ++ hex "00") answers 21 ∷ [])
    ∷ steps "1,025 references: 11" roomy (load D1 (hex "42504B 0001 1016  05A000000101  00  00  0401" ++ times 1025 (hex "00000000") ++ hex "00") answers 11 ∷ [])
    ∷ steps "32 classes" roomy (load D1 (hex "42504B 0001 0072  05A000000101  00  00  0000  20" ++ times 32 (hex "00 00 00")) answers 0 ∷ [])
    ∷ steps "33 classes: 11" roomy (load D1 (hex "42504B 0001 0075  05A000000101  00  00  0000  21" ++ times 33 (hex "00 00 00")) answers 11 ∷ [])
    ∷ steps "64 methods, which 11 takes, of one name: 15" roomy (load D1 (hex "42504B 0001 0115  05A000000101  00  00  0000  01  00 00 40" ++ times 64 (hex "00 0001 00")) answers 15 ∷ [])
    ∷ steps "65 methods: 11" roomy (load D1 (hex "42504B 0001 0119  05A000000101  00  00  0000  01  00 00 41" ++ times 65 (hex "00 0001 00")) answers 11 ∷ [])
    ∷ alone "4 parents" "42504B 0001 0020  05A000000101  00  00  0000  02  01 00 00  00 04 0000 0000 0000 0000 00" 0
    ∷ alone "5 parents: 11" "42504B 0001 0022  05A000000101  00  00  0000  02  01 00 00  00 05 0000 0000 0000 0000 0000 00" 11
    ∷ alone "32 indexes" "42504B 0001 0042  05A000000101  01 05A0000000D1  00  0000  01  00 00 01  60 0001 200000000000000000000000000000000000000000000000000000000000000000 0001 7A" 0
    ∷ alone "33 indexes: 11" "42504B 0001 0043  05A000000101  01 05A0000000D1  00  0000  01  00 00 01  60 0001 21000000000000000000000000000000000000000000000000000000000000000000 0001 7A" 11
    ∷ alone "the last index below the domain count" "42504B 0001 0029  05A000000101  02 05A0000000D1 05A0000000D2  00  0000  01  00 00 01  60 0001 0101 0001 7A" 0
    ∷ alone "an index at the domain count: 11" "42504B 0001 0029  05A000000101  02 05A0000000D1 05A0000000D2  00  0000  01  00 00 01  60 0001 0102 0001 7A" 11
    ∷ alone "FE alone: 11" "42504B 0001 0022  05A000000101  01 05A0000000D1  00  0000  01  00 00 01  60 0001 FE 0001 7A" 11
    ∷ alone "a package AID of 4 bytes: 11" "42504B 0001 0011  04A0000001  00  00  0000  00" 11
    ∷ alone "a package AID of 16 bytes" "42504B 0001 001D  10A0A0A0A0A0A0A0A0A0A0A0A0A0A0A0A0  00  00  0000  00" 0
    ∷ alone "a package AID of 17 bytes: 11" "42504B 0001 001E  11A0A0A0A0A0A0A0A0A0A0A0A0A0A0A0A0A0  00  00  0000  00" 11
    ∷ alone "a domain of 4 bytes in the list: 11" "42504B 0001 0017  05A000000101  01 04A00000D1  00  0000  00" 11
    ∷ alone "a domain of 16 bytes in the list" "42504B 0001 0023  05A000000101  01 10A0A0A0A0A0A0A0A0A0A0A0A0A0A0A0A0  00  0000  00" 0
    ∷ alone "a domain of 17 bytes in the list: 11" "42504B 0001 0024  05A000000101  01 11A0A0A0A0A0A0A0A0A0A0A0A0A0A0A0A0A0  00  0000  00" 11
    ∷ alone "an import of 17 bytes: 11, not 13" "42504B 0001 0024  05A000000101  00  01 11A0A0A0A0A0A0A0A0A0A0A0A0A0A0A0A0A0  0000  00" 11
    ∷ alone "an import of 16 bytes that is not installed: 13" "42504B 0001 0023  05A000000101  00  01 10A0A0A0A0A0A0A0A0A0A0A0A0A0A0A0A0  0000  00" 13
    ∷ alone "spare bit 01: 11" "42504B 0001 001C  05A000000101  00  00  0000  01  00 00 01  61 0001 00 0001 7A" 11
    ∷ alone "spare bit 10: 11" "42504B 0001 001C  05A000000101  00  00  0000  01  00 00 01  70 0001 00 0001 7A" 11
    ∷ alone "size one too large: 11" "42504B 0001 0013  05A000000101  00  00  0000  00" 11
    ∷ alone "size one too small: 11" "42504B 0001 0011  05A000000101  00  00  0000  00" 11
    ∷ []
