-- Rows of the table of cases: store version 2 and its limits (request 12 of document 02). Assumes nothing.
use Rattle.std.specs.Prelude.{ℕ, true, false, List, [], ◌∷◌, ◌++◌, replicate}
use Prim.Native.String.{String}
use Rattle.rules.specs.Bytes.{Bytes}
use Rattle.rules.specs.Store.{Opening, version1, version2, full, domain, loaded, write}
use Rattle.rules.specs.Operations.{create, delete, load, remove}
use Rattle.rules.specs.CasesForm.{hex, buffer, query, fresh, fresh_limits, ◌answers◌, ◌gives◌used◌, ◌says◌yes◌, depth, holds, Row, steps}
use Rattle.rules.specs.CasesFiles.{D1, D2, P1, library}

-- version 2 with these limits: depth, parents, code length
abbrev pub limited : ℕ → ℕ → ℕ → Opening
limited d p c = version2 (record { depth = d; parents = p; code = c })

-- a store of 256 bytes that opens so, where D1 is created
abbrev pub series : Opening → Bytes
series v = write v 256 (domain full D1 ∷ [])

-- a file loaded in D1 there, by its number
abbrev in_series : String → Opening → String → ℕ → Row
in_series name v t k = steps name (series v) (load D1 (hex t) answers k ∷ [])

-- the same by its number and figure
abbrev deep_in : String → Opening → String → ℕ → ℕ → Row
deep_in name v t k d = steps name (series v) (depth D1 (hex t) d ∷ load D1 (hex t) answers k ∷ [])

-- a fresh call on 64 bytes of FF is refused with 30 and writes nothing
abbrev out_of_range : String → ℕ → ℕ → ℕ → Row
out_of_range name d p c = steps name (replicate 64 0xFF) (fresh_limits d p c 30 ∷ holds (replicate 64 0xFF) ∷ [])

-- a buffer of 64 bytes that opens with these is not sound; the two fresh calls take it
abbrev bad_store : String → String → Row
bad_store name t = steps name (buffer 64 (hex t)) (
    create full D1 answers 2
    ∷ query D1 P1 0 0x0001 says 2 yes false
    ∷ holds (hex t)
    ∷ fresh_limits 8 4 4096 0
    ∷ create full D1 answers 0
    ∷ fresh 0
    ∷ holds (hex "424353 0001 0007")
    ∷ [])

-- the second fresh call
abbrev fresh_rows : List Row
fresh_rows =
    steps "limits 1, 1 and 1" (replicate 64 0xFF) (fresh_limits 1 1 1 0 ∷ holds (hex "424353 0002 000B 01 01 0001") ∷ [])
    ∷ steps "limits 16, 8 and 32,767" (replicate 64 0xFF) (fresh_limits 16 8 32767 0 ∷ holds (hex "424353 0002 000B 10 08 7FFF") ∷ [])
    ∷ steps "65,535 bytes, limits of document 01" (replicate 65535 0xFF) (fresh_limits 8 4 4096 0 ∷ [])
    ∷ out_of_range "depth 0: 30" 0 4 4096
    ∷ out_of_range "depth 17: 30" 17 4 4096
    ∷ out_of_range "no parents: 30" 8 0 4096
    ∷ out_of_range "9 parents: 30" 8 9 4096
    ∷ out_of_range "code length 0: 30" 8 4 0
    ∷ out_of_range "code length 32,768: 30" 8 4 32768
    ∷ steps "63 bytes and depth 0: 1" (replicate 63 0xFF) (fresh_limits 0 4 4096 1 ∷ holds (replicate 63 0xFF) ∷ [])
    ∷ steps "65,536 bytes and depth 17: 1" (replicate 65536 0xFF) (fresh_limits 17 4 4096 1 ∷ [])
    ∷ steps "one fresh call after the other" (replicate 64 0) (
    fresh_limits 2 1 9 0 ∷ create full D1 answers 0 ∷ fresh 0 ∷ holds (hex "424353 0001 0007") ∷ fresh_limits 2 1 9 0 ∷ holds (hex "424353 0002 000B 02 01 0009") ∷ [])
    ∷ []

-- what a store of version 2 must open with
abbrev stored_rows : List Row
stored_rows =
    bad_store "used 10 in version 2: 2" "424353 0002 000A 08 04 1000"
    ∷ bad_store "used 7 in version 2: 2" "424353 0002 0007 08 04 1000"
    ∷ bad_store "a stored depth of 0: 2" "424353 0002 000B 00 04 1000"
    ∷ bad_store "a stored depth of 17: 2" "424353 0002 000B 11 04 1000"
    ∷ bad_store "a stored parent limit of 0: 2" "424353 0002 000B 08 00 1000"
    ∷ bad_store "a stored parent limit of 9: 2" "424353 0002 000B 08 09 1000"
    ∷ bad_store "a stored code length of 0: 2" "424353 0002 000B 08 04 0000"
    ∷ bad_store "a stored code length of 32,768: 2" "424353 0002 000B 08 04 8000"
    ∷ bad_store "version 3: 2" "424353 0003 000B 08 04 1000"
    ∷ bad_store "version 0102: 2" "424353 0102 000B 08 04 1000"
    ∷ bad_store "version 0201: 2" "424353 0201 000B 08 04 1000"
    ∷ bad_store "limits behind a version-1 opening: 2" "424353 0001 000B 08 04 1000"
    ∷ bad_store "a byte after used in version 2: 2" "424353 0002 000B 08 04 1000 01"
    ∷ steps "a version-2 store by its bytes" (buffer 64 (hex "424353 0002 000B 08 04 1000")) (create full D1 gives 0 used 19 ∷ holds (hex "424353 0002 0013 08 04 1000  01 0005 A0000000D1") ∷ [])
    ∷ []

-- calls on a store of version 2: entries stand from byte 11, and every call leaves the limits
abbrev call_rows : List Row
call_rows =
    steps "used counts eleven opening bytes" (write (limited 8 4 4096) 64 []) (
    create full (replicate 16 0xA0) gives 0 used 30
    ∷ create full (replicate 16 0xA1) gives 0 used 49
    ∷ create full (replicate 13 0xA2) gives 21 used 49
    ∷ create full (replicate 12 0xA2) gives 0 used 64
    ∷ delete (replicate 16 0xA0) gives 0 used 45
    ∷ [])
    ∷ steps "creation, load, query, removal, deletion" (write (limited 3 2 0x0304) 128 []) (
    create full D2 gives 0 used 19
    ∷ create full D1 gives 0 used 27
    ∷ load D1 library gives 0 used 97
    ∷ query D1 P1 0 0x0001 says 0 yes true
    ∷ query D2 P1 0 0x0001 says 0 yes false
    ∷ delete D2 gives 0 used 89
    ∷ delete D1 gives 6 used 89
    ∷ remove P1 gives 0 used 19
    ∷ holds (hex "424353 0002 0013 03 02 0304  01 0005 A0000000D1")
    ∷ delete D1 gives 0 used 11
    ∷ holds (hex "424353 0002 000B 03 02 0304")
    ∷ [])
    ∷ []

-- question 14 reads the depth limit of the store
abbrev depth_rows : List Row
depth_rows =
    deep_in "depth 1 within 1" (limited 1 1 1) "42504B 0001 0015  05A000000101  00  00  0000  01  00 00 00" 0 1
    ∷ deep_in "depth 2 within 1: 14" (limited 1 1 1) "42504B 0001 001A  05A000000101  00  00  0000  02  00 00 00  00 01 0000 00" 14 0
    ∷ deep_in "depth 8 within 8" (limited 8 4 4096) "42504B 0001 0038  05A000000101  00  00  0000  08  00 00 00  00 01 0000 00  00 01 0001 00  00 01 0002 00  00 01 0003 00  00 01 0004 00  00 01 0005 00  00 01 0006 00" 0 8
    ∷ deep_in "depth 9 within 8: 14" (limited 8 4 4096) "42504B 0001 003D  05A000000101  00  00  0000  09  00 00 00  00 01 0000 00  00 01 0001 00  00 01 0002 00  00 01 0003 00  00 01 0004 00  00 01 0005 00  00 01 0006 00  00 01 0007 00" 14 0
    ∷ deep_in "depth 9 within 9" (limited 9 1 1) "42504B 0001 003D  05A000000101  00  00  0000  09  00 00 00  00 01 0000 00  00 01 0001 00  00 01 0002 00  00 01 0003 00  00 01 0004 00  00 01 0005 00  00 01 0006 00  00 01 0007 00" 0 9
    ∷ deep_in "depth 10 within 9: 14" (limited 9 1 1) "42504B 0001 0042  05A000000101  00  00  0000  0A  00 00 00  00 01 0000 00  00 01 0001 00  00 01 0002 00  00 01 0003 00  00 01 0004 00  00 01 0005 00  00 01 0006 00  00 01 0007 00  00 01 0008 00" 14 0
    ∷ deep_in "depth 16 within 16" (limited 16 8 32767) "42504B 0001 0060  05A000000101  00  00  0000  10  00 00 00  00 01 0000 00  00 01 0001 00  00 01 0002 00  00 01 0003 00  00 01 0004 00  00 01 0005 00  00 01 0006 00  00 01 0007 00  00 01 0008 00  00 01 0009 00  00 01 000A 00  00 01 000B 00  00 01 000C 00  00 01 000D 00  00 01 000E 00" 0 16
    ∷ deep_in "depth 17 within 16: 14" (limited 16 8 32767) "42504B 0001 0065  05A000000101  00  00  0000  11  00 00 00  00 01 0000 00  00 01 0001 00  00 01 0002 00  00 01 0003 00  00 01 0004 00  00 01 0005 00  00 01 0006 00  00 01 0007 00  00 01 0008 00  00 01 0009 00  00 01 000A 00  00 01 000B 00  00 01 000C 00  00 01 000D 00  00 01 000E 00  00 01 000F 00" 14 0
    ∷ deep_in "depth 9 in a store of version 1: 14" (version1) "42504B 0001 003D  05A000000101  00  00  0000  09  00 00 00  00 01 0000 00  00 01 0001 00  00 01 0002 00  00 01 0003 00  00 01 0004 00  00 01 0005 00  00 01 0006 00  00 01 0007 00" 14 0
    ∷ []

-- question 11 reads the parent limit and the code length of the store, of files of both versions
abbrev reading_rows : List Row
reading_rows =
    in_series "1 parent within 1" (limited 8 1 4096) "42504B 0001 001A  05A000000101  00  00  0000  02  01 00 00  00 01 0000 00" 0
    ∷ in_series "2 parents within 1: 11" (limited 8 1 4096) "42504B 0001 001C  05A000000101  00  00  0000  02  01 00 00  00 02 0000 0000 00" 11
    ∷ in_series "4 parents within 4" (limited 8 4 4096) "42504B 0001 0020  05A000000101  00  00  0000  02  01 00 00  00 04 0000 0000 0000 0000 00" 0
    ∷ in_series "5 parents within 4: 11" (limited 8 4 4096) "42504B 0001 0022  05A000000101  00  00  0000  02  01 00 00  00 05 0000 0000 0000 0000 0000 00" 11
    ∷ in_series "8 parents within 8" (limited 8 8 4096) "42504B 0001 0028  05A000000101  00  00  0000  02  01 00 00  00 08 0000 0000 0000 0000 0000 0000 0000 0000 00" 0
    ∷ in_series "9 parents within 8: 11" (limited 8 8 4096) "42504B 0001 002A  05A000000101  00  00  0000  02  01 00 00  00 09 0000 0000 0000 0000 0000 0000 0000 0000 0000 00" 11
    ∷ in_series "5 parents in a store of version 1: 11" version1 "42504B 0001 0022  05A000000101  00  00  0000  02  01 00 00  00 05 0000 0000 0000 0000 0000 00" 11
    ∷ in_series "a code of 1 byte within 1" (limited 8 4 1) "42504B 0001 001C  05A000000101  00  00  0000  01  00 00 01  60 0001 00 0001 7A" 0
    ∷ in_series "a code of 2 bytes within 1: 11" (limited 8 4 1) "42504B 0001 001D  05A000000101  00  00  0000  01  00 00 01  60 0001 00 0002 7A7A" 11
    ∷ in_series "a code of 2 bytes within 1, file version 2: 11" (limited 8 4 1) "42504B 0002 001E  05A000000101  00  00  0000  01  00 00 01  60 0001 00 0002 7A7A 00" 11
    ∷ in_series "a code of 2 bytes within 2, file version 2" (limited 8 4 2) "42504B 0002 001E  05A000000101  00  00  0000  01  00 00 01  60 0001 00 0002 7A7A 00" 0
    ∷ in_series "a code of 2 bytes within 0100" (limited 8 4 256) "42504B 0001 001D  05A000000101  00  00  0000  01  00 00 01  60 0001 00 0002 7A7A" 0
    ∷ in_series "too many parents and too deep: 11" (limited 2 1 4096) "42504B 0001 0021  05A000000101  00  00  0000  03  00 00 00  00 01 0000 00  00 02 0001 0001 00" 11
    ∷ in_series "parents within the limit and too deep: 14" (limited 2 2 4096) "42504B 0001 0021  05A000000101  00  00  0000  03  00 00 00  00 01 0000 00  00 02 0001 0001 00" 14
    ∷ steps "a code of 4,097 bytes within 4,097: 16" (series (limited 8 4 4097)) (load D1 (hex "42504B 0001 101C  05A000000101  00  00  0000  01  00 00 01  60 0001 00 1001" ++ replicate 4097 0xB9) answers 16 ∷ [])
    ∷ steps "a code of 4,098 bytes within 4,097: 11" (series (limited 8 4 4097)) (load D1 (hex "42504B 0001 101D  05A000000101  00  00  0000  01  00 00 01  60 0001 00 1002" ++ replicate 4098 0xB9) answers 11 ∷ [])
    ∷ steps "a code of 32,767 bytes within 32,767: 16" (series (limited 8 4 32767)) (load D1 (hex "42504B 0001 801A  05A000000101  00  00  0000  01  00 00 01  60 0001 00 7FFF" ++ replicate 32767 0xB9) answers 16 ∷ [])
    ∷ steps "a code of 32,768 bytes: 11" (series (limited 8 4 32767)) (load D1 (hex "42504B 0001 801B  05A000000101  00  00  0000  01  00 00 01  60 0001 00 8000" ++ replicate 32768 0xB9) answers 11 ∷ [])
    ∷ steps "a code of 4,097 bytes in a store of version 1: 11" (series version1) (load D1 (hex "42504B 0001 101C  05A000000101  00  00  0000  01  00 00 01  60 0001 00 1001" ++ replicate 4097 0xB9) answers 11 ∷ [])
    ∷ []

-- the file whose one chain has nine classes
abbrev pub nine : Bytes
nine = hex "42504B 0001 003D  05A000000101  00  00  0000  09  00 00 00  00 01 0000 00  00 01 0001 00  00 01 0002 00  00 01 0003 00  00 01 0004 00  00 01 0005 00  00 01 0006 00  00 01 0007 00"

-- a store of 256 bytes that opens so and holds it
abbrev nine_in : Opening → Bytes
nine_in v = write v 256 (domain full D1 ∷ loaded D1 nine ∷ [])

-- soundness reads the limits of the store
abbrev sound_rows : List Row
sound_rows =
    steps "a stored depth of 9 within 9" (nine_in (limited 9 1 1)) (create full D2 answers 0 ∷ [])
    ∷ steps "a stored depth of 9 within 8: 2" (nine_in (limited 8 4 4096)) (create full D2 answers 2 ∷ [])
    ∷ steps "the same entries in a store of version 1: 2" (nine_in version1) (create full D2 answers 2 ∷ [])
    ∷ steps "a stored class with 5 parents within 5" (write (limited 8 5 1) 256 (domain full D1 ∷ loaded D1 (hex "42504B 0001 0022  05A000000101  00  00  0000  02  01 00 00  00 05 0000 0000 0000 0000 0000 00") ∷ [])) (create full D2 answers 0 ∷ [])
    ∷ steps "a stored class with 5 parents within 4: 2" (write (limited 8 4 1) 256 (domain full D1 ∷ loaded D1 (hex "42504B 0001 0022  05A000000101  00  00  0000  02  01 00 00  00 05 0000 0000 0000 0000 0000 00") ∷ [])) (create full D2 answers 2 ∷ [])
    ∷ steps "a stored code of 2 bytes within 1: 2" (write (limited 8 4 1) 256 (domain full D1 ∷ loaded D1 (hex "42504B 0001 001D  05A000000101  00  00  0000  01  00 00 01  60 0001 00 0002 7A7A") ∷ [])) (create full D2 answers 2 ∷ [])
    ∷ []

-- the rows of this file
abbrev pub openings : List Row
openings = fresh_rows ++ stored_rows ++ call_rows ++ depth_rows ++ reading_rows ++ sound_rows
