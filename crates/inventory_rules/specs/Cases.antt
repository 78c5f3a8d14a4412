-- Rows of the inventory (request 1 of document 02): what is printed of a store, figures and digits, and the bytes of a store by what they are; no row
-- fails. Assumes nothing.
use Rattle.std.specs.Prelude.{ℕ, zero, suc, ◌+◌, ◌*◌, ◌≡◌, refl, List, [], ◌∷◌, ◌++◌, length, replicate}
use Rattle.rules.specs.Bytes.{Bytes, Aid, high, low}
use Rattle.rules.specs.Store.{Opening, version1, full, without_int, domain, loaded, write}
use Rattle.rules.specs.Operations.{Operation, create, delete, load, remove}
use Rattle.rules.specs.CasesForm.{hex, times, buffer}
use Rattle.rules.specs.CasesFiles.{D1, D2, P1, P2, bare, importer, library}
use Rattle.rules.specs.CasesOpening.{limited, nine}
use Rattle.inventory_rules.specs.CasesForm.{PageRow, prints, grown, adds, figure, digits, failing_pages}

-- P2 with no class and no imports: 18 bytes
abbrev bare2 : Bytes
bare2 = hex "42504B 0001 0012  05A000000102  00  00  0000  00"

-- AIDs of 16 bytes: each hex digit high and low; 00, 0A and FF, each hex digit
abbrev each_digit : Aid
each_digit = hex "00112233445566778899AABBCCDDEEFF"

abbrev with_newline : Aid
with_newline = hex "000AFF0123456789ABCDEFFEDCBA0A00"

-- a package with the first of these and no class: 29 bytes
abbrev long_aid : Bytes
long_aid = hex "42504B 0001 001D  10" ++ each_digit ++ hex "00  00  0000  00"

-- P1 in version 2: one visible static method with a handler
abbrev handled : Bytes
handled = hex "42504B 0002 0024  05A000000101  00  00  0000  01  00 00 01  E0 0001 FF 0002 007A 01 000000010001"

-- a package with an AID, no class and n references that no code uses: 13 + 4 n bytes and those of the AID
abbrev referring : Aid → ℕ → Bytes
referring a n = hex "42504B 0001" ++ high (13 + length a + 4 * n) ∷ low (13 + length a + 4 * n) ∷ length a ∷ a ++ hex "00  00"
    ++ high n ∷ low n ∷ times n (hex "00000001") ++ hex "00"

-- visible unimplemented methods with the names 1 to n, each allowing every domain
abbrev unimplemented : ℕ → Bytes
unimplemented zero = []
unimplemented (suc n) = 0x80 ∷ 0x00 ∷ suc n ∷ 0xFF ∷ unimplemented n

-- P1 with an interface of n methods, 21 + 4 n bytes; with two of 64 each, 536 bytes
abbrev interface : ℕ → Bytes
interface n = hex "01 00" ++ n ∷ unimplemented n

abbrev ten_methods : Bytes
ten_methods = hex "42504B 0001 003D  05A000000101  00  00  0000  01" ++ interface 10

abbrev many_methods : Bytes
many_methods = hex "42504B 0001 0218  05A000000101  00  00  0000  02" ++ interface 64 ++ interface 64

-- P1 with an interface of one method and a class that lists it five times as a parent
abbrev five_parents : Bytes
five_parents = hex "42504B 0001 0026  05A000000101  00  00  0000  02  01 00 01  80 0001 FF  00 05 0000 0000 0000 0000 0000 00"

-- a store of n bytes with D1 and a file loaded there
abbrev in_d1 : Opening → ℕ → Bytes → Bytes
in_d1 v n f = write v n (domain full D1 ∷ loaded D1 f ∷ [])

-- a store that fails 1 or 2 prints only that number
abbrev refused_rows : List PageRow
refused_rows =
    prints "no bytes: 1" [] "1\n"
    ∷ prints "63 bytes: 1" (write version1 63 []) "1\n"
    ∷ prints "65,536 bytes: 1" (write version1 65536 []) "1\n"
    ∷ prints "a damaged mark: 2" (buffer 64 (hex "424354 0001 0007")) "2\n"
    ∷ prints "64 zeros: 2" (replicate 64 0) "2\n"
    ∷ prints "store version 3: 2" (buffer 64 (hex "424353 0003 0007")) "2\n"
    ∷ prints "a byte after used: 2" (buffer 64 (hex "424353 0001 0007 01")) "2\n"
    ∷ prints "a limit out of its range: 2" (buffer 64 (hex "424353 0002 000B 00 04 1000")) "2\n"
    ∷ prints "a package in a domain that is not created: 2" (write version1 128 (domain full D2 ∷ loaded D1 bare ∷ [])) "2\n"
    ∷ prints "a file that does not read: 2" (in_d1 version1 128 (hex "42504B 0001 0012  05A000000101  00  00  0000  01")) "2\n"
    ∷ prints "nine deep in a store of version 1: 2" (in_d1 version1 256 nine) "2\n"
    ∷ []

-- no package: no line but the totals
abbrev empty_rows : List PageRow
empty_rows =
    prints "64 bytes, fresh" (write version1 64 []) "0 0 0\n"
    ∷ prints "64 bytes, fresh, version 2" (write (limited 1 1 1) 64 []) "0 0 0\n"
    ∷ prints "65,535 bytes, fresh" (write version1 65535 []) "0 0 0\n"
    ∷ prints "domains of both kinds alone" (write version1 64 (domain full D1 ∷ domain without_int D2 ∷ [])) "0 0 0\n"
    ∷ []

-- a line for each package, in store order
abbrev line_rows : List PageRow
line_rows =
    prints "a package without classes" (in_d1 version1 64 bare) "A000000101 A0000000D1 18 0\n1 18 0\n"
    ∷ prints "methods of two classes, unimplemented ones too" (in_d1 version1 128 library) "A000000101 A0000000D1 61 5\n1 61 5\n"
    ∷ prints "a package in a kind-3 domain" (write version1 64 (domain without_int D2 ∷ loaded D2 bare ∷ [])) "A000000101 A0000000D2 18 0\n1 18 0\n"
    ∷ prints "store order, not that of AIDs" (write version1 128 (domain full D1 ∷ domain without_int D2 ∷ loaded D2 bare2 ∷ loaded D1 bare ∷ []))
    "A000000102 A0000000D2 18 0\nA000000101 A0000000D1 18 0\n2 36 0\n"
    ∷ prints "a domain between two packages" (write version1 128 (domain full D1 ∷ loaded D1 library ∷ domain full D2 ∷ loaded D2 importer ∷ []))
    "A000000101 A0000000D1 61 5\nA000000102 A0000000D2 24 0\n2 85 5\n"
    ∷ prints "AIDs of 16 bytes: each hex digit, 00, 0A and FF" (write version1 128 (domain full with_newline ∷ loaded with_newline long_aid ∷ []))
    "00112233445566778899AABBCCDDEEFF 000AFF0123456789ABCDEFFEDCBA0A00 29 0\n1 29 0\n"
    ∷ prints "a domain and a package of one AID" (write version1 64 (domain full P1 ∷ loaded P1 bare ∷ [])) "A000000101 A000000101 18 0\n1 18 0\n"
    ∷ prints "a file of version 2 with a handler" (in_d1 version1 128 handled) "A000000101 A0000000D1 36 1\n1 36 1\n"
    ∷ prints "ten methods" (in_d1 version1 128 ten_methods) "A000000101 A0000000D1 61 10\n1 61 10\n"
    ∷ prints "128 methods in two classes" (in_d1 version1 1024 many_methods) "A000000101 A0000000D1 536 128\n1 536 128\n"
    ∷ prints "a file of 99 bytes" (in_d1 version1 128 (referring (hex "A00000010101") 20)) "A00000010101 A0000000D1 99 0\n1 99 0\n"
    ∷ prints "a file of 100 bytes" (in_d1 version1 128 (referring (hex "A0000001010101") 20)) "A0000001010101 A0000000D1 100 0\n1 100 0\n"
    ∷ prints "a file of 999 bytes" (in_d1 version1 1024 (referring (hex "A00000010101") 245)) "A00000010101 A0000000D1 999 0\n1 999 0\n"
    ∷ prints "a file of 1,000 bytes" (in_d1 version1 1024 (referring (hex "A0000001010101") 245)) "A0000001010101 A0000000D1 1000 0\n1 1000 0\n"
    ∷ prints "nine deep, within the store's limits" (in_d1 (limited 16 8 32767) 256 nine) "A000000101 A0000000D1 61 0\n1 61 0\n"
    ∷ prints "five parents, within the store's limits" (in_d1 (limited 8 5 1) 256 five_parents) "A000000101 A0000000D1 38 1\n1 38 1\n"
    ∷ []

-- totals of the files accepted and not since removed
abbrev grown_rows : List PageRow
grown_rows =
    grown "removed and loaded again: another order" version1 128 (
    (create full D1, 0)
    ∷ (load D1 bare, 0)
    ∷ (load D1 bare2, 0)
    ∷ (remove P1, 0)
    ∷ (load D1 bare, 0)
    ∷ []) "A000000102 A0000000D1 18 0\nA000000101 A0000000D1 18 0\n2 36 0\n"
    ∷ grown "the second of two removed" version1 128 ((create full D1, 0) ∷ (load D1 bare, 0) ∷ (load D1 bare2, 0) ∷ (remove P2, 0) ∷ [])
    "A000000101 A0000000D1 18 0\n1 18 0\n"
    ∷ grown "refused loads and removals, version 2" (limited 8 4 4096) 256 (
    (load D1 bare, 5)
    ∷ (create full D1, 0)
    ∷ (create without_int D2, 0)
    ∷ (load D1 library, 0)
    ∷ (load D2 bare, 12)
    ∷ (load D2 importer, 0)
    ∷ (remove P1, 8)
    ∷ (delete D2, 6)
    ∷ []) "A000000101 A0000000D1 61 5\nA000000102 A0000000D2 24 0\n2 85 5\n"
    ∷ grown "all removed" version1 128 ((create full D1, 0) ∷ (load D1 library, 0) ∷ (remove P2, 7) ∷ (remove P1, 0) ∷ (delete D1, 0) ∷ []) "0 0 0\n"
    ∷ []

-- the bytes of a store: opening bytes, headings, domain entries, file bytes
abbrev used_rows : List PageRow
used_rows =
    adds "an empty store" (write version1 64 []) 7 (7 ∷ 0 ∷ 0 ∷ 0 ∷ [])
    ∷ adds "an empty store of version 2" (write (limited 1 1 1) 64 []) 11 (11 ∷ 0 ∷ 0 ∷ 0 ∷ [])
    ∷ adds "domains of both kinds and two packages" (write version1 256 (domain full D1 ∷ domain without_int D2 ∷ loaded D1 library ∷ loaded D2 importer ∷ []))
    126 (7 ∷ 18 ∷ 16 ∷ 85 ∷ [])
    ∷ adds "AIDs of 16 bytes, version 2" (write (limited 1 1 1) 128 (domain full with_newline ∷ loaded with_newline long_aid ∷ [])) 79 (11 ∷ 20 ∷ 19 ∷ 29 ∷ [])
    ∷ []

-- figures and digits
abbrev text_rows : List PageRow
text_rows =
    figure "0" 0
    ∷ figure "9" 9
    ∷ figure "10" 10
    ∷ figure "99" 99
    ∷ figure "100" 100
    ∷ figure "65535" 65535
    ∷ figure "99999999999999999999" 99999999999999999999
    ∷ digits "" []
    ∷ digits "00010A0F" (0 ∷ 1 ∷ 10 ∷ 15 ∷ [])
    ∷ digits "10A0F0FF" (16 ∷ 160 ∷ 240 ∷ 255 ∷ [])
    ∷ digits "0123456789ABCDEF" (1 ∷ 35 ∷ 69 ∷ 103 ∷ 137 ∷ 171 ∷ 205 ∷ 239 ∷ [])
    ∷ []

-- calls from a fresh store on with their answers: domains of both kinds, the library, a load that is refused, a second package, a removal that
-- is refused and one that is not, the package loaded again, a deletion (proofs/Witness)
abbrev pub growing : List Operation
growing = create full D1 ∷ create without_int D2 ∷ load D1 library ∷ load D2 bare ∷ load D2 importer ∷ remove P1 ∷ remove P2 ∷ load D1 importer ∷ delete D2 ∷ []

abbrev pub growing_answers : List ℕ
growing_answers = 0 ∷ 0 ∷ 0 ∷ 12 ∷ 0 ∷ 8 ∷ 0 ∷ 0 ∷ 0 ∷ []

abbrev pub page_rows : List PageRow
page_rows = refused_rows ++ empty_rows ++ line_rows ++ grown_rows ++ used_rows ++ text_rows

pub pages_hold : failing_pages page_rows ≡ []
unfolding failing_pages
pages_hold = refl
