-- Rows of the table of cases: question 26, the instructions barred in a domain of kind 3 (request 9 of document 02). Assumes nothing.
use Rattle.std.specs.Prelude.{ℕ, ◌+◌, List, [], ◌∷◌, ◌++◌, length, replicate}
use Prim.Native.String.{String}
use Rattle.rules.specs.Bytes.{Bytes, flat, high, low}
use Rattle.rules.specs.Store.{version1, full, without_int, domain, write}
use Rattle.rules.specs.Operations.{load}
use Rattle.rules.specs.Barred.{barred_opcodes}
use Rattle.rules.specs.CasesForm.{hex, ◌answers◌, Row, steps}
use Rattle.rules.specs.CasesFiles.{D1, D2}

-- P1 with one class and its one static method, which allows none, of this code: 27 bytes and the code
abbrev pub of_code : Bytes → Bytes
of_code c =
    hex "42504B 0001" ++ high (27 + length c) ∷ low (27 + length c) ∷ hex "05A000000101  00  00  0000  01  00 00 01  60 0001 00"
    ++ high (length c) ∷ low (length c) ∷ c

-- a store of 128 bytes where D1, of kind 3, and D2, of kind 1, are created
abbrev pub both_kinds : Bytes
both_kinds = write version1 128 (domain without_int D1 ∷ domain full D2 ∷ [])

-- a code loaded in D1 there
abbrev in_without_int : String → String → ℕ → Row
in_without_int name t k = steps name both_kinds (load D1 (of_code (hex t)) answers k ∷ [])

-- one that D1 takes
abbrev kept : String → String → Row
kept name t = in_without_int name t 0

-- one that D1 refuses with 26 and D2 takes
abbrev barred : String → String → Row
barred name t = steps name both_kinds (load D1 (of_code (hex t)) answers 26 ∷ load D2 (of_code (hex t)) answers 0 ∷ [])

-- a file that D1 refuses, by its number there and then in D2
abbrev in_kinds : String → String → ℕ → ℕ → Row
in_kinds name t k h = steps name both_kinds (load D1 (hex t) answers k ∷ load D2 (hex t) answers h ∷ [])

-- both sides of every edge, up to the even opcodes 42 to 58
abbrev edges_below : List Row
edges_below =
    kept "opcode 08" "08 7A"
    ∷ barred "opcode 09: 26" "09 7A"
    ∷ barred "opcode 0C: 26" "0C 7A"
    ∷ barred "opcode 0F: 26" "0F 7A"
    ∷ kept "opcode 10" "10 00 7A"
    ∷ kept "opcode 11" "11 0000 7A"
    ∷ barred "opcode 12: 26" "12 00 7A"
    ∷ barred "opcode 13: 26" "13 0000 7A"
    ∷ barred "opcode 14: 26" "14 00000000 7A"
    ∷ kept "opcode 15" "15 00 7A"
    ∷ kept "opcode 16" "16 00 7A"
    ∷ barred "opcode 17: 26" "17 00 7A"
    ∷ kept "opcode 18" "18 7A"
    ∷ kept "opcode 1F" "1F 7A"
    ∷ barred "opcode 20: 26" "20 7A"
    ∷ barred "opcode 23: 26" "23 7A"
    ∷ kept "opcode 24" "24 7A"
    ∷ kept "opcode 26" "26 7A"
    ∷ barred "opcode 27: 26" "27 7A"
    ∷ kept "opcode 28" "28 00 7A"
    ∷ kept "opcode 29" "29 00 7A"
    ∷ barred "opcode 2A: 26" "2A 00 7A"
    ∷ kept "opcode 2B" "2B 7A"
    ∷ kept "opcode 32" "32 7A"
    ∷ barred "opcode 33: 26" "33 7A"
    ∷ barred "opcode 36: 26" "36 7A"
    ∷ kept "opcode 37" "37 7A"
    ∷ kept "opcode 39" "39 7A"
    ∷ barred "opcode 3A: 26" "3A 7A"
    ∷ kept "opcode 3B" "3B 7A"
    ∷ kept "opcode 40" "40 00 7A"
    ∷ kept "opcode 41" "41 7A"
    ∷ barred "opcode 42: 26" "42 7A"
    ∷ kept "opcode 43" "43 7A"
    ∷ barred "opcode 44: 26" "44 7A"
    ∷ kept "opcode 45" "45 7A"
    ∷ barred "opcode 4C: 26" "4C 7A"
    ∷ kept "opcode 4D" "4D 7A"
    ∷ barred "opcode 56: 26" "56 7A"
    ∷ kept "opcode 57" "57 7A"
    ∷ barred "opcode 58: 26" "58 7A"
    ∷ kept "opcode 59" "59 0000 7A"
    ∷ []

-- from 5A on; the switches, the returns, and B8, the last opcode that there is
abbrev edges_above : List Row
edges_above =
    barred "opcode 5A: 26" "5A 0000 7A"
    ∷ kept "opcode 5B" "5B 7A"
    ∷ barred "opcode 5C: 26" "5C 7A"
    ∷ barred "opcode 5F: 26" "5F 7A"
    ∷ kept "opcode 60" "60 02 7A"
    ∷ kept "opcode 72" "72 00"
    ∷ kept "opcode 73" "73 0009 0000 0000 0009 7A"
    ∷ barred "opcode 74: 26" "74 000D 00000000 00000000 000D 7A"
    ∷ kept "opcode 75" "75 0005 0000 7A"
    ∷ barred "opcode 76: 26" "76 0005 0000 7A"
    ∷ kept "opcode 77" "77"
    ∷ kept "opcode 78" "78"
    ∷ barred "opcode 79: 26" "79"
    ∷ kept "opcode 7A" "7A"
    ∷ kept "opcode 7D" "7D 0000 7A"
    ∷ barred "opcode 7E: 26" "7E 0000 7A"
    ∷ kept "opcode 7F" "7F 0000 7A"
    ∷ kept "opcode 81" "81 0000 7A"
    ∷ barred "opcode 82: 26" "82 0000 7A"
    ∷ kept "opcode 83" "83 00 7A"
    ∷ kept "opcode 85" "85 00 7A"
    ∷ barred "opcode 86: 26" "86 00 7A"
    ∷ kept "opcode 87" "87 00 7A"
    ∷ kept "opcode 89" "89 00 7A"
    ∷ barred "opcode 8A: 26" "8A 00 7A"
    ∷ in_without_int "opcode 8B, of no reference: 18" "8B 0000 7A" 18
    ∷ kept "opcode 96" "96 000000 7A"
    ∷ barred "opcode 97: 26" "97 000000 7A"
    ∷ kept "opcode 98" "98 0003 7A"
    ∷ kept "opcode AB" "AB 0000 7A"
    ∷ barred "opcode AC: 26" "AC 0000 7A"
    ∷ kept "opcode AD" "AD 00 7A"
    ∷ kept "opcode AF" "AF 00 7A"
    ∷ barred "opcode B0: 26" "B0 00 7A"
    ∷ kept "opcode B1" "B1 0000 7A"
    ∷ kept "opcode B3" "B3 0000 7A"
    ∷ barred "opcode B4: 26" "B4 0000 7A"
    ∷ kept "opcode B5" "B5 00 7A"
    ∷ kept "opcode B7" "B7 00 7A"
    ∷ barred "opcode B8: 26" "B8 00 7A"
    ∷ []

-- the first operand is the byte behind the opcode; operand bytes are no instructions; code that is not reached counts
abbrev operands : List Row
operands =
    kept "90 with 0C" "90 0C 7A"
    ∷ barred "90 with 0D: 26" "90 0D 7A"
    ∷ kept "90 with 0E" "90 0E 7A"
    ∷ kept "94 with 0C" "94 0C 0000 7A"
    ∷ barred "94 with 0D: 26" "94 0D 0000 7A"
    ∷ kept "94 with 0E" "94 0E 0000 7A"
    ∷ kept "95 with 0C" "95 0C 0000 7A"
    ∷ barred "95 with 0D: 26" "95 0D 0000 7A"
    ∷ kept "95 with 0E" "95 0E 0000 7A"
    ∷ kept "94 with 0D as its second operand" "94 00 0D 00 7A"
    ∷ kept "95 with 0D as its third operand" "95 00 00 0D 7A"
    ∷ kept "8F and 91 with 0D" "8F 0D0D 91 0D0D 7A"
    ∷ kept "96 with 0D" "96 0D 0D0D 7A"
    ∷ kept "92 and 93" "92 93"
    ∷ barred "opcode 0D behind 92: 26" "92 0D 7A"
    ∷ kept "09 as an operand" "10 09 7A"
    ∷ kept "09 as every operand of 8F and 59" "8F 0909 59 0909 7A"
    ∷ kept "90 0D as operands" "11 900D 7A"
    ∷ kept "09 and 0A in a switch" "73 000A 090A 090A 000A 00 7A"
    ∷ barred "09 behind a switch: 26" "73 0009 0000 0000 0009 09 7A"
    ∷ barred "09 as the second instruction: 26" "00 09 7A"
    ∷ barred "09 behind a return, not reached: 26" "7A 09 7A"
    ∷ barred "79 as the last of two returns: 26" "7A 79"
    ∷ barred "94 with 0D behind a return: 26" "7A 94 0D 0000 7A"
    ∷ []

-- every code of the file, and nothing but codes
abbrev files : List Row
files =
    in_kinds "09 in the second method: 26" "42504B 0001 0024  05A000000101  00  00  0000  01  00 00 02  60 0001 00 0001 7A  60 0002 00 0002 097A" 26 0
    ∷ in_kinds "09 in the first of two methods: 26" "42504B 0001 0024  05A000000101  00  00  0000  01  00 00 02  60 0001 00 0002 097A  60 0002 00 0001 7A" 26 0
    ∷ in_kinds "09 in the second class: 26" "42504B 0001 0027  05A000000101  00  00  0000  02  00 00 01  60 0001 00 0001 7A  00 00 01  60 0001 00 0002 097A" 26 0
    ∷ in_kinds "09 in a method that is not static: 26" "42504B 0001 001D  05A000000101  00  00  0000  01  00 00 01  40 0001 00 0002 097A" 26 0
    ∷ steps "no class, in a kind-3 domain" both_kinds (load D1 (hex "42504B 0001 0012  05A000000101  00  00  0000  00") answers 0 ∷ [])
    ∷ steps "a method without code, in a kind-3 domain" both_kinds (load D1 (hex "42504B 0001 0019  05A000000101  00  00  0000  01  00 00 01  80 0909 00") answers 0 ∷ [])
    ∷ steps "09 and 0D outside of codes" both_kinds (load D1 (hex "42504B 0001 0027  05A000000101  01 0509090D0D09  00  0001 090D090D  01  00 00 01  60 0909 0100 0001 7A") answers 0 ∷ [])
    ∷ in_kinds "09 in a file of version 2: 26" "42504B 0002 001E  05A000000101  00  00  0000  01  00 00 01  60 0001 00 0002 097A 00" 26 0
    ∷ in_kinds "09 with a good handler: 26" "42504B 0002 0024  05A000000101  00  00  0000  01  00 00 01  60 0001 00 0002 097A 01 000000010001" 26 0
    ∷ in_kinds "09 at a handler's target: 26" "42504B 0002 0025  05A000000101  00  00  0000  01  00 00 01  60 0001 00 0003 7A097A 01 000000010001" 26 0
    ∷ steps "a handler's offset 0009" both_kinds (load D1 (hex "42504B 0002 002D  05A000000101  00  00  0000  01  00 00 01  60 0001 00 000B 000000000000000000007A 01 0009000A0009") answers 0 ∷ [])
    ∷ []

-- an opcode, bytes of 0 for its operands and as instructions behind it, and 7A
abbrev padded : ℕ → Bytes
padded o = of_code (o ∷ replicate 12 0 ++ 0x7A ∷ [])

-- each question of the whole file before the next: 17, 24, 26, 18; then the number that a domain of kind 1 gives
abbrev turns : List Row
turns =
    in_kinds "16 before 26, in one code" "42504B 0001 001D  05A000000101  00  00  0000  01  00 00 01  60 0001 00 0002 09B9" 16 16
    ∷ in_kinds "16 before 26, in codes of two methods" "42504B 0001 0024  05A000000101  00  00  0000  01  00 00 02  60 0001 00 0002 097A  60 0002 00 0001 00" 16 16
    ∷ in_kinds "17 before 26, in one code" "42504B 0001 001E  05A000000101  00  00  0000  01  00 00 01  60 0001 00 0003 097001" 17 17
    ∷ in_kinds "17 before 26, in codes of two methods" "42504B 0001 0025  05A000000101  00  00  0000  01  00 00 02  60 0001 00 0002 097A  60 0002 00 0002 7001" 17 17
    ∷ in_kinds "24 before 26, in one code" "42504B 0002 0024  05A000000101  00  00  0000  01  00 00 01  60 0001 00 0002 097A 01 000000000000" 24 24
    ∷ in_kinds "24 before 26, in codes of two methods" "42504B 0002 002C  05A000000101  00  00  0000  01  00 00 02  60 0001 00 0002 097A 00  60 0002 00 0001 7A 01 000000000000" 24 24
    ∷ in_kinds "24 before 26, in codes of two classes" "42504B 0002 002F  05A000000101  00  00  0000  02  00 00 01  60 0001 00 0002 097A 00  00 00 01  60 0001 00 0001 7A 01 000000000000" 24 24
    ∷ in_kinds "26 before 18, in one code" "42504B 0001 0020  05A000000101  00  00  0000  01  00 00 01  60 0001 00 0005 098D00007A" 26 18
    ∷ in_kinds "26 before 18, behind the call" "42504B 0001 0020  05A000000101  00  00  0000  01  00 00 01  60 0001 00 0005 8D0000097A" 26 18
    ∷ in_kinds "26 before 18, in codes of two methods" "42504B 0001 0027  05A000000101  00  00  0000  01  00 00 02  60 0001 00 0004 8D00007A  60 0002 00 0002 097A" 26 18
    ∷ in_kinds "26 before 18, in codes of two classes" "42504B 0001 002A  05A000000101  00  00  0000  02  00 00 01  60 0001 00 0004 8D00007A  00 00 01  60 0001 00 0002 097A" 26 18
    ∷ in_kinds "26 before 19" "42504B 0001 002B  05A000000101  00  00  0001 00000002  01  00 00 02  60 0001 00 0004 8D00007A  60 0002 00 0002 097A" 26 19
    ∷ in_kinds "26 before 20" "42504B 0001 002D  05A000000101  01 05A0000000D1  00  0000  02  01 00 01  80 0007 0100  00 01 0000 01  C0 0007 00 0002 097A" 26 20
    ∷ steps "26 before 21" (write version1 64 (domain without_int D1 ∷ domain full D2 ∷ [])) (load D1 (padded 0x09) answers 26 ∷ load D2 (padded 0x09) answers 21 ∷ load D1 (of_code (hex "7A")) answers 0 ∷ [])
    ∷ in_kinds "14 before 26" "42504B 0001 001F  05A000000101  00  00  0000  01  00 01 0000 01  60 0001 00 0002 097A" 14 14
    ∷ []

-- all instructions but calls, each with operands 0
abbrev every_opcode : List Row
every_opcode =
    steps "each barred opcode: 26" both_kinds (flat (λ o. load D1 (padded o) answers 26 ∷ []) barred_opcodes)
    ∷ steps "every opcode that is not barred, in one code" (write version1 512 (domain without_int D1 ∷ [])) (load D1 (of_code (hex "00 01 02 03 04 05 06 07 08 1000 110000 1500 1600 18 19 1A 1B 1C 1D 1E 1F 24 25 26 2800 2900 2B 2C 2D 2E 2F 30 31 32 37 38 39 3B 3C 3D 3E 3F00 4000 41 43 45 47 49 4B 4D 4F 51 53 55 57 590000 5B 6000 6100 6200 6300 6400 6500 6600 6700 6800 6900 6A00 6B00 6C00 6D00 6E00 6F00 7000 710000 7200 730000000000000000 7500000000 77 78 7A 7B0000 7C0000 7D0000 7F0000 800000 810000 8300 8400 8500 8700 8800 8900 8F0000 9000 910000 92 93 94000000 95000000 96000000 980000 990000 9A0000 9B0000 9C0000 9D0000 9E0000 9F0000 A00000 A10000 A20000 A30000 A40000 A50000 A60000 A70000 A80000 A90000 AA0000 AB0000 AD00 AE00 AF00 B10000 B20000 B30000 B500 B600 B700 7A")) answers 0 ∷ [])
    ∷ []

-- the rows of this file
abbrev pub subset : List Row
subset = edges_below ++ edges_above ++ operands ++ files ++ turns ++ every_opcode
