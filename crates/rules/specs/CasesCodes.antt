-- Rows of the table of cases: codes by questions 16 and 17, and their calls. Assumes nothing.
use Rattle.std.specs.Prelude.{List, [], ◌∷◌, ◌++◌}
use Rattle.rules.specs.CasesForm.{hex, Row, code}

-- every opcode that may end a code, those beside them, and where the last instruction stands
abbrev endings : List Row
endings =
    code "no bytes: 16" (hex "") 16 []
    ∷ code "72 last" (hex "72 00") 0 []
    ∷ code "70 last" (hex "70 00") 0 []
    ∷ code "73 last" (hex "00 73 FFFF 0000 0000 FFFF") 0 []
    ∷ code "74 last" (hex "00 74 FFFF 00000000 00000000 FFFF") 0 []
    ∷ code "75 last" (hex "00 75 FFFF 0000") 0 []
    ∷ code "76 last" (hex "00 76 FFFF 0000") 0 []
    ∷ code "77 last" (hex "77") 0 []
    ∷ code "78 last" (hex "78") 0 []
    ∷ code "79 last" (hex "79") 0 []
    ∷ code "7A last" (hex "7A") 0 []
    ∷ code "93 last" (hex "93") 0 []
    ∷ code "A8 last" (hex "A8 0000") 0 []
    ∷ code "6F last: 16" (hex "6F 00") 16 []
    ∷ code "71 last: 16" (hex "71 0000") 16 []
    ∷ code "7B last: 16" (hex "7B 00 00") 16 []
    ∷ code "92 last: 16" (hex "92") 16 []
    ∷ code "94 last: 16" (hex "94 00 00 00") 16 []
    ∷ code "A7 last: 16" (hex "A7 0000") 16 []
    ∷ code "A9 last: 16" (hex "A9 0000") 16 []
    ∷ code "an ending opcode first and not last: 16" (hex "7A 00") 16 []
    ∷ code "an ending opcode as an operand: 16" (hex "10 7A") 16 []
    ∷ code "B9 is no opcode: 16" (hex "B9 00 7A") 16 []
    ∷ code "94 has four bytes: 16" (hex "94 00 00 7A") 16 []
    ∷ code "8E has five bytes: 16" (hex "8E 00 00 7A") 16 []
    ∷ code "B8 is one" (hex "B8 00 7A") 0 []
    ∷ []

-- every form of branch, at both ends of its range of opcodes
abbrev branches : List Row
branches =
    code "60 over itself" (hex "60 02 7A") 0 []
    ∷ code "60 into its operand: 17" (hex "60 01 7A") 17 []
    ∷ code "6F over itself" (hex "6F 02 7A") 0 []
    ∷ code "6F into its operand: 17" (hex "6F 01 7A") 17 []
    ∷ code "70 back to 0" (hex "00 70 FF") 0 []
    ∷ code "70 below 0: 17" (hex "70 FF") 17 []
    ∷ code "70 to the end: 17" (hex "70 02") 17 []
    ∷ code "70 into an operand before it: 17" (hex "10 00 70 FF") 17 []
    ∷ code "71 over itself" (hex "71 0003 7A") 0 []
    ∷ code "71 into its operand: 17" (hex "71 0001 7A") 17 []
    ∷ code "71 back to 0" (hex "00 71 FFFF 7A") 0 []
    ∷ code "71 below 0: 17" (hex "71 FFFF 7A") 17 []
    ∷ code "98 over itself" (hex "98 0003 7A") 0 []
    ∷ code "98 into its operand: 17" (hex "98 0001 7A") 17 []
    ∷ code "98 back to 0" (hex "00 98 FFFF 7A") 0 []
    ∷ code "98 below 0: 17" (hex "98 FFFF 7A") 17 []
    ∷ code "A7 over itself" (hex "A7 0003 7A") 0 []
    ∷ code "A7 into its operand: 17" (hex "A7 0001 7A") 17 []
    ∷ code "A7 back to 0" (hex "00 A7 FFFF 7A") 0 []
    ∷ code "A7 below 0: 17" (hex "A7 FFFF 7A") 17 []
    ∷ code "A8 back to 0" (hex "00 A8 FFFF") 0 []
    ∷ code "A8 into its operand: 17" (hex "A8 0001") 17 []
    ∷ code "the offset of 71 is not one byte" (hex "71 0003 7A") 0 []
    ∷ code "5F, 72, 97 and A9 do not branch" (hex "5F 97 01 01 01 A9 0001 72 01") 0 []
    ∷ code "127 on, over 125 bytes" (hex "60 7F 00 00 00 00 00 00 00 00 00 00 00 00 00 00 00 00 00 00 00 00 00 00 00 00 00 00 00 00 00 00 00 00 00 00 00 00 00 00 00 00 00 00 00 00 00 00 00 00 00 00 00 00 00 00 00 00 00 00 00 00 00 00 00 00 00 00 00 00 00 00 00 00 00 00 00 00 00 00 00 00 00 00 00 00 00 00 00 00 00 00 00 00 00 00 00 00 00 00 00 00 00 00 00 00 00 00 00 00 00 00 00 00 00 00 00 00 00 00 00 00 00 00 00 00 00 7A") 0 []
    ∷ code "128 back" (hex " 00 00 00 00 00 00 00 00 00 00 00 00 00 00 00 00 00 00 00 00 00 00 00 00 00 00 00 00 00 00 00 00 00 00 00 00 00 00 00 00 00 00 00 00 00 00 00 00 00 00 00 00 00 00 00 00 00 00 00 00 00 00 00 00 00 00 00 00 00 00 00 00 00 00 00 00 00 00 00 00 00 00 00 00 00 00 00 00 00 00 00 00 00 00 00 00 00 00 00 00 00 00 00 00 00 00 00 00 00 00 00 00 00 00 00 00 00 00 00 00 00 00 00 00 00 00 00 00 70 80") 0 []
    ∷ []

-- every form of switch: entries, defaults, offsets
abbrev switches : List Row
switches =
    code "73 from 1 to 2" (hex "73 000B 0001 0002 000B 000B 7A") 0 []
    ∷ code "73 with an offset too few: 16" (hex "73 0009 0001 0002 0009 7A") 16 []
    ∷ code "73 from -1 to 0" (hex "73 000B FFFF 0000 000B 000B 7A") 0 []
    ∷ code "73 from 0 to -1: 16" (hex "73 0007 0000 FFFF 7A") 16 []
    ∷ code "73 default into an operand: 17" (hex "73 0001 0000 0000 0009 7A") 17 []
    ∷ code "73 first offset into an operand: 17" (hex "73 000B 0001 0002 0001 000B 7A") 17 []
    ∷ code "73 second offset into an operand: 17" (hex "73 000B 0001 0002 000B 0001 7A") 17 []
    ∷ code "73 counts from its opcode" (hex "00 73 0009 0000 0000 0009 7A") 0 []
    ∷ code "73 does not count from 0: 17" (hex "00 73 0009 0000 0000 000A 7A") 17 []
    ∷ code "73 cut short: 16" (hex "73 0000 0000 00") 16 []
    ∷ code "74 from 1 to 2" (hex "74 000F 00000001 00000002 000F 000F 7A") 0 []
    ∷ code "74 from -1 to 0" (hex "74 000F FFFFFFFF 00000000 000F 000F 7A") 0 []
    ∷ code "74 from 0 to -1: 16" (hex "74 000B 00000000 FFFFFFFF 7A") 16 []
    ∷ code "74 with 65,537 offsets: 16" (hex "74 000D 00000000 00010000 000D 7A") 16 []
    ∷ code "74 default into an operand: 17" (hex "74 0001 00000000 00000000 000D 7A") 17 []
    ∷ code "74 offset into an operand: 17" (hex "74 000D 00000000 00000000 0001 7A") 17 []
    ∷ code "74 from the least to the greatest: 16" (hex "74 000B 80000000 7FFFFFFF 7A") 16 []
    ∷ code "75 with two pairs" (hex "75 000D 0002 0001 000D 0002 000D 7A") 0 []
    ∷ code "75 with pairs out of order" (hex "75 000D 0002 0002 000D 0001 000D 7A") 0 []
    ∷ code "75 with 256 pairs: 16" (hex "75 0005 0100 7A") 16 []
    ∷ code "75 default into an operand: 17" (hex "75 0001 0000 7A") 17 []
    ∷ code "75 first offset into an operand: 17" (hex "75 000D 0002 0001 0001 0002 000D 7A") 17 []
    ∷ code "75 second offset into an operand: 17" (hex "75 000D 0002 0001 000D 0002 0001 7A") 17 []
    ∷ code "75 match is no offset" (hex "75 0009 0001 0001 0009 7A") 0 []
    ∷ code "76 with two pairs" (hex "76 0011 0002 00000001 0011 00000002 0011 7A") 0 []
    ∷ code "76 default into an operand: 17" (hex "76 0001 0000 7A") 17 []
    ∷ code "76 offset into an operand: 17" (hex "76 000B 0001 00000000 0001 7A") 17 []
    ∷ code "76 second offset into an operand: 17" (hex "76 0011 0002 00000001 0011 00000002 0001 7A") 17 []
    ∷ code "76 match is no offset" (hex "76 000B 0001 00010001 000B 7A") 0 []
    ∷ []

-- calls
abbrev calls : List Row
calls =
    code "8B, 8C, 8D and 8E, and their references" (hex "8B 0102 8C 0304 8D 0506 8E 07 0809 0A 7A") 0 ((0x8B, 0x102) ∷ (0x8C, 0x304) ∷ (0x8D, 0x506) ∷ (0x8E, 0x809) ∷ [])
    ∷ code "8A and 8F are no calls" (hex "8A 00 8F 0000 7A") 0 []
    ∷ code "no call in an operand" (hex "13 8B 8C 14 8D 8E 8B 8C 7A") 0 []
    ∷ code "a call behind a switch" (hex "75 0005 0000 8D 0001 7A") 0 ((0x8D, 1) ∷ [])
    ∷ code "a code that does not split holds no call" (hex "8D 0001 B9") 16 []
    ∷ []

-- the rows of this file
abbrev pub codes : List Row
codes = endings ++ branches ++ switches ++ calls
