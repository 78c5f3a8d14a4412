-- The subset without int (document 02, wish 9), and question 26 of one code. Assumes nothing.
--
-- barred_opcode o      == the opcode is barred, whatever its operands; barred_operand code at == 90, 94 or 95 with the first operand 0D
-- barred_at code at    == the instruction at an offset is barred
-- code_without_int code == question 26 of the code
use Rattle.std.specs.Prelude.{ℕ, ◌+◌, ◌%◌, Bool, ◌&&◌, ◌||◌, not, [], ◌∷◌, eqb}
use Rattle.rules.specs.Bytes.{Bytes, all, some_and, within}
use Rattle.rules.specs.Code.{u1_at, among, split}

-- the even opcodes 42 to 58
abbrev pub even_opcode : ℕ → Bool
even_opcode o = within 0x42 0x58 o && eqb (o % 2) 0

-- the opcodes that the subset lacks
unfoldable pub barred_opcode : ℕ → Bool
barred_opcode o =
    among ((0x09, 0x0F) ∷ (0x12, 0x14) ∷ (0x17, 0x17) ∷ (0x20, 0x23) ∷ (0x27, 0x27) ∷ (0x2A, 0x2A) ∷ (0x33, 0x36) ∷ (0x3A, 0x3A) ∷ []) o
    || (even_opcode o
    || (among ((0x5A, 0x5A) ∷ (0x5C, 0x5F) ∷ (0x74, 0x74) ∷ (0x76, 0x76) ∷ (0x79, 0x79) ∷ (0x7E, 0x7E) ∷ (0x82, 0x82) ∷ (0x86, 0x86) ∷ []) o
    || among ((0x8A, 0x8A) ∷ (0x97, 0x97) ∷ (0xAC, 0xAC) ∷ (0xB0, 0xB0) ∷ (0xB4, 0xB4) ∷ (0xB8, 0xB8) ∷ []) o))

-- 90, 94 or 95 whose first operand is 0D
unfoldable pub barred_operand : Bytes → ℕ → Bool
barred_operand code at = among ((0x90, 0x90) ∷ (0x94, 0x95) ∷ []) (u1_at code at) && eqb (u1_at code (at + 1)) 0x0D

-- a barred instruction
abbrev pub barred_at : Bytes → ℕ → Bool
barred_at code at = barred_opcode (u1_at code at) || barred_operand code at

-- question 26 of one code: every instruction, whether it is reached or not
unfoldable pub code_without_int : Bytes → Bool
code_without_int code = some_and (split code) (all λ at. not (barred_at code at))
