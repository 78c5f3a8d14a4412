-- What the entries of the table of instruction lengths and the set of barred opcodes say, and that an instruction is there whole.
-- Assumes nothing.
--
-- an entry is 16 times its form, plus its size
-- form      == what the opcode does: 0 neither calls nor branches, 1 calls, 2 branches by an s1, 3 by an s2, 4 to 7 as the switches 73 to 76
-- size      == the bytes of the instruction, of a switch those before its first entry; 0 where there is no instruction
-- told f n  == how form and size tell an instruction's length
-- Says      == form and size are an opcode's
-- TableIs t == t is the table of the 256 opcodes
-- BarredIs s == s is the set of the barred opcodes
-- AtMost m r, AtLeast m r == a number that is told is not above m, not below m; Inside n at r == so many bytes, one at least, lie from an offset on in a code of n bytes
-- Whole     == an instruction is there whole
use Rattle.std.specs.Prelude.{Some, None}
use Rattle.std.specs.Prelude.{Option as Optional}
use Rattle.std.specs.Prelude.{ℕ, ◌+◌, ◌/◌, ◌%◌, ◌<◌, ◌≤◌, ◌≡◌, List, [], ◌∷◌, T, leb, eqb, get_or}
use Rattle.rules.specs.Bytes.{Bytes, pick, is_some}
use Rattle.rules.specs.Code.{Switch, switch73, switch74, switch75, switch76, Length, by_opcode, by_switch, undefined, length_of, instruction_length, among}
use Rattle.rules.specs.Subset.{barred_opcode}
use Rattle.bits.specs.Bits.{bit_at}

-- the switch of a form from 4 to 7
unfoldable pub switch_of : ℕ → Switch
switch_of f = pick (eqb f 4) switch73 (pick (eqb f 5) switch74 (pick (eqb f 6) switch75 switch76))

-- how form and size tell an instruction's length
unfoldable pub told : ℕ → ℕ → Length
told f n = pick (leb f 3) (pick (eqb n 0) undefined (by_opcode n)) (by_switch (switch_of f))

-- the bytes from the opcode to the end of its branch
unfoldable pub branch_bytes : ℕ → ℕ
branch_bytes f = pick (leb f 1) 0 (pick (eqb f 2) 2 3)

-- form and size are those of an opcode
pub record Says (opcode form size : ℕ) : Type 0 where
  pub known : form ≤ 7
  pub tells : length_of opcode ≡ told form size
  pub calls : among ((0x8B, 0x8E) ∷ []) opcode ≡ eqb form 1
  pub by_s1 : among ((0x60, 0x70) ∷ []) opcode ≡ eqb form 2
  pub by_s2 : among ((0x71, 0x71) ∷ (0x98, 0xA8) ∷ []) opcode ≡ eqb form 3
  pub reaches : branch_bytes form ≤ size
  pub head : 3 < form → size ≡ (switch_of form).head

-- each opcode's entry says what document 01 does
pub record TableIs (t : List ℕ) : Type 0 where
  pub says : (o : ℕ) → o < 256 → Says o (get_or t o 0 / 16) (get_or t o 0 % 16)

-- the bit of each opcode says whether document 02 bars it
pub record BarredIs (set : List ℕ) : Type 0 where
  pub says : (o : ℕ) → o < 256 → bit_at set o ≡ barred_opcode o

-- a number that is told is not above m
abbrev pub AtMost : ℕ → Optional ℕ → Type 0
AtMost m (Some n) = n ≤ m
AtMost m None = Unit

-- nor below m
abbrev pub AtLeast : ℕ → Optional ℕ → Type 0
AtLeast m (Some n) = m ≤ n
AtLeast m None = Unit

-- bytes that are told lie from an offset on in a code of n bytes, one at least
abbrev pub Inside : ℕ → ℕ → Optional ℕ → Type 0
Inside n at (Some k) = (0 < k) × (at + k ≤ n)
Inside n at None = Unit

-- an instruction is there whole
abbrev pub Whole : Bytes → ℕ → Type 0
Whole code at = T (is_some (instruction_length code at))
