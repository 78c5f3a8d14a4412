-- The subset without int as document 02 says it (wish 9): barred opcodes one by one, question 26 without tests, kinds left aside. Assumes nothing.
--
-- barred_opcodes       == the opcodes that are barred whatever their operands, in the document's order
-- Barred code k       == the instruction at offset k is barred
-- WithoutInt p        == no instruction of the codes of a package is barred; Q26 es d p == so it is, if the domain is of kind 3
-- SameButKinds es fs  == two lists of entries that differ in nothing but the kinds of domains
use Rattle.std.specs.Prelude.{ℕ, ◌+◌, ◌≡◌, true}
use mathlib.Core.List.{List, [], ◌∷◌, Memᴰ}
use Rattle.rules.specs.Bytes.{Bytes, Aid}
use Rattle.rules.specs.Code.{u1_at}
use Rattle.rules.specs.Package.{Method, Class, Package}
use Rattle.rules.specs.Store.{DomainKind, without_int, Entry, domain, loaded}
use Rattle.rules.specs.Splitting.{Begins}

-- 09–0F, 12–14, 17, 20–23, 27, 2A, 33–36, 3A, the even opcodes 42 to 58, 5A, 5C–5F, 74, 76, 79, 7E, 82, 86, 8A, 97, AC, B0, B4, B8
abbrev pub barred_opcodes : List ℕ
barred_opcodes =
    0x09 ∷ 0x0A ∷ 0x0B ∷ 0x0C ∷ 0x0D ∷ 0x0E ∷ 0x0F ∷ 0x12 ∷ 0x13 ∷ 0x14 ∷ 0x17 ∷ 0x20 ∷ 0x21 ∷ 0x22 ∷ 0x23 ∷ 0x27 ∷ 0x2A ∷
    0x33 ∷ 0x34 ∷ 0x35 ∷ 0x36 ∷ 0x3A ∷ 0x42 ∷ 0x44 ∷ 0x46 ∷ 0x48 ∷ 0x4A ∷ 0x4C ∷ 0x4E ∷ 0x50 ∷ 0x52 ∷ 0x54 ∷ 0x56 ∷ 0x58 ∷
    0x5A ∷ 0x5C ∷ 0x5D ∷ 0x5E ∷ 0x5F ∷ 0x74 ∷ 0x76 ∷ 0x79 ∷ 0x7E ∷ 0x82 ∷ 0x86 ∷ 0x8A ∷ 0x97 ∷ 0xAC ∷ 0xB0 ∷ 0xB4 ∷ 0xB8 ∷ []

-- by its opcode; or it is 90, 94 or 95 and its first operand, the byte behind the opcode, is 0D
pub data Barred (code : Bytes) (k : ℕ) : Type 0 where
  by_opcode : Memᴰ (u1_at code k) barred_opcodes → Barred code k
  by_operand : Memᴰ (u1_at code k) (0x90 ∷ 0x94 ∷ 0x95 ∷ []) → u1_at code (k + 1) ≡ 0x0D → Barred code k

-- of every implemented method of every class, whether the instruction is reached or not; an operand begins none
abbrev pub WithoutInt : Package → Type 0
WithoutInt p = (k : Class) → Memᴰ k p.classes → (m : Method) → Memᴰ m k.methods → m.implemented ≡ true →
    (i : ℕ) → Begins m.code i → Barred m.code i → ⊥

-- 26. If the domain has been created with kind 3, is no instruction barred?
abbrev pub Q26 : List Entry → Aid → Package → Type 0
Q26 es d p = Memᴰ (domain without_int d) es → WithoutInt p

pub data SameButKinds : List Entry → List Entry → Type 0 where
  same_end : SameButKinds [] []
  same_domain : {k h : DomainKind} {a : Aid} {es fs : List Entry} → SameButKinds es fs → SameButKinds (domain k a ∷ es) (domain h a ∷ fs)
  same_package : {d : Aid} {f : Bytes} {es fs : List Entry} → SameButKinds es fs → SameButKinds (loaded d f ∷ es) (loaded d f ∷ fs)
