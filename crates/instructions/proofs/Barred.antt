-- The set of barred opcodes is the paper's, tested once over all 256; where the byte behind 90, 94 or 95 stands. Assumes nothing.
use Prim.Native.Nat.{ℕ, ◌+◌, ◌≤◌, ◌<◌}
use native.Mathlib.Omega.{arith}
use native.Mathlib.Decide.{dec_le, ℕ_discrete}
use mathlib.Core.Path.{◌≡◌, refl, sym, ap, ◌∙◌, subst}
use mathlib.Core.Bool.{Bool, true, false, ◌||◌, or-false}
use mathlib.Core.List.{List, [], ◌∷◌}
use mathlib.Core.Option.{Option, none, some}
use lib.Dec.{T, leb, eqb}
use lib.ListN.{length, get_or}
use borrow.Author.Tests.{eq-eqb, ne_eqb, le-leb, lt-leb, leb-true}
use Rattle.rules.specs.Bytes.{Bytes, pick, within, is_some, all_from}
use Rattle.rules.specs.Code.{u1_at, among, length_of, length_as, instruction_length, fits}
use Rattle.rules.specs.Subset.{barred_opcode, barred_operand, barred_at}
use Rattle.rules.specs.Table.{length_table}
use Rattle.rules.proofs.Tests.{all_from_zero}
use Rattle.rules.proofs.Lengths.{table_length}
use Rattle.bits.specs.Bits.{bit_at}
use Rattle.instructions.specs.Table.{BarredIs, Whole}
use Rattle.instructions.proofs.Rule.{agree, agree_is, at_get_d}
use Rattle.instructions.proofs.Ends.{out_below, one_is}

-- the bit of an opcode says whether it is barred
unfoldable pub right_bit : List ℕ → ℕ → ℕ → Bool
right_bit set o x = agree (bit_at set o) (barred_opcode o)

-- a set that passes the test for each of the 256 opcodes is the set; the table of lengths has an element for each
pub set_carried : (set : List ℕ) → T (all_from (right_bit set) 0 length_table) → BarredIs set
unfolding right_bit
set_carried set h = record {
  says = λ o b. agree_is (bit_at set o) (barred_opcode o)
      (all_from_zero (right_bit set) length_table o (get_or length_table o 0) h (at_get_d length_table o (omega (arith, table_length))));
}

-- the opcodes with a type behind them, by the tests in order
module _ (o : ℕ) where
  types_are : among ((0x90, 0x90) ∷ (0x94, 0x95) ∷ []) o ≡ (eqb o 0x90 || (within 0x94 0x95 o || false))
  types_are = ap (λ (b : Bool). b || (within 0x94 0x95 o || false)) (one_is 0x90 o)

  pub type_90 : o ≡ 0x90 → among ((0x90, 0x90) ∷ (0x94, 0x95) ∷ []) o ≡ true
  type_90 e = types_are ∙ rw (eq-eqb o 0x90 e)

  pub type_below : (o ≡ 0x90 → ⊥) → o < 0x94 → among ((0x90, 0x90) ∷ (0x94, 0x95) ∷ []) o ≡ false
  type_below e h = types_are ∙ rw (ne_eqb o 0x90 e, out_below 0x94 0x95 o h)

  pub type_from : (o ≡ 0x90 → ⊥) → 0x94 ≤ o → among ((0x90, 0x90) ∷ (0x94, 0x95) ∷ []) o ≡ leb o 0x95
  type_from e h = types_are ∙ rw (ne_eqb o 0x90 e, le-leb 0x94 o h) (or-false (leb o 0x95))

-- such an instruction that is there whole has a byte behind its opcode
module _ (code : Bytes) (at : ℕ) (w : Whole code at) where
  room : (n : ℕ) → instruction_length code at ≡ fits code at n → at + n ≤ length code
  room n e = go (leb (at + n) (length code)) refl (subst (λ (o : Option ℕ). T (is_some o)) e w)
    where
      go : (b : Bool) → leb (at + n) (length code) ≡ b → T (is_some (pick b (some n) none)) → at + n ≤ length code
      go true q t = leb-true (at + n) (length code) q
      go false q t = absurd t

  sized : (o n : ℕ) → u1_at code at ≡ o → length_as (length_of o) code at ≡ fits code at n → at + n ≤ length code
  unfolding instruction_length
  sized o n e q = room n (ap (λ (x : ℕ). length_as (length_of x) code at) e ∙ q)

  pub type_room : among ((0x90, 0x90) ∷ (0x94, 0x95) ∷ []) (u1_at code at) ≡ true → at + 1 < length code
  unfolding length_of length_as
  type_room h = elim (ℕ_discrete (u1_at code at) 0x90) [
    | yes e ↦ omega (arith, sized 0x90 2 e refl)
    | no a ↦ elim (ℕ_discrete (u1_at code at) 0x94) [
      | yes e ↦ omega (arith, sized 0x94 4 e refl)
      | no b ↦ elim (ℕ_discrete (u1_at code at) 0x95) [
        | yes e ↦ omega (arith, sized 0x95 4 e refl)
        | no c ↦ elim (dec_le 0x94 (u1_at code at)) [
          | yes l ↦ absurd (not_both (sym (type_from (u1_at code at) a l ∙ lt-leb (u1_at code at) 0x95 (omega arith)) ∙ h))
          | no l ↦ absurd (not_both (sym (type_below (u1_at code at) a (omega arith)) ∙ h))
        ]
      ]
    ]
  ]
    where
      not_both : false ≡ true → ⊥
      not_both e = subst T (sym e) tt

-- the answer by the two tests
module _ (code : Bytes) (at : ℕ) where
  pub barred_plain : barred_opcode (u1_at code at) ≡ true → barred_at code at ≡ true
  barred_plain e = rw e

  pub barred_none : barred_opcode (u1_at code at) ≡ false → among ((0x90, 0x90) ∷ (0x94, 0x95) ∷ []) (u1_at code at) ≡ false → barred_at code at ≡ false
  unfolding barred_operand
  barred_none e f = rw (e, f)

  pub barred_type : barred_opcode (u1_at code at) ≡ false → among ((0x90, 0x90) ∷ (0x94, 0x95) ∷ []) (u1_at code at) ≡ true →
      barred_at code at ≡ eqb (u1_at code (at + 1)) 0x0D
  unfolding barred_operand
  barred_type e f = rw (e, f)
