-- The four opcodes of calls: their lengths, and the call that each is. Assumes nothing.
use Prim.Native.Nat.{ℕ, ◌+◌, ◌≤◌}
use native.Mathlib.Omega.{arith}
use native.Mathlib.Decide.{dec_le, ℕ_discrete}
use mathlib.Core.Path.{◌≡◌, sym, ap, ◌∙◌, subst}
use mathlib.Core.Bool.{false, not, or-false}
use mathlib.Core.List.{[], ◌∷◌}
use lib.Dec.{T, leb, eqb, leb→le}
use lib.ListN.{length}
use borrow.Author.Tests.{eq-eqb, ne_eqb, eqb-true, lt-leb}
use Rattle.rules.specs.Bytes.{Bytes, is_some, within}
use Rattle.rules.specs.Code.{u1_at, u2_at, Length, by_opcode, length_of, fits, length_as, instruction_length, virtual, special, static, interface, call_at}
use Rattle.rules.proofs.Tests.{and_l, and_r}
use Rattle.instructions.proofs.Ends.{in_range}
use Rattle.instructions.specs.Table.{Says, Whole}
use Rattle.codes.specs.Marks.{empty}

-- an instruction of a by_opcode length that is there whole has its bytes
whole_by_opcode : (code : Bytes) (at n : ℕ) → length_of (u1_at code at) ≡ by_opcode n → Whole code at → at + n ≤ length code
unfolding instruction_length length_as
whole_by_opcode code at n e w =
    let t : T (is_some (fits code at n)) = subst (λ (l : Length). T (is_some (length_as l code at))) e w in
    elim (dec_le (at + n) (length code)) [
      | yes h ↦ h
      | no h ↦ absurd (rw (lt-leb (at + n) (length code) (omega arith)) at t)
    ]

module _ (code : Bytes) (at : ℕ) where
  length_8_b : u1_at code at ≡ 0x8B → length_of (u1_at code at) ≡ by_opcode 3
  unfolding length_of
  length_8_b e = ap length_of e

  length_8_c : u1_at code at ≡ 0x8C → length_of (u1_at code at) ≡ by_opcode 3
  unfolding length_of
  length_8_c e = ap length_of e

  length_8_d : u1_at code at ≡ 0x8D → length_of (u1_at code at) ≡ by_opcode 3
  unfolding length_of
  length_8_d e = ap length_of e

  length_8_e : u1_at code at ≡ 0x8E → length_of (u1_at code at) ≡ by_opcode 5
  unfolding length_of
  length_8_e e = ap length_of e

  -- the bytes of the reference's index are within the code
  pub room_8_b : u1_at code at ≡ 0x8B → Whole code at → at + 3 ≤ length code
  room_8_b e w = whole_by_opcode code at 3 (length_8_b e) w

  pub room_8_c : u1_at code at ≡ 0x8C → Whole code at → at + 3 ≤ length code
  room_8_c e w = whole_by_opcode code at 3 (length_8_c e) w

  pub room_8_d : u1_at code at ≡ 0x8D → Whole code at → at + 3 ≤ length code
  room_8_d e w = whole_by_opcode code at 3 (length_8_d e) w

  pub room_8_e : u1_at code at ≡ 0x8E → Whole code at → at + 5 ≤ length code
  room_8_e e w = whole_by_opcode code at 5 (length_8_e e) w

  -- the call at an offset by its opcode
  pub call_8_b : u1_at code at ≡ 0x8B → call_at code at ≡ record { kind = virtual; index = u2_at code (at + 1) } ∷ []
  unfolding call_at
  call_8_b e = rw (eq-eqb (u1_at code at) 0x8B e)

  pub call_8_c : u1_at code at ≡ 0x8C → call_at code at ≡ record { kind = special; index = u2_at code (at + 1) } ∷ []
  unfolding call_at
  call_8_c e = rw (ne_eqb (u1_at code at) 0x8B (λ q. omega arith), eq-eqb (u1_at code at) 0x8C e)

  pub call_8_d : u1_at code at ≡ 0x8D → call_at code at ≡ record { kind = static; index = u2_at code (at + 1) } ∷ []
  unfolding call_at
  call_8_d e = rw (ne_eqb (u1_at code at) 0x8B (λ q. omega arith), ne_eqb (u1_at code at) 0x8C (λ q. omega arith), eq-eqb (u1_at code at) 0x8D e)

  pub call_8_e : u1_at code at ≡ 0x8E → call_at code at ≡ record { kind = interface; index = u2_at code (at + 2) } ∷ []
  unfolding call_at
  call_8_e e = rw (
    ne_eqb (u1_at code at) 0x8B (λ q. omega arith),
    ne_eqb (u1_at code at) 0x8C (λ q. omega arith),
    ne_eqb (u1_at code at) 0x8D
        (λ q. omega arith),
    eq-eqb (u1_at code at) 0x8E e,
  )

  pub no_call : (u1_at code at ≡ 0x8B → ⊥) → (u1_at code at ≡ 0x8C → ⊥) → (u1_at code at ≡ 0x8D → ⊥) → (u1_at code at ≡ 0x8E → ⊥) → call_at code at ≡ []
  unfolding call_at
  no_call a b c d = rw (ne_eqb (u1_at code at) 0x8B a, ne_eqb (u1_at code at) 0x8C b, ne_eqb (u1_at code at) 0x8D c, ne_eqb (u1_at code at) 0x8E d)

-- the form of an opcode tells whether it calls
module _ (code : Bytes) (at f n : ℕ) (s : Says (u1_at code at) f n) where
  range_is : within 0x8B 0x8E (u1_at code at) ≡ eqb f 1
  range_is = sym (or-false (within 0x8B 0x8E (u1_at code at))) ∙ s.calls

  form_quiet : (f ≡ 1 → ⊥) → call_at code at ≡ []
  form_quiet h = no_call code at (λ e. outside (omega arith) (omega arith)) (λ e. outside (omega arith) (omega arith))
      (λ e. outside (omega arith) (omega arith)) (λ e. outside (omega arith) (omega arith))
    where
      outside : 0x8B ≤ u1_at code at → u1_at code at ≤ 0x8E → ⊥
      outside a b = h (eqb-true f 1 (sym range_is ∙ in_range 0x8B 0x8E (u1_at code at) a b))

  form_calls : f ≡ 1 → empty (call_at code at) ≡ false
  form_calls h = elim (ℕ_discrete (u1_at code at) 0x8B) [
    | yes e ↦ ap empty (call_8_b code at e)
    | no a ↦ elim (ℕ_discrete (u1_at code at) 0x8C) [
      | yes e ↦ ap empty (call_8_c code at e)
      | no b ↦ elim (ℕ_discrete (u1_at code at) 0x8D) [
        | yes e ↦ ap empty (call_8_d code at e)
        | no d ↦ ap empty (call_8_e code at (last a b d))
      ]
    ]
  ]
    where
      inside : T (within 0x8B 0x8E (u1_at code at))
      inside = subst T (sym (range_is ∙ eq-eqb f 1 h)) tt

      last : (u1_at code at ≡ 0x8B → ⊥) → (u1_at code at ≡ 0x8C → ⊥) → (u1_at code at ≡ 0x8D → ⊥) → u1_at code at ≡ 0x8E
      last a b d =
          let low = leb→le 0x8B (u1_at code at) (and_l (leb 0x8B (u1_at code at)) (leb (u1_at code at) 0x8E) inside) in
          let high = leb→le (u1_at code at) 0x8E (and_r (leb 0x8B (u1_at code at)) (leb (u1_at code at) 0x8E) inside) in
          omega arith

  -- both at once
  pub form_empty : empty (call_at code at) ≡ not (eqb f 1)
  form_empty = elim (ℕ_discrete f 1) [
    | yes e ↦ form_calls e ∙ sym (ap not (eq-eqb f 1 e))
    | no e ↦ ap empty (form_quiet e) ∙ sym (ap not (ne_eqb f 1 e))
  ]
