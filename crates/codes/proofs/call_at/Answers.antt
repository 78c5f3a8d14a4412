-- `codes::call_at` meets its contract: one case for each of the four opcodes. Assumes nothing.
use Prim.Native.Nat.{ℕ}
use native.Mathlib.Omega.{arith}
use mathlib.Core.Path.{◌≡◌, sym, ap, ◌∙◌}
use mathlib.Core.List.{List, [], ◌∷◌}
use Rattle.rules.specs.Code.{Call, CallKind, virtual, special, static, interface}
use Rattle.codes.proofs.Opcodes.{room_8_b, room_8_c, room_8_d, room_8_e, call_8_b, call_8_c, call_8_d, call_8_e, no_call}
use Rattle.codes.proofs.call_at.Goals as goal

-- a call of a kind, by the index read
call : (k : CallKind) {x y : ℕ} {calls : List Call} → x ≡ y → calls ≡ record { kind = k; index = y } ∷ [] → record { kind = k; index = x } ∷ [] ≡ calls
call k e f = ap (λ (n : ℕ). record { kind = k; index = n } ∷ []) e ∙ sym f

pub u2_at-requires : goal.u2_at-requires
u2_at-requires c = omega (arith, room_8_b _ _ c.in-139.is c.requires.1)

pub returns-in-139 : goal.returns-in-139
returns-in-139 c = (call virtual c.u2_at.ensures.0 (call_8_b _ _ c.in-139.is), c.u2_at.ensures.1)

pub u2_at-requires-in-140 : goal.u2_at-requires-in-140
u2_at-requires-in-140 c = omega (arith, room_8_c _ _ c.in-140.is c.requires.1)

pub returns-in-140 : goal.returns-in-140
returns-in-140 c = (call special c.u2_at-in-140.ensures.0 (call_8_c _ _ c.in-140.is), c.u2_at-in-140.ensures.1)

pub u2_at-requires-in-141 : goal.u2_at-requires-in-141
u2_at-requires-in-141 c = omega (arith, room_8_d _ _ c.in-141.is c.requires.1)

pub returns-in-141 : goal.returns-in-141
returns-in-141 c = (call static c.u2_at-in-141.ensures.0 (call_8_d _ _ c.in-141.is), c.u2_at-in-141.ensures.1)

pub u2_at-requires-in-142 : goal.u2_at-requires-in-142
u2_at-requires-in-142 c = omega (arith, room_8_e _ _ c.in-142.is c.requires.1)

pub returns-in-142 : goal.returns-in-142
returns-in-142 c = (call interface c.u2_at-in-142.ensures.0 (call_8_e _ _ c.in-142.is), c.u2_at-in-142.ensures.1)

pub returns-in_default : goal.returns-in_default
returns-in_default c = (sym (no_call _ _ (λ e. omega arith) (λ e. omega arith) (λ e. omega arith) (λ e. omega arith)), tt)
