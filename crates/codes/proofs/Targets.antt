-- Where an instruction branches, by the form of its opcode; the offsets of a switch, one after the other. Assumes nothing.
--
-- f, n == form and size of the opcode at an offset
use Prim.Native.Nat.{ℕ, zero, suc, ◌+◌, ◌*◌, ◌<◌, ◌≤◌}
use native.Mathlib.Omega.{arith}
use native.Mathlib.Nat.{mul-suc}
use native.Mathlib.Decide.{ℕ_discrete}
use mathlib.Core.Path.{◌≡◌, refl, sym, ap, ap₂, ◌∙◌}
use mathlib.Core.Bool.{Bool, true, false}
use mathlib.Core.List.{List, [], ◌∷◌}
use mathlib.Core.Option.{Option, some}
use lib.Dec.{eqb}
use lib.IntN.{ℤ, pos, ◌+ℤ◌}
use borrow.Author.Tests.{eq-eqb, ne_eqb, le-leb, lt-leb}
use Rattle.rules.specs.Bytes.{Bytes, pick, list_of}
use Rattle.rules.specs.Code.{u1_at, s1_at, s2_at, by_opcode, undefined, targets_each, switch_targets, targets_as, targets_at, switch_entries}
use Rattle.instructions.specs.Table.{switch_of, told, Says}
use Rattle.codes.specs.Marks.{entry_targets}

pub mul_less : (k n rest : ℕ) → n ≡ suc rest → k * n ≡ k * rest + k
mul_less k n rest h = ap (λ (m : ℕ). k * m) h ∙ mul-suc k rest

-- n offsets of a switch, from one at a field on
module _ (code : Bytes) (at field step : ℕ) where
  pub each_done : (n : ℕ) → n ≤ 0 → targets_each n code at field step ≡ []
  unfolding targets_each
  each_done zero h = refl
  each_done (suc n) h = absurd (omega arith)

  pub each_more : (n rest : ℕ) → n ≡ suc rest → targets_each n code at field step ≡ (pos at +ℤ s2_at code field) ∷ targets_each rest code at (field + step) step
  unfolding targets_each
  each_more n rest h = ap (λ (m : ℕ). targets_each m code at field step) h

module _ (code : Bytes) (at f n : ℕ) (s : Says (u1_at code at) f n) where
  targets_are : targets_at code at ≡ pick (eqb f 2) ((pos at +ℤ s1_at code (at + 1)) ∷ []) (
      pick (eqb f 3) ((pos at +ℤ s2_at code (at + 1)) ∷ []) (targets_as (told f n) code at))
  unfolding targets_at
  targets_are = rw (s.by_s1, s.by_s2, s.tells)

  pub no_targets : f ≤ 1 → targets_at code at ≡ []
  unfolding told
  no_targets e = targets_are ∙ rw (ne_eqb f 2 (λ q. omega arith), ne_eqb f 3 (λ q. omega arith), le-leb f 3 (omega arith)) (go (eqb n 0))
    where
      go : (t : Bool) → targets_as (pick t undefined (by_opcode n)) code at ≡ []
      go true = refl
      go false = refl

  pub s1_target : f ≡ 2 → targets_at code at ≡ (pos at +ℤ s1_at code (at + 1)) ∷ []
  s1_target e = targets_are ∙ rw (eq-eqb f 2 e)

  pub s2_target : f ≡ 3 → targets_at code at ≡ (pos at +ℤ s2_at code (at + 1)) ∷ []
  s2_target e = targets_are ∙ rw (ne_eqb f 2 (λ q. omega arith), eq-eqb f 3 e)

  pub switch_targets_lem : 3 < f → targets_at code at ≡ (pos at +ℤ s2_at code (at + 1)) ∷ entry_targets (switch_of f) code at
  unfolding told switch_targets
  switch_targets_lem h = targets_are ∙ rw (ne_eqb f 2 (λ q. omega arith), ne_eqb f 3 (λ q. omega arith), lt-leb f 3 h)

  -- of an s2 branch or a switch the first target
  pub wide_target : 2 < f → (rest : List ℤ) × (targets_at code at ≡ (pos at +ℤ s2_at code (at + 1)) ∷ rest)
  wide_target h = elim (ℕ_discrete f 3) [
    | yes e ↦ ([], s2_target e)
    | no e ↦ (entry_targets (switch_of f) code at, switch_targets_lem (omega arith))
  ]

-- the entries of a switch by their number, from the first one's offset on
pub entries_are : (f : ℕ) (code : Bytes) (at r first step : ℕ) → switch_entries (switch_of f) code at ≡ some r →
    first ≡ at + (switch_of f).head + (switch_of f).offset → step ≡ (switch_of f).entry → targets_each r code at first step ≡ entry_targets (switch_of f) code at
entries_are f code at r first step e a b =
    ap₂ (λ (q k : ℕ). targets_each r code at q k) a b
    ∙ sym (ap (λ (o : Option ℕ). list_of o (λ n. targets_each n code at (at + (switch_of f).head + (switch_of f).offset) (switch_of f).entry)) e)
