-- Splitting a code, one instruction after the other. Assumes nothing.
--
-- k == how many instructions at most are split off
use Prim.Native.Nat.{ℕ, zero, suc, ◌+◌, ◌≤◌}
use native.Mathlib.Omega.{arith}
use native.Mathlib.Decide.{ℕ_discrete}
use mathlib.Core.Path.{◌≡◌, refl, sym, ap, ◌∙◌}
use mathlib.Core.List.{List, [], ◌∷◌}
use mathlib.Core.Option.{Option, none, some}
use lib.ListN.{length}
use borrow.Author.Tests.{eq-eqb, ne_eqb}
use Rattle.rules.specs.Bytes.{Bytes, ◌and_then◌}
use Rattle.rules.specs.Code.{instruction_length, split_from}
use Rattle.rules.proofs.Tests.{none_some, and_then_is}

-- one instruction and what is behind it
abbrev pub behind : ℕ → Option (List ℕ) → Option (List ℕ)
behind at o = o and_then λ starts. some (at ∷ starts)

module _ (code : Bytes) (at : ℕ) where
  pub split_end : (k : ℕ) → at ≡ length code → split_from k code at ≡ some []
  unfolding split_from
  split_end zero e = rw (eq-eqb at (length code) e)
  split_end (suc k) e = rw (eq-eqb at (length code) e)

  pub split_none : (k : ℕ) → (at ≡ length code → ⊥) → instruction_length code at ≡ none → split_from k code at ≡ none
  unfolding split_from
  split_none zero h e = rw (ne_eqb at (length code) h)
  split_none (suc k) h e = rw (ne_eqb at (length code) h, e)

  pub split_more : (k n : ℕ) → (at ≡ length code → ⊥) → instruction_length code at ≡ some n → split_from (suc k) code at ≡ behind at (split_from k code (at + n))
  unfolding split_from
  split_more k n h e = rw (ne_eqb at (length code) h, e)

  -- before its end a code that splits has an instruction, and splits behind it
  turn : (k : ℕ) (starts : List ℕ) → (at ≡ length code → ⊥) → split_from (suc k) code at ≡ some starts →
      (n : ℕ) × (rest : List ℕ) × (instruction_length code at ≡ some n) × (split_from k code (at + n) ≡ some rest) × (at ∷ rest ≡ starts)
  turn k starts h e = go (instruction_length code at) refl
    where
      go : (o : Option ℕ) → instruction_length code at ≡ o →
          (n : ℕ) × (rest : List ℕ) × (instruction_length code at ≡ some n) × (split_from k code (at + n) ≡ some rest) × (at ∷ rest ≡ starts)
      go none q = absurd (none_some (sym (split_none (suc k) h q) ∙ e))
      go (some n) q =
          let r = and_then_is (split_from k code (at + n)) (λ (l : List ℕ). some (at ∷ l)) starts (sym (split_more k n h q) ∙ e) in
          (n, r.0, q, r.1, same_some r.2)
        where
          same_some : {xs ys : List ℕ} → some xs ≡ some ys → xs ≡ ys
          same_some q = cc

  no_turn : (starts : List ℕ) → (at ≡ length code → ⊥) → split_from 0 code at ≡ some starts → ⊥
  unfolding split_from
  no_turn starts h e = none_some (rw (ne_eqb at (length code) h) at e)

-- a greater bound changes nothing where the code splits
pub split_longer : (k : ℕ) (code : Bytes) (at : ℕ) (starts : List ℕ) → split_from k code at ≡ some starts → split_from (suc k) code at ≡ some starts
split_longer zero code at starts e =
    elim (ℕ_discrete at (length code)) [
      | yes q ↦ split_end code at 1 q ∙ sym (split_end code at 0 q) ∙ e
      | no h ↦ absurd (no_turn code at starts h e)
    ]
split_longer (suc k) code at starts e =
    elim (ℕ_discrete at (length code)) [
      | yes q ↦ split_end code at (suc (suc k)) q ∙ sym (split_end code at (suc k) q) ∙ e
      | no h ↦
          let t = turn code at k starts h e in
          split_more code at (suc k) t.0 h t.2
          ∙ ap (behind at) (split_longer k code (at + t.0) t.1 t.3)
          ∙ ap some t.4
    ]

module _ (k : ℕ) (code : Bytes) (at : ℕ) (starts : List ℕ) (e : split_from k code at ≡ some starts) where
  -- the same turn, with the same bound behind it
  pub split_turn : (at ≡ length code → ⊥) →
      (n : ℕ) × (rest : List ℕ) × (instruction_length code at ≡ some n) × (split_from k code (at + n) ≡ some rest) × (at ∷ rest ≡ starts)
  split_turn h = go k e
    where
      go : (k : ℕ) → split_from k code at ≡ some starts →
          (n : ℕ) × (rest : List ℕ) × (instruction_length code at ≡ some n) × (split_from k code (at + n) ≡ some rest) × (at ∷ rest ≡ starts)
      go zero e = absurd (no_turn code at starts h e)
      go (suc k) e = let t = turn code at k starts h e in (t.0, t.1, t.2, split_longer k code (at + t.0) t.1 t.3, t.4)

  pub split_ended : at ≡ length code → [] ≡ starts
  split_ended q = let z : some [] ≡ some starts = sym (split_end code at k q) ∙ e in cc

-- it splits only from within
pub split_inside : (k : ℕ) (code : Bytes) (at : ℕ) (starts : List ℕ) → split_from k code at ≡ some starts → at ≤ length code
split_inside zero code at starts e =
    elim (ℕ_discrete at (length code)) [
      | yes q ↦ omega arith
      | no h ↦ absurd (no_turn code at starts h e)
    ]
split_inside (suc k) code at starts e =
    elim (ℕ_discrete at (length code)) [
      | yes q ↦ omega arith
      | no h ↦ let t = turn code at k starts h e in omega (arith, split_inside k code (at + t.0) t.1 t.3)
    ]
