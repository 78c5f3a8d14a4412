-- The calls of a code from an offset on: where they begin, each step, the end. Assumes nothing.
use Prim.Native.Nat.{ℕ, ◌+◌, ◌<◌, ◌≤◌}
use native.Mathlib.Omega.{arith}
use mathlib.Core.Path.{◌≡◌, refl, sym, ap, ◌∙◌, subst}
use mathlib.Core.List.{List, [], ◌∷◌, ◌++◌}
use mathlib.Core.Option.{Option, none, some}
use lib.Dec.{T}
use lib.ListN.{length}
use Rattle.rules.specs.Bytes.{Bytes, is_some, some_and, list_of, flat}
use Rattle.rules.specs.Code.{Call, call_at, calls_of, instruction_length, split_from, split, last_may_end, code_splits}
use Rattle.std.specs.Prelude.{Some, None}
use Rattle.std.specs.Prelude.{Option as Optional}
use Rattle.instructions.specs.Table.{Whole}
use Rattle.codes.specs.Calls.{kind_of, SplitsFrom, calls_from, calls_here, IndexFits}
use Rattle.codes.specs.declared.CallHere.{CallHere}
use Rattle.rules.proofs.Splitting.{split_turn, split_ended, split_inside}

-- from offset 0 on they are the calls of the code
pub calls_start : (code : Bytes) → calls_from code 0 ≡ calls_of code
unfolding calls_from calls_of split
calls_start code = refl

-- a code of which question 16 is answered yes splits from offset 0
pub splits_start : (code : Bytes) → T (code_splits code) → SplitsFrom code 0
unfolding SplitsFrom code_splits split
splits_start code h = go (split_from (length code) code 0) h
  where
    go : (o : Option (List ℕ)) → T (some_and o (last_may_end code)) → T (is_some o)
    go none t = t
    go (some starts) t = tt

module _ (code : Bytes) (at : ℕ) (s : SplitsFrom code at) where
  starts : (rest : List ℕ) × (split_from (length code) code at ≡ some rest)
  unfolding SplitsFrom
  starts = go (split_from (length code) code at) s
    where
      go : (o : Option (List ℕ)) → T (is_some o) → (rest : List ℕ) × (o ≡ some rest)
      go none t = absurd t
      go (some rest) t = (rest, refl)

  pub splits_inside : at ≤ length code
  splits_inside = split_inside (length code) code at starts.0 starts.1

  -- at the end no call is left
  pub calls_end : length code ≤ at → calls_from code at ≡ []
  unfolding calls_from
  calls_end h =
      let e : at ≡ length code = omega (arith, splits_inside) in
      ap (λ (o : Option (List ℕ)). list_of o (flat (call_at code))) starts.1
      ∙ ap (flat (call_at code)) (sym (split_ended (length code) code at starts.0 starts.1 e))

  module _ (h : at < length code) where
    -- an instruction is there whole
    pub splits_whole : Whole code at
    splits_whole =
        let t = split_turn (length code) code at starts.0 starts.1 (λ e. omega arith) in
        subst (λ (o : Option ℕ). T (is_some o)) (sym t.2) tt

    -- its call comes first, then those behind it
    pub calls_step : (n : ℕ) → instruction_length code at ≡ some n → SplitsFrom code (at + n) × (calls_from code at ≡ call_at code at ++ calls_from code (at + n))
    unfolding SplitsFrom calls_from
    calls_step n i =
        let t = split_turn (length code) code at starts.0 starts.1 (λ e. omega arith) in
        let q : t.0 ≡ n = same (sym t.2 ∙ i) in
        let r : split_from (length code) code (at + n) ≡ some t.1 = subst (λ (k : ℕ). split_from (length code) code (at + k) ≡ some t.1) q t.3 in (
          subst (λ (o : Option (List ℕ)). T (is_some o)) (sym r) tt,
          ap (λ (o : Option (List ℕ)). list_of o (flat (call_at code))) starts.1
              ∙ ap (flat (call_at code)) (sym t.4)
              ∙ ap (λ (o : Option (List ℕ)). call_at code at ++ list_of o (flat (call_at code))) (sym r),
        )
      where
        same : {m k : ℕ} → some m ≡ some k → m ≡ k
        same e = cc

-- one turn of the walk from call to call: `from` is where it began, n the length of the instruction
module _ (code : Bytes) (from at n : ℕ) (s : SplitsFrom code at) (h : at < length code) (same : calls_from code from ≡ calls_from code at)
    (i : instruction_length code at ≡ some n) (r : Optional CallHere) (e : calls_here r ≡ call_at code at) where
  step : SplitsFrom code (at + n) × (calls_from code from ≡ calls_here r ++ calls_from code (at + n))
  step =
      let t = calls_step code at s h n i in
      (t.0, same ∙ t.1 ∙ ap (λ (l : List Call). l ++ calls_from code (at + n)) (sym e))

  pub walk_call : (c : CallHere) → r ≡ Some c → IndexFits r → from ≤ at → 0 < n → at + n ≤ length code →
      (calls_from code from ≡ record { kind = kind_of c.kind; index = c.index } ∷ calls_from code (at + n))
      × SplitsFrom code (at + n) × (from < at + n) × (at + n ≤ length code) × (c.index < 65536)
  walk_call c q b l z k = (
    step.1 ∙ ap (λ (x : Optional CallHere). calls_here x ++ calls_from code (at + n)) q,
    step.0,
    omega arith,
    k,
    subst IndexFits q b,
  )

  pub walk_on : r ≡ None → SplitsFrom code (at + n) × (calls_from code from ≡ calls_from code (at + n))
  walk_on q = (step.0, step.1 ∙ ap (λ (x : Optional CallHere). calls_here x ++ calls_from code (at + n)) q)
