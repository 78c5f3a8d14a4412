-- The walk over a code that question 26 takes: what is known where a turn begins, a turn, and what its end says. Assumes nothing.
--
-- k == how many instructions at most are split off from an offset on
use Prim.Native.Nat.{ℕ, suc, ◌+◌, ◌-◌, ◌<◌, ◌≤◌}
use native.Mathlib.Omega.{arith}
use mathlib.Core.Path.{◌≡◌, refl, ap, ◌∙◌}
use mathlib.Core.Bool.{Bool, true, false, ◌&&◌, not}
use mathlib.Core.List.{List}
use mathlib.Core.Option.{Option, none, some}
use lib.ListN.{length}
use Rattle.rules.specs.Bytes.{Bytes, all, some_and}
use Rattle.rules.specs.Code.{instruction_length, split_from, split}
use Rattle.rules.specs.Subset.{barred_at, code_without_int}
use Rattle.rules.proofs.Splitting.{behind, split_end, split_none, split_more}
use Rattle.instructions.specs.Table.{Whole}
use Rattle.instructions.proofs.Sizes.{whole_is}

module _ (code : Bytes) where
  -- none of these instructions is barred, where there is a split
  abbrev none_in : Option (List ℕ) → Bool
  none_in o = some_and o (all λ k. not (barred_at code k))

  -- where a turn begins, none of the instructions passed is barred
  pub record Unbarred (at : ℕ) : Type 0 where
    pub fuel : ℕ
    pub enough : length code ≤ at + fuel
    pub same : code_without_int code ≡ none_in (split_from fuel code at)
    pub within : at ≤ length code

  pub unbarred_start : Unbarred 0
  unfolding code_without_int split
  unbarred_start = record { fuel = length code; enough = omega arith; same = refl; within = omega arith }

  none_behind : (at : ℕ) (o : Option (List ℕ)) → none_in (behind at o) ≡ (none_in o && not (barred_at code at))
  none_behind at none = refl
  none_behind at (some starts) = turned (not (barred_at code at)) (all (λ k. not (barred_at code k)) starts)
    where
      turned : (a b : Bool) → (a && b) ≡ (b && a)
      turned true true = refl
      turned true false = refl
      turned false true = refl
      turned false false = refl

  module _ (at : ℕ) (u : Unbarred at) where
    -- the end of the code
    pub unbarred_end : length code ≤ at → code_without_int code ≡ true
    unbarred_end h = u.same ∙ ap none_in (split_end code at u.fuel (omega (arith, u.within)))

    module _ (h : at < length code) where
      -- no instruction is there whole
      pub unbarred_broken : instruction_length code at ≡ none → code_without_int code ≡ false
      unbarred_broken i = u.same ∙ ap none_in (split_none code at u.fuel (λ e. omega arith) i)

      module _ (n : ℕ) (i : instruction_length code at ≡ some n) (z : 0 < n) where
        pub whole : Whole code at
        whole = whole_is (instruction_length code at) n i

        step : code_without_int code ≡ (none_in (split_from (u.fuel - 1) code (at + n)) && not (barred_at code at))
        step =
            let e : u.fuel ≡ suc (u.fuel - 1) = omega (arith, u.enough) in
            u.same ∙ ap (λ (k : ℕ). none_in (split_from k code at)) e
            ∙ ap none_in (split_more code at (u.fuel - 1) n (λ q. omega arith) i)
            ∙ none_behind at (split_from (u.fuel - 1) code (at + n))

        -- one is barred
        pub unbarred_hit : barred_at code at ≡ true → code_without_int code ≡ false
        unbarred_hit e =
            step ∙ ap (λ (b : Bool). none_in (split_from (u.fuel - 1) code (at + n)) && not b) e ∙ and_no (none_in (split_from (u.fuel - 1) code (at + n)))
          where
            and_no : (b : Bool) → (b && false) ≡ false
            and_no true = refl
            and_no false = refl

        -- it is not, and the walk goes on
        pub unbarred_on : barred_at code at ≡ false → at + n ≤ length code → Unbarred (at + n)
        unbarred_on e b = record {
          fuel = u.fuel - 1;
          enough = omega (arith, u.enough, z);
          same = step ∙ ap (λ (c : Bool). none_in (split_from (u.fuel - 1) code (at + n)) && not c) e ∙ and_yes (none_in (split_from (u.fuel - 1) code (at + n)));
          within = b;
        }
          where
            and_yes : (b : Bool) → (b && true) ≡ b
            and_yes true = refl
            and_yes false = refl
