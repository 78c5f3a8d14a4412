-- The number of questions 16, 17 and 24 of one code: from what the walk leaves, and back to the answers. Assumes nothing.
use Prim.Native.Nat.{ℕ}
use mathlib.Core.Path.{◌≡◌, refl, sym, ap, ◌∙◌}
use mathlib.Core.Bool.{Bool, true, false, not}
use mathlib.Core.List.{List, [], ◌∷◌}
use mathlib.Core.Option.{Option, none, some}
use lib.ListN.{length}
use Rattle.rules.specs.Bytes.{Bytes, pick, some_and, list_of, flat}
use Rattle.rules.specs.Code.{u1_at, split, may_end, last_may_end, code_splits, code_branches, code_handlers, call_at, calls_of}
use Rattle.bits.specs.Bits.{WithinIs}
use Rattle.places.specs.Parts.{handlers_in}
use Rattle.std.specs.Prelude.{Ok}
use Rattle.refusals.specs.Order.{code_told}
use Rattle.rules.proofs.Tests.{none_some}
use Rattle.std.specs.Prelude.{Option as Optional}
use Rattle.fields.specs.Told.{told}
use Rattle.codes.specs.Marks.{last_of, last_in, empty, Passed, Walk, AllFitIs, no_calls, code_number}
use Rattle.codes.proofs.Landing.{lands_outside, lands_inside}
use Rattle.codes.proofs.Fitting.{handlers_are}

-- the opcode that comes last
ends_none : (code : Bytes) (starts : List ℕ) → last_of starts ≡ none → last_may_end code starts ≡ false
ends_none code [] e = refl
ends_none code (at ∷ []) e = absurd (none_some (sym e))
ends_none code (at ∷ next ∷ starts) e = ends_none code (next ∷ starts) e

ends_last : (code : Bytes) (starts : List ℕ) (k : ℕ) → last_of starts ≡ some k → last_may_end code starts ≡ may_end (u1_at code k)
ends_last code [] k e = absurd (none_some e)
ends_last code (at ∷ []) k e = let q : at ≡ k = cc in ap (λ (k : ℕ). may_end (u1_at code k)) q
ends_last code (at ∷ next ∷ starts) k e = ends_last code (next ∷ starts) k e

-- from what the walk leaves to the number
module _ (code hs : Bytes) (last : Optional ℕ) (inside calls : Bool) (starts targets : Bytes) (w : Walk code last inside calls starts targets) where
  pub number_none : told last ≡ none → code_number code (handlers_in hs) ≡ 16
  unfolding code_splits
  number_none z = rw (go (split code) (sym w.answered ∙ z))
    where
      go : (o : Option (List ℕ)) → last_in o ≡ none → some_and o (last_may_end code) ≡ false
      go none q = refl
      go (some ks) q = ends_none code ks q

  module _ (k : ℕ) (z : told last ≡ some k) where
    splits : (ks : List ℕ) × (split code ≡ some ks) × (code_splits code ≡ may_end (u1_at code k))
    unfolding code_splits
    splits = go (split code) refl
      where
        go : (o : Option (List ℕ)) → split code ≡ o → (ks : List ℕ) × (split code ≡ some ks) × (some_and (split code) (last_may_end code) ≡ may_end (u1_at code k))
        go none q = absurd (none_some (sym (ap last_in q) ∙ sym w.answered ∙ z))
        go (some ks) q =
            (ks, q, ap (λ (o : Option (List ℕ)). some_and o (last_may_end code)) q ∙ ends_last code ks k (sym (w.answered ∙ ap last_in q) ∙ z))

    pub number_ends : may_end (u1_at code k) ≡ false → code_number code (handlers_in hs) ≡ 16
    number_ends e = rw (splits.2 ∙ e)

    module _ (e : may_end (u1_at code k) ≡ true) where
      yes_16 : code_splits code ≡ true
      yes_16 = splits.2 ∙ e

      passed : Passed code inside calls starts targets splits.0
      passed = w.passed splits.0 splits.1

      pub number_outside : inside ≡ false → code_number code (handlers_in hs) ≡ 17
      number_outside i = rw (yes_16, lands_outside code inside calls starts targets splits.0 splits.1 passed i)

      module _ (i : inside ≡ true) (r : Bool) (v : WithinIs targets starts r) where
        lands : code_branches code ≡ r
        lands = lands_inside code inside calls starts targets splits.0 splits.1 passed i r v

        pub number_missed : r ≡ false → code_number code (handlers_in hs) ≡ 17
        number_missed q = rw (yes_16, lands ∙ q)

        module _ (q : r ≡ true) (f : Bool) (a : AllFitIs (length code) starts hs f) where
          fit : code_handlers code (handlers_in hs) ≡ f
          fit = handlers_are code splits.0 (handlers_in hs) splits.1 ∙ sym (a code splits.0 refl passed.marked passed.below)

          pub number_misfits : f ≡ false → code_number code (handlers_in hs) ≡ 24
          number_misfits g = rw (yes_16, lands ∙ q, fit ∙ g)

          calls_are : no_calls code ≡ not calls
          unfolding no_calls calls_of
          calls_are = ap (λ (o : Option (List ℕ)). empty (list_of o (flat (call_at code)))) splits.1 ∙ sym passed.called

          pub number_lands : f ≡ true → code_told (Ok calls) ≡ code_number code (handlers_in hs)
          number_lands g = by calls ∙ sym (rw (yes_16, lands ∙ q, fit ∙ g, calls_are) refl)
            where
              by : (b : Bool) → code_told (Ok b) ≡ pick (not b) 0 18
              by true = refl
              by false = refl
