-- Handlers from the set of starts: whether an instruction starts at an offset, one handler, and all of them, one after the other. Assumes nothing.
use Prim.Native.Nat.{ℕ, suc, ◌+◌, ◌-◌, ◌/◌, ◌≤◌, ◌<◌}
use native.Mathlib.Omega.{arith}
use mathlib.Core.Path.{◌≡◌, refl, sym, ap, ◌∙◌}
use mathlib.Core.Bool.{Bool, true, false, ◌&&◌, ◌||◌, or-true, or-false}
use mathlib.Core.List.{List, [], ◌∷◌}
use mathlib.Core.Option.{Option, some}
use lib.Dec.{eqb}
use lib.ListN.{length}
use borrow.Author.Tests.{lt-ltb, le-ltb, le-leb, lt-leb, eq-eqb, ne_eqb}
use Rattle.rules.specs.Bytes.{Bytes, any, all, some_and}
use Rattle.rules.specs.Code.{u2_at, split, Handler, handler_fits, code_handlers}
use Rattle.bits.specs.Bits.{bit_at}
use Rattle.places.specs.Parts.{handler_at, handlers_at, handlers_in}
use Rattle.codes.specs.Marks.{OfStarts, BeginsIs, FitsIs, AllFitIs}

-- question 24 of a code that splits
pub handlers_are : (code : Bytes) (ks : List ℕ) (hs : List Handler) → split code ≡ some ks → code_handlers code hs ≡ all (handler_fits code ks) hs
unfolding code_handlers
handlers_are code ks hs q = ap (λ (o : Option (List ℕ)). some_and o (λ starts. all (handler_fits code starts) hs)) q

module _ (n : ℕ) (set : Bytes) where
  -- an offset in the code by its bit; past the code none starts
  pub begins_in : (k : ℕ) (r : Bool) → r ≡ bit_at set k → BeginsIs n set k r
  begins_in k r e code ks l m b = e ∙ m k

  pub begins_past : (k : ℕ) → n ≤ k → BeginsIs n set k false
  begins_past k h code ks l m b = go (any (eqb k) ks) refl
    where
      go : (t : Bool) → any (eqb k) ks ≡ t → false ≡ t
      go true e = sym (le-ltb k n h) ∙ b k e
      go false e = refl

  -- one handler: each test that says no, and the last ones
  module _ (hs : Bytes) (at start end : ℕ) (s : start ≡ u2_at hs at) (e : end ≡ u2_at hs (at + 2)) where
    pub fits_empty : end ≤ start → FitsIs n set hs at false
    fits_empty h code ks l m b = rw (← s, ← e, le-ltb start end h) refl

    module _ (p : start < end) where
      pub fits_past : n < end → FitsIs n set hs at false
      fits_past h code ks l m b = rw (← s, ← e, l, lt-ltb start end p, lt-leb end n h) refl

      module _ (q : end ≤ n) (x : Bool) (f : BeginsIs n set start x) where
        pub fits_start : x ≡ false → FitsIs n set hs at false
        fits_start i code ks l m b = rw (← s, ← e, l, lt-ltb start end p, le-leb end n q, sym (f code ks l m b) ∙ i) refl

        module _ (i : x ≡ true) (target : ℕ) (t : target ≡ u2_at hs (at + 4)) (y : Bool) (g : BeginsIs n set target y) where
          -- all that is left to ask is of target and end
          tests_left : (z : Bool) → y ≡ z → OfStarts n set λ code ks. (z && (any (eqb end) ks || eqb end n)) ≡ handler_fits code ks (handler_at hs at)
          tests_left z j code ks l m b =
              let u = sym (f code ks l m b) ∙ i in
              let v = sym (g code ks l m b) ∙ j in
              rw (← s, ← e, ← t, l, lt-ltb start end p, le-leb end n q, u, v) refl

          pub fits_target : y ≡ false → FitsIs n set hs at false
          fits_target j = tests_left false j

          module _ (j : y ≡ true) where
            pub fits_whole : end ≡ n → FitsIs n set hs at true
            fits_whole h code ks l m b =
                sym (ap (λ (z : Bool). any (eqb end) ks || z) (eq-eqb end n h) ∙ or-true (any (eqb end) ks))
                ∙ tests_left true j code ks l m b

            pub fits_end : (end ≡ n → ⊥) → (r : Bool) → BeginsIs n set end r → FitsIs n set hs at r
            fits_end h r o code ks l m b =
                o code ks l m b
                ∙ sym (ap (λ (z : Bool). any (eqb end) ks || z) (ne_eqb end n h) ∙ or-false (any (eqb end) ks))
                ∙ tests_left true j code ks l m b

-- the handlers from a place of the bytes on
abbrev handlers_from : Bytes → ℕ → List Handler
handlers_from hs at = handlers_at ((length hs - at) / 6) hs at

handlers_more : (hs : Bytes) (at : ℕ) → at + 6 ≤ length hs → handlers_from hs at ≡ handler_at hs at ∷ handlers_from hs (at + 6)
unfolding handlers_at
handlers_more hs at h =
    let q : (length hs - at) / 6 ≡ suc ((length hs - (at + 6)) / 6) = omega arith in
    ap (λ (k : ℕ). handlers_at k hs at) q

handlers_end : (hs : Bytes) (at : ℕ) → length hs < at + 6 → handlers_from hs at ≡ []
unfolding handlers_at
handlers_end hs at h =
    let q : (length hs - at) / 6 ≡ 0 = omega arith in
    ap (λ (k : ℕ). handlers_at k hs at) q

-- the loop over them: all fit exactly if those from here on do
abbrev pub FitLoop : ℕ → Bytes → Bytes → ℕ → Type 0
FitLoop n set hs at = OfStarts n set λ code ks. all (handler_fits code ks) (handlers_from hs at) ≡ all (handler_fits code ks) (handlers_in hs)

module _ (n : ℕ) (set hs : Bytes) where
  pub fit_start : FitLoop n set hs 0
  fit_start code ks l m b =
      let q : (length hs - 0) / 6 ≡ length hs / 6 = omega arith in
      ap (λ (k : ℕ). all (handler_fits code ks) (handlers_at k hs 0)) q

  module _ (at : ℕ) (t : FitLoop n set hs at) where
    -- the handler at hand fits or not
    module _ (h : at + 6 ≤ length hs) (r : Bool) (f : FitsIs n set hs at r) where
      turn : (x : Bool) → r ≡ x → OfStarts n set λ code ks.
          (x && all (handler_fits code ks) (handlers_from hs (at + 6))) ≡ all (handler_fits code ks) (handlers_in hs)
      turn x e code ks l m b =
          ap (λ (y : Bool). y && all (handler_fits code ks) (handlers_from hs (at + 6))) (sym e ∙ f code ks l m b)
          ∙ ap (all (handler_fits code ks)) (sym (handlers_more hs at h))
          ∙ t code ks l m b

      pub fit_on : r ≡ true → FitLoop n set hs (at + 6)
      fit_on e = turn true e

      pub fit_bad : r ≡ false → AllFitIs n set hs false
      fit_bad e = turn false e

    pub fit_done : length hs < at + 6 → AllFitIs n set hs true
    fit_done h code ks l m b = ap (all (handler_fits code ks)) (sym (handlers_end hs at h)) ∙ t code ks l m b
