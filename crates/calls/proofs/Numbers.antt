-- Tests of lists, and answers that were no or yes. Assumes nothing.
use Prim.Native.Nat.{ℕ, suc}
use mathlib.Core.Path.{◌≡◌, refl, sym, ap, subst}
use mathlib.Core.Bool.{Bool, true, false, ◌&&◌, not}
use mathlib.Core.List.{List, [], ◌∷◌}
use Rattle.rules.specs.Bytes.{all, all_from}

-- tests that do not ask for the number of an element
pub all_from_all : {A : Type 0} (p : A → Bool) (k : ℕ) (xs : List A) → all_from (λ i x. p x) k xs ≡ all p xs
all_from_all p k [] = refl
all_from_all p k (x ∷ xs) = ap (λ (b : Bool). p x && b) (all_from_all p (suc k) xs)

-- what is told of an answer, where that was no or yes
module _ (q : Bool → Type 0) {r : Bool} where
  pub was_no : not r ≡ true → q r → q false
  was_no e h = go r e h
    where
      go : (b : Bool) → not b ≡ true → q b → q false
      go false e h = h
      go true e h = subst q (sym e) h

  pub was_yes : not r ≡ false → q r → q true
  was_yes e h = go r e h
    where
      go : (b : Bool) → not b ≡ false → q b → q true
      go true e h = h
      go false e h = subst q (sym e) h
