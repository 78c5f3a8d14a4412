-- The loop that gathers numbers of the indexes of a policy as bits, whatever tells the numbers. Assumes nothing.
use Prim.Native.Nat.{ℕ, ◌+◌, ◌≤◌, ◌<◌}
use mathlib.Core.Path.{◌≡◌, refl, sym, ◌∙◌}
use mathlib.Core.Bool.{Bool, true, false, ◌||◌}
use mathlib.Core.List.{List}
use lib.Dec.{eqb}
use lib.ListN.{length, drop, get_or}
use Rattle.std.proofs.lemmas.List.{drop_more, drop_all}
use Rattle.rules.specs.Bytes.{any}
use Rattle.policies.specs.Rows.{has_bit, with_bit}
use Rattle.policies.proofs.Masks.{bit_more, bit_none}

-- the bits of m are the numbers that v tells of the indexes before number k
abbrev pub Gathered : (ℕ → ℕ) → List ℕ → ℕ → ℕ → Type 0
Gathered v xs k m = (n : ℕ) → n < 64 → (has_bit m n || any (λ i. eqb (v i) n) (drop k xs)) ≡ any (λ i. eqb (v i) n) xs

module _ (v : ℕ → ℕ) (xs : List ℕ) where
  pub gathered_start : Gathered v xs 0 0
  gathered_start n q = rw (bit_none n)

  module _ (k m : ℕ) (s : Gathered v xs k m) where
    pub gathered_more : (r : ℕ) → r < 64 → r ≡ v (get_or xs k 0) → k < length xs → Gathered v xs (k + 1) (with_bit m r)
    gathered_more r j e h n q =
        let u = rw (drop_more xs k 0 h) at (s n q) in
        rw (bit_more m r n j q, e) (shift (eqb (v (get_or xs k 0)) n) (has_bit m n) (any (λ i. eqb (v i) n) (drop (k + 1) xs)) ∙ u)
      where
        shift : (x y z : Bool) → ((x || y) || z) ≡ (y || (x || z))
        shift true true z = refl
        shift true false z = refl
        shift false y z = refl

    pub gathered_done : length xs ≤ k → (n : ℕ) → n < 64 → has_bit m n ≡ any (λ i. eqb (v i) n) xs
    gathered_done h n q = sym (or_false (has_bit m n)) ∙ rw (drop_all k xs h) at (s n q)
      where
        or_false : (b : Bool) → (b || false) ≡ b
        or_false true = refl
        or_false false = refl
