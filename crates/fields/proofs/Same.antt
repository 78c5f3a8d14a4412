-- Comparing two lists of bytes one byte after the other: the laws of the loop.
-- Assumes nothing.
use Prim.Native.Nat.{ℕ, suc, ◌+◌, ◌≤◌, ◌<◌}
use native.Mathlib.Numerals.{add-one}
use mathlib.Core.Path.{◌≡◌, refl, ap}
use mathlib.Core.Bool.{Bool, true, false, ◌&&◌}
use mathlib.Core.List.{[], ◌∷◌}
use lib.Dec.{eqb}
use lib.ListN.{length, get_or, drop, drop_of_length-le}
use lib.Seq.{drop-cons}
use borrow.Author.Tests.{eq-eqb, ne_eqb}
use Rattle.rules.specs.Bytes.{Bytes, same}

and_no : (a : Bool) → (a && false) ≡ false
and_no true = refl
and_no false = refl

drop_one : (s : Bytes) (i : ℕ) → i < length s → drop i s ≡ get_or s i 0 ∷ drop (i + 1) s
drop_one s i h = rw (add-one, drop-cons s i 0)

pub same_lengths : (a b : Bytes) → (length a ≡ length b → ⊥) → same a b ≡ false
same_lengths [] [] h = absurd (h refl)
same_lengths [] (y ∷ ys) h = refl
same_lengths (x ∷ xs) [] h = refl
same_lengths (x ∷ xs) (y ∷ ys) h = rw (same_lengths xs ys (λ e. h (ap suc e))) (and_no (eqb x y))

pub same_step : (a b : Bytes) (i : ℕ) → i < length a → i < length b → get_or a i 0 ≡ get_or b i 0 → same (drop i a) (drop i b) ≡ same (drop (i + 1) a)
    (drop (i + 1) b)
same_step a b i ha hb e = rw (drop_one a i ha, drop_one b i hb, eq-eqb (get_or a i 0) (get_or b i 0) e)

pub same_differ : (a b : Bytes) (i : ℕ) → i < length a → i < length b → (get_or a i 0 ≡ get_or b i 0 → ⊥) → same (drop i a) (drop i b) ≡ false
same_differ a b i ha hb e = rw (drop_one a i ha, drop_one b i hb, ne_eqb (get_or a i 0) (get_or b i 0) e)

pub same_end : (a b : Bytes) (i : ℕ) → length a ≤ i → length b ≤ i → same (drop i a) (drop i b) ≡ true
same_end a b i ha hb = rw (drop_of_length-le a {i = i} ha, drop_of_length-le b {i = i} hb)
