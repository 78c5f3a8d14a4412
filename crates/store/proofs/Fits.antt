-- Question 21 by lengths. Assumes nothing.
use Prim.Native.Nat.{ℕ, ◌+◌, ◌<◌, ◌≤◌}
use native.Mathlib.Omega.{arith}
use mathlib.Core.Path.{◌≡◌, refl, sym, ap, ◌∙◌}
use mathlib.Core.Bool.{Bool, true, false}
use lib.Dec.{leb}
use lib.ListN.{length, length-append}
use borrow.Author.Tests.{leb-true, leb-false, le-leb, lt-leb}
use Rattle.rules.specs.Bytes.{Bytes}
use Rattle.rules.specs.Store.{Entry, loaded, body, entry_bytes, used, store_opening}
use Rattle.rules.specs.Questions.{q21_fits}
use Rattle.store.specs.Answers.{Fits}

-- 21, by lengths
pub fits_is : (s : Bytes) (u n : ℕ) (e : Entry) (b : Bool) → length (body e) ≡ n → b ≡ leb (u + (3 + n)) (length s) → Fits s u e b
unfolding q21_fits
fits_is s u n e b l h es q = let m : u + (3 + n) ≡ used (store_opening s) es + length (entry_bytes e) = omega arith in h ∙ ap (λ (x : ℕ). leb x (length s)) m

-- the length of a package's body
pub loaded_length : (d f : Bytes) → length (body (loaded d f)) ≡ 1 + length d + length f
loaded_length d f = omega (arith, length-append d f)

-- tests of two orders that say the same
pub leb_same : (a b m n : ℕ) → (a ≤ b → m ≤ n) → (b < a → n < m) → leb a b ≡ leb m n
leb_same a b m n f g = go (leb a b) refl
  where
    go : (t : Bool) → leb a b ≡ t → t ≡ leb m n
    go true e = sym (le-leb m n (f (leb-true a b e)))
    go false e = sym (lt-leb m n (g (leb-false a b e)))
