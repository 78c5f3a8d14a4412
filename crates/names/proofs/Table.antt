-- The table of names: what is among the first n of it, and after a name is put behind them. Assumes nothing.
use Prim.Native.Nat.{ℕ, zero, suc, ◌+◌, ◌≤◌, ◌<◌}
use native.Mathlib.Omega.{arith}
use native.Mathlib.Nat.{eq-or-lt_of_le}
use native.Mathlib.Numerals.{add-one}
use mathlib.Core.Path.{◌≡◌, refl}
use mathlib.Core.Bool.{Bool, false, ◌||◌}
use mathlib.Core.List.{List}
use mathlib.Core.Logic.{⊎_elim}
use lib.Dec.{eqb}
use lib.ListN.{length, get_or, set, length-set}
use lib.Seq.{get_or-set_same, get_or-set_other}
use borrow.Author.Tests.{ne_eqb}
use Rattle.names.specs.Say.{among, Below}

-- a turn of the comparison
pub among_more : (names : List ℕ) (i x : ℕ) (found : Bool) → found ≡ among names i x → (found || eqb (get_or names i 0) x) ≡ among names (i + 1) x
among_more names i x found e = rw (e, add-one)

-- a name that none of them reaches
pub among_below : (names : List ℕ) (n top x : ℕ) → ((i : ℕ) → i < n → get_or names i 0 < top) → top ≤ x → among names n x ≡ false
among_below names zero top x h g = refl
among_below names (suc n) top x h g =
    let e : among names n x ≡ false = among_below names n top x (λ i k. h i (omega arith)) g in
    let d : eqb (get_or names n 0) x ≡ false = ne_eqb (get_or names n 0) x (λ z. omega (arith, h n (omega arith))) in
    rw (e, d)

-- those before are as they were
among_kept : (names : List ℕ) (k v n x : ℕ) → n ≤ k → among (set names k v) n x ≡ among names n x
among_kept names k v zero x h = refl
among_kept names k v (suc n) x h =
    let e : among (set names k v) n x ≡ among names n x = among_kept names k v n x (omega arith) in
    rw (e, get_or-set_other names k n v 0 (λ z. omega arith))

module _ (names : List ℕ) (n v : ℕ) (room : n < length names) where
  -- a name put behind the n before
  pub among_put : (x : ℕ) → among (set names n v) (n + 1) x ≡ (among names n x || eqb v x)
  among_put x = rw (add-one, among_kept names n v n x (omega arith), get_or-set_same names n v 0 room)

  pub below_put : (top high : ℕ) → Below names n top → top ≤ high → v < high → Below (set names n v) (n + 1) high
  below_put top high b h g = (rw (length-set names n v) (omega arith), λ i k. ⊎_elim (here i) (before i) (eq-or-lt_of_le (let e : i ≤ n = omega arith in e)))
    where
      here : (i : ℕ) → i ≡ n → get_or (set names n v) i 0 < high
      here i e = rw (e, get_or-set_same names n v 0 room) g

      before : (i : ℕ) → i < n → get_or (set names n v) i 0 < high
      before i k = rw (get_or-set_other names n i v 0 (λ z. omega arith)) (omega (arith, b.1 i k))
