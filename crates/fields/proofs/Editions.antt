-- A file's edition by the two bytes of its version. Assumes nothing.
use Prim.Native.Nat.{ℕ, zero, suc, ◌<◌}
use native.Mathlib.Omega.{arith}
use mathlib.Core.Path.{◌≡◌, refl}
use mathlib.Core.Bool.{Bool, true, false}
use lib.Dec.{eqb}
use lib.ListN.{length, get_or, get_or-eq_default}
use borrow.Author.Tests.{eq-eqb, ne_eqb}
use Rattle.rules.specs.Bytes.{Bytes}
use Rattle.rules.specs.Code.{u2_at}
use Rattle.rules.specs.Package.{edition1, edition_of}
use Rattle.fields.specs.Editions.{edition_if}

-- the edition by a test of the version
edition_by : (f : Bytes) (b : Bool) → eqb (u2_at f 3) 2 ≡ b → edition_of f ≡ edition_if b
unfolding edition_of
edition_by f true e = rw e
edition_by f false e = rw e

-- the low byte is not 2
pub edition_other : (f : Bytes) → (get_or f 4 0 ≡ 2 → ⊥) → edition_of f ≡ edition1
edition_other f h = edition_by f false (ne_eqb (u2_at f 3) 2 (λ e. h (omega arith)))

-- there is none
pub edition_short : (f : Bytes) → length f < 5 → edition_of f ≡ edition1
edition_short f h = edition_other f (λ e. let z : get_or f 4 0 ≡ 0 = get_or-eq_default f 0 (omega arith) in omega arith)

-- it is: the high byte tells
pub edition_told : (f : Bytes) → get_or f 4 0 ≡ 2 → edition_of f ≡ edition_if (eqb (get_or f 3 0) 0)
edition_told f h = go (get_or f 3 0) refl
  where
    go : (n : ℕ) → get_or f 3 0 ≡ n → edition_of f ≡ edition_if (eqb n 0)
    go zero e = edition_by f true (eq-eqb (u2_at f 3) 2 (omega arith))
    go (suc n) e =
        let high : eqb (suc n) 0 ≡ false = ne_eqb (suc n) 0 (λ q. omega arith) in
        rw high (edition_by f false (ne_eqb (u2_at f 3) 2 (λ q. omega arith)))
