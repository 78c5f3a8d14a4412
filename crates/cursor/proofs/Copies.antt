-- The end of a list of equal values. Assumes nothing.
use mathlib.Core.Path.{◌≡◌}
use Prim.Native.Nat.{ℕ, zero, suc, ◌-◌}
use native.Mathlib.Nat.{suc-sub-suc, sub-zero, zero-sub}
use lib.ListN.{drop, replicate}

pub drop_replicate : (m n a : ℕ) → drop m (replicate n a) ≡ replicate (n - m) a
drop_replicate zero n a = rw (sub-zero n)
drop_replicate (suc m) zero a = rw (zero-sub (suc m))
drop_replicate (suc m) (suc n) a = rw (suc-sub-suc n m) (drop_replicate m n a)
