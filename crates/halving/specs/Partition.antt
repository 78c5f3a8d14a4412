-- Where a test ceases to hold. Assumes nothing.
--
-- PartedAt says a e r == r lies from a up to e; of the number right before r, if it is not before a, the test says yes; of r, if below e, no
use Rattle.std.specs.Prelude.{ℕ, ◌-◌, ◌<◌, ◌≤◌, Bool, true, false}

pub record PartedAt (says : ℕ → Bool → Type 0) (a e r : ℕ) : Type 0 where
  pub low : a ≤ r
  pub high : r ≤ e
  pub before : a < r → says (r - 1) true
  pub there : r < e → says r false
