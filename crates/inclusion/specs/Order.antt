-- Policies compared by their indexes, where two lists of domains begin alike. Assumes nothing.
--
-- slot_as own i          == index or slot i, those of domains below 32, with a number for FE
-- IndexBits s i own m   == the bits of m are the indexes of the policy at i, `own` for FE
-- BitsIs s i own m r    == r is whether each of them is a bit of m
-- OwnBit d e n r        == the number r for FE is n where both domains are the same, else 63
-- prefix gs ds          == ds begins with gs
-- PrefixIs a u b v r    == r is whether the domains of a at u begin with those of b at v
-- OrderTells a b q m .. == where the answer is yes, they do, and the indexes of the policy of b at q are bits of m
use Rattle.std.specs.Prelude.{ℕ, ◌%◌, ◌<◌, ◌≡◌, List, [], ◌∷◌, Bool, true, false, ◌&&◌, eqb, ltb}
use Rattle.rules.specs.Bytes.{Bytes, Aid, pick, any, all, same}
use Rattle.rules.specs.Package.{most_domains}
use Rattle.policies.specs.Say.{indexes_at}
use Rattle.policies.specs.Numbers.{OfDomains}
use Rattle.policies.specs.Rows.{has_bit}
use Rattle.policies.specs.declared.RightsPlace.{RightsPlace}
use Rattle.inclusion.specs.declared.Masked.{Masked}

abbrev pub slot_as : ℕ → ℕ → ℕ
slot_as own i = pick (ltb i most_domains) i own

abbrev pub IndexBits : Bytes → ℕ → ℕ → ℕ → Type 0
IndexBits s i own m = (n : ℕ) → n < 64 → has_bit m n ≡ any (λ k. eqb (slot_as own k % 64) n) (indexes_at s i)

abbrev pub BitsIs : Bytes → ℕ → ℕ → ℕ → Bool → Type 0
BitsIs s i own m r = r ≡ all (λ k. has_bit m (slot_as own k)) (indexes_at s i)

abbrev pub OwnBit : Aid → Aid → ℕ → ℕ → Type 0
OwnBit d e n r = r ≡ pick (same d e) n 63

abbrev pub prefix : List Aid → List Aid → Bool
prefix [] ds = true
prefix (g ∷ gs) [] = false
prefix (g ∷ gs) (d ∷ ds) = same g d && prefix gs ds

abbrev pub PrefixIs : Bytes → ℕ → Bytes → ℕ → Bool → Type 0
PrefixIs a u b v r = OfDomains a u λ ds. OfDomains b v λ gs. r ≡ prefix gs ds

pub record OrderTells (a b : Bytes) (q : RightsPlace) (m : Masked) (own : ℕ) (r : Bool) : Type 0 where
  pub bits : r ≡ true → BitsIs b q.policy own m.bits true
  pub alike : r ≡ true → PrefixIs a m.domains b q.domains true
