-- Bit sets and fields of a width over bytes. Assumes nothing.
--
-- power_of k        == 2 to the k, for k below 8
-- flag w k         == bit k of the byte w, 0 or 1
-- bit_at s i        == whether bit i of the bytes s is set; no bit past their end is
-- with_bit f i j    == whether j is i, or is in the set f
-- WithinIs a b r   == the answer r to whether each bit of a is set in b; where it is no, one is not
-- two_at s b        == the bytes with numbers b and b + 1 as a number, the first one its low byte; 0 past their end
-- field_at w s i    == field i of w bits, w being 8 at most: the bits from i * w on of the bytes s, the first one the lowest
-- with_field f i v j == v where j is i, else f of j
-- PutIs x r w v y  == y is x with v in place of the w bits from bit r on
use Rattle.std.specs.Prelude.{ℕ, ◌+◌, ◌*◌, ◌/◌, ◌%◌, ◌^◌, ◌≡◌, Bool, true, false, ◌||◌, List, [], ◌∷◌, eqb, get_or}
use Rattle.rules.specs.Bytes.{pick}

unfoldable pub power_of : ℕ → ℕ
power_of k = get_or (1 ∷ 2 ∷ 4 ∷ 8 ∷ 16 ∷ 32 ∷ 64 ∷ 128 ∷ []) k 0

abbrev pub flag : ℕ → ℕ → ℕ
flag w k = w / power_of k % 2

unfoldable pub bit_at : List ℕ → ℕ → Bool
bit_at s i = eqb (flag (get_or s (i / 8) 0) (i % 8)) 1

unfoldable pub with_bit : (ℕ → Bool) → ℕ → ℕ → Bool
with_bit f i j = eqb j i || f j

abbrev pub WithinIs : List ℕ → List ℕ → Bool → Type 0
WithinIs a b true = (j : ℕ) → bit_at a j ≡ true → bit_at b j ≡ true
WithinIs a b false = (j : ℕ) × (bit_at a j ≡ true) × (bit_at b j ≡ false)

abbrev pub two_at : List ℕ → ℕ → ℕ
two_at s b = get_or s b 0 + 256 * get_or s (b + 1) 0

unfoldable pub field_at : ℕ → List ℕ → ℕ → ℕ
field_at w s i = two_at s (i * w / 8) / 2 ^ (i * w % 8) % 2 ^ w

unfoldable pub with_field : (ℕ → ℕ) → ℕ → ℕ → ℕ → ℕ
with_field f i v j = pick (eqb j i) v (f j)

pub record PutIs (x r w v y : ℕ) : Type 0 where
  pub low : y % 2 ^ r ≡ x % 2 ^ r
  pub here : y / 2 ^ r % 2 ^ w ≡ v
  pub high : y / 2 ^ r / 2 ^ w ≡ x / 2 ^ r / 2 ^ w
