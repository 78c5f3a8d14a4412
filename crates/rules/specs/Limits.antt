-- The limits that a card series chooses (document 02, wish 12). Assumes nothing.
-- Limits        == the greatest depth of a class, number of parents and length of a code
-- standard      == document 01's: 8, 4 and 4,096
-- limits_range l == each of them lies in its range; InRange l == the same as a sentence
use Rattle.std.specs.Prelude.{ℕ, ◌≤◌, Bool, ◌&&◌}
use Rattle.rules.specs.Bytes.{within}

pub record Limits : Type 0 where
  pub depth : ℕ
  pub parents : ℕ
  pub code : ℕ

unfoldable pub standard : Limits
standard = record { depth = 8; parents = 4; code = 4096 }

-- depth 1 to 16, parents 1 to 8, code length 1 to 32,767
unfoldable pub limits_range : Limits → Bool
limits_range l = within 1 16 l.depth && within 1 8 l.parents && within 1 32767 l.code

-- the same as a sentence
abbrev pub InRange : Limits → Type 0
InRange l = ((1 ≤ l.depth) × (l.depth ≤ 16)) × ((1 ≤ l.parents) × (l.parents ≤ 8)) × ((1 ≤ l.code) × (l.code ≤ 32767))
