-- A bit for each class of the packages at hand. Assumes nothing.
--
-- key h n      == the number of the bit of class n of the package at home h: c classes, 32 at most, make an entry of 22 + 3 * c bytes or more
-- seen_length s == how many bytes the bits take
use Rattle.std.specs.Prelude.{ℕ, ◌+◌, ◌*◌, ◌/◌, length}
use Rattle.rules.specs.Bytes.{Bytes}
use Rattle.homes.specs.declared.Home.{Home}

abbrev pub key : Home → ℕ → ℕ
key h n = h.before * 3 / 11 + n

abbrev pub seen_length : Bytes → ℕ
seen_length s = length s * 3 / 88 + 5
