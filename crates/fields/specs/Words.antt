-- Eight bytes as one number. Assumes nothing.
--
-- eight_at s i  == the eight bytes of s at i as an unsigned number
-- Octets s     == each element of s is a byte
use Rattle.std.specs.Prelude.{ℕ, ◌+◌, ◌*◌, ◌<◌, get_or}
use Rattle.rules.specs.Bytes.{Bytes}
use Rattle.rules.specs.Code.{u4_at}

abbrev pub eight_at : Bytes → ℕ → ℕ
eight_at s i = u4_at s i * 4294967296 + u4_at s (i + 4)

abbrev pub Octets : Bytes → Type 0
Octets s = (k : ℕ) → get_or s k 0 < 256
