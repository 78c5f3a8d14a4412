-- What a function that puts text into a buffer promises. Assumes nothing.
--
-- Put b i x c j     == behind the first i bytes of the buffer b the text x stands in c, up to place j
use Rattle.std.specs.Prelude.{ℕ, ◌+◌, ◌≡◌, ◌++◌, length, take}
use Rattle.rules.specs.Bytes.{Bytes}

pub record Put (b : Bytes) (i : ℕ) (x c : Bytes) (j : ℕ) : Type 0 where
  pub text : take j c ≡ take i b ++ x
  pub to : j ≡ i + length x
  pub kept : length c ≡ length b
