-- Bytes and figures as text: capital hex digits and decimal digits (document 02, requests 1 and 14). Assumes nothing.
--
-- hex_digit n        == the capital hex digit of a number below 16; hex_bytes bs == two of them for each byte, the high one first
-- decimal n         == the decimal digits of a figure below 10 ^ 20, without zeros in front; value ds == the figure that digits stand for
-- two_figures, three_figures == figures that end a line
use Rattle.std.specs.Prelude.{ℕ, zero, suc, ◌+◌, ◌-◌, ◌*◌, ◌/◌, ◌%◌, [], ◌∷◌, ◌++◌, ltb}
use Rattle.rules.specs.Bytes.{Bytes, pick, flat}

abbrev pub space : ℕ
space = 0x20

abbrev pub newline : ℕ
newline = 0x0A

-- the decimal digit of a number below 10
abbrev pub digit : ℕ → ℕ
digit n = 0x30 + n

-- the capital hex digit of a number below 16: 0 to 9, A to F
unfoldable pub hex_digit : ℕ → ℕ
hex_digit n = pick (ltb n 10) (digit n) (0x37 + n)

-- a byte in two hex digits
abbrev pub hex_byte : ℕ → Bytes
hex_byte b = hex_digit (b / 16) ∷ hex_digit (b % 16) ∷ []

abbrev pub hex_bytes : Bytes → Bytes
hex_bytes bs = flat hex_byte bs

-- the digits of a figure: its last one, behind those of the others where there are any; so many digits in front of the last at most
abbrev pub digits_up_to : ℕ → ℕ → Bytes
digits_up_to zero n = digit (n % 10) ∷ []
digits_up_to (suc k) n = pick (ltb n 10) [] (digits_up_to k (n / 10)) ++ digit (n % 10) ∷ []

-- a u64 has at most twenty
unfoldable pub decimal : ℕ → Bytes
decimal n = digits_up_to 19 n

-- figures that end a line, with single spaces
abbrev pub two_figures : ℕ → ℕ → Bytes
two_figures a b = decimal a ++ (space ∷ decimal b ++ newline ∷ [])

abbrev pub three_figures : ℕ → ℕ → ℕ → Bytes
three_figures a b c = decimal a ++ (space ∷ two_figures b c)

-- the figure that digits behind a figure n stand for
abbrev pub value_from : ℕ → Bytes → ℕ
value_from n [] = n
value_from n (d ∷ ds) = value_from (n * 10 + (d - 0x30)) ds

abbrev pub value : Bytes → ℕ
value ds = value_from 0 ds
