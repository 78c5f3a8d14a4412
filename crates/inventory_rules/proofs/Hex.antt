-- Capital hex digits read back as the bytes that they were written for. Assumes nothing.
use Prim.Native.Nat.{ℕ, ◌+◌, ◌-◌, ◌*◌, ◌/◌, ◌%◌, ◌<◌}
use native.Mathlib.Omega.{arith}
use mathlib.Core.Path.{◌≡◌, refl}
use mathlib.Core.Bool.{Bool, true, false}
use mathlib.Core.List.{[], ◌∷◌}
use mathlib.Core.Option.{some}
use borrow.Author.Tests.{ltb-true, ltb-false, le-leb, lt-leb}
use lib.Dec.{T, ltb, ltb→lt}
use Rattle.rules.specs.Bytes.{Bytes, all, pick}
use Rattle.rules.proofs.Tests.{and_l, and_r}
use Rattle.rules.proofs.Opens.{is_byte}
use Rattle.text.specs.Text.{hex_digit, hex_bytes}
use Rattle.lines.specs.Line.{digit, byte_of, bytes_of}

-- a digit stands for its number
digit_back : (n : ℕ) → n < 16 → digit (hex_digit n) ≡ some n
unfolding digit hex_digit
digit_back n h = go (ltb n 10) refl
  where
    go : (b : Bool) → ltb n 10 ≡ b → digit (pick b (0x30 + n) (0x37 + n)) ≡ some n
    go true e =
        let small = ltb-true n 10 e in
        let z : 0x30 + n - 0x30 ≡ n = omega arith in
        rw (le-leb 0x30 (0x30 + n) (omega arith), le-leb (0x30 + n) 0x39 (omega arith), z)
    go false e =
        let large = ltb-false n 10 e in
        let z : 0x37 + n - 0x41 + 10 ≡ n = omega arith in
        rw (
          le-leb 0x30 (0x37 + n) (omega arith),
          lt-leb (0x37 + n) 0x39 (omega arith),
          le-leb 0x41 (0x37 + n) (omega arith),
          le-leb (0x37 + n) 0x46 (omega arith),
          z,
        )

-- two digits stand for a byte
byte_back : (b : ℕ) → b < 256 → byte_of (hex_digit (b / 16)) (hex_digit (b % 16)) ≡ some b
byte_back b h =
    let z : b / 16 * 16 + b % 16 ≡ b = omega arith in
    rw (digit_back (b / 16) (omega arith), digit_back (b % 16) (omega arith), z)

pub hex_back : (bs : Bytes) → T (all is_byte bs) → bytes_of (hex_bytes bs) ≡ some bs
hex_back [] h = refl
hex_back (b ∷ bs) h =
    rw (byte_back b (ltb→lt b 256 (and_l (is_byte b) (all is_byte bs) h)), hex_back bs (and_r (is_byte b) (all is_byte bs) h))
