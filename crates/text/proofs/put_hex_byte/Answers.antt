-- `text::put_hex_byte` meets its contract. Assumes nothing.
use mathlib.Core.Path.{◌≡◌, ◌∙◌, ap, ap₂}
use Prim.Native.Nat.{ℕ, ◌/◌, ◌%◌}
use mathlib.Core.List.{[], ◌∷◌}
use Rattle.text.specs.Text.{hex_digit}
use Rattle.text.proofs.Puts.{put_then, put_as}
use Rattle.text.proofs.put_hex_byte.Goals as goal
use Rattle.text.proofs.put_hex_byte.Goals.{After-put_byte, After-put_byte-middle, After-from-n}

-- the byte as a number, and its digits
number : (k : After-from-n) → k.from-n.result ≡ k.args.b
number k = k.from-n.ensures

high : (k : After-put_byte-middle) → k.hex_digit.result ≡ hex_digit (k.args.b / 16)
high k = k.hex_digit.ensures ∙ ap (λ (x : ℕ). hex_digit (x / 16)) (number (goal.at.After-put_byte-middle k).After-from-n)

low : (k : After-put_byte) → k.hex_digit-2.result ≡ hex_digit (k.args.b % 16)
low k = k.hex_digit-2.ensures ∙ ap (λ (x : ℕ). hex_digit (x % 16)) (number (goal.at.After-put_byte k).After-from-n)

pub returns : goal.returns
returns c =
    put_as (ap₂ (λ (h l : ℕ). h ∷ l ∷ []) (high (goal.at.returns c).After-put_byte-middle) (low (goal.at.returns c).After-put_byte)) (put_then c.put_byte-middle.ensures c.put_byte.ensures)
