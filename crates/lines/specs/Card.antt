-- What the simulated card answers to an input (document 01, "The simulated card"). Assumes nothing.
--
-- Print        == a line's number, with its answer and used, or bad; print_text p == its characters
-- card_of input == the prints of an input, over a store of version 1 and 8,192 bytes that is fresh at the start
use Rattle.std.specs.Prelude.{ℕ, suc, List, [], ◌∷◌, ◌++◌, replicate}
use Rattle.std.proofs.Math.Option.{Option, none, some}
use Rattle.rules.specs.Bytes.{Bytes}
use Rattle.rules.specs.Code.{u2_at}
use Rattle.rules.specs.Store.{version1}
use Rattle.rules.specs.Operations.{Operation, number, after, fresh_bytes}
use Rattle.text.specs.Text.{decimal, three_figures}
use Rattle.lines.specs.Line.{newline, space, line_of, lines_of}

pub data Print : Type 0 where
  answered : (line number used : ℕ) → Print
  bad : (line : ℕ) → Print

-- single spaces, a newline at the end
abbrev pub print_text : Print → Bytes
print_text (answered line number used) = three_figures line number used
print_text (bad line) = decimal line ++ (space ∷ 0x62 ∷ 0x61 ∷ 0x64 ∷ newline ∷ [])

-- the u2 used of a store
abbrev pub used : Bytes → ℕ
used s = u2_at s 5

-- the store after a line; a bad one leaves it
abbrev pub after_line : Bytes → Option Operation → Bytes
after_line s none = s
after_line s (some o) = after s o

-- what is printed of line i
abbrev pub print_of : ℕ → Bytes → Option Operation → Print
print_of i s none = bad i
print_of i s (some o) = answered i (number s o) (used (after s o))

-- the prints of lines numbered from i on, over a store
abbrev pub prints_from : ℕ → Bytes → List Bytes → List Print
prints_from i s [] = []
prints_from i s (l ∷ ls) = print_of i s (line_of l) ∷ prints_from (suc i) (after_line s (line_of l)) ls

-- the store is an array of 8,192 zeros before it is fresh
abbrev pub zeros : Bytes
zeros = replicate 8192 0

unfoldable pub card_of : Bytes → List Print
card_of input = prints_from 1 (fresh_bytes zeros version1) (lines_of input)
