-- `text::put_hex` meets its contract: after each turn the digits of the bytes passed are put. Assumes nothing.
use lib.ListN.{take}
use Rattle.text.specs.Text.{hex_bytes}
use Rattle.text.specs.Put.{Put}
use Rattle.text.proofs.put_hex.Given as goal

abbrev pub invariant-loop-b : goal.invariant-loop-b
invariant-loop-b l = Put l.initial.out l.at (hex_bytes (take l.b-index l.bytes)) l.out l.to
