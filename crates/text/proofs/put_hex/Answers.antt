-- `text::put_hex` meets its contract: after each turn the digits of the bytes passed are put. Assumes nothing.
use native.Mathlib.Omega.{arith}
use mathlib.Core.Path.{ap}
use lib.ListN.{take}
use lib.Seq.{length-take-le}
use Rattle.text.specs.Text.{hex_bytes}
use Rattle.text.proofs.Puts.{put_none, put_then, put_as, byte_last, hex_next, hex_length}
use Rattle.text.proofs.put_hex.Goals as goal

pub loop-b-init : goal.loop-b-init
loop-b-init c = put_none _ _

pub put_hex_byte-to-requires : goal.put_hex_byte-to-requires
put_hex_byte-to-requires c =
    let bytes = c.args.bytes.now in
    let i = c.loop-b.b-index in
    omega (arith, c.loop-b.invariant.to, c.loop-b.invariant.kept, hex_length (take i bytes), length-take-le i bytes (omega arith))

pub loop-b-preserved : goal.loop-b-preserved
loop-b-preserved c =
    put_as (hex_next c.args.bytes.now c.loop-b.b-index (omega arith)) (put_then c.loop-b.invariant c.put_hex_byte-to.ensures)

pub returns : goal.returns
returns c =
    put_as (ap hex_bytes (byte_last c.args.bytes.now c.loop-b.b-index (omega arith))) c.loop-b.invariant
