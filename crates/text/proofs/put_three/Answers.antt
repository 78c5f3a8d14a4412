-- `text::put_three` meets its contract: figure, space, two figures. Assumes nothing.
use Rattle.text.proofs.Puts.{put_then}
use Rattle.text.proofs.put_three.Goals as goal

pub returns : goal.returns
returns c =
    put_then c.put_decimal-first.ensures (put_then c.put_byte-middle.ensures c.put_two.ensures)
