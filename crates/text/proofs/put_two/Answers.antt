-- `text::put_two` meets its contract: figure, space, figure, newline. Assumes nothing.
use Rattle.text.proofs.Puts.{put_then}
use Rattle.text.proofs.put_two.Goals as goal

pub returns : goal.returns
returns c =
    put_then c.put_decimal-first.ensures (put_then c.put_byte-middle.ensures (put_then c.put_decimal-second.ensures c.put_byte.ensures))
