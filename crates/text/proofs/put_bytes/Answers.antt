-- `text::put_bytes` meets its contract: the bytes stand in the part of their length. Assumes nothing.
use native.Mathlib.Omega.{arith}
use Rattle.text.proofs.Puts.{put_part}
use Rattle.text.proofs.put_bytes.Goals as goal

pub returns : goal.returns
returns c = put_part c.args.out.now c.args.at _ c.args.bytes.now c.copy_from_slice.new.self c.copy_from_slice.ensures.after (omega arith) c.requires
