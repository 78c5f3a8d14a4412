-- `lines::answers::put_bad` meets its contract: a figure of at most twenty digits and a word. Assumes nothing.
use native.Mathlib.Omega.{arith}
use Rattle.text.proofs.Puts.{put_then, put_counts}
use Rattle.text.proofs.Digits.{decimal_most}
use Rattle.lines.proofs.answers.put_bad.Goals as goal

pub put_decimal-a-requires : goal.put_decimal-a-requires
put_decimal-a-requires c =
    omega (arith, c.requires, decimal_most c.args.number)

pub put_bytes-requires : goal.put_bytes-requires
put_bytes-requires c =
    omega (arith, c.requires, decimal_most c.args.number, c.put_decimal-a.ensures.to, c.put_decimal-a.ensures.kept)

pub returns : goal.returns
returns c =
    let put = put_then c.put_decimal-a.ensures c.put_bytes.ensures in
    record { put = put; prefix_len = put_counts put (omega arith) }
