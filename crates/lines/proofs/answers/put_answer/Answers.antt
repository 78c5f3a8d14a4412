-- `lines::answers::put_answer` meets its contract: three figures of at most twenty digits. Assumes nothing.
use native.Mathlib.Omega.{arith}
use Prim.Native.Nat.{◌%◌}
use Rattle.text.proofs.Puts.{put_counts}
use Rattle.text.proofs.Digits.{decimal_most}
use Rattle.lines.proofs.answers.put_answer.Goals as goal

pub put_three-requires : goal.put_three-requires
put_three-requires c =
    omega (arith, c.requires, decimal_most c.args.number, decimal_most (c.args.res % 256), decimal_most c.args.used)

pub returns : goal.returns
returns c =
    record { put = c.put_three.ensures; prefix_len = put_counts c.put_three.ensures (omega arith) }
