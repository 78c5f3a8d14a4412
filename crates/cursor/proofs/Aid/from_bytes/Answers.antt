-- `cursor::Aid::from_bytes` meets its contract: by the two tests of the length. Assumes nothing.
use native.Mathlib.Omega.{arith}
use Rattle.cursor.proofs.Aids.{too_short, too_long, made}
use Rattle.cursor.proofs.Aid.from_bytes.Goals as goal

pub returns-then-len-lt-MIN : goal.returns-then-len-lt-MIN
returns-then-len-lt-MIN c =
    too_short c.args.s.now (omega arith)

pub returns-then-len-gt-MAX : goal.returns-then-len-gt-MAX
returns-then-len-gt-MAX c =
    too_long c.args.s.now (omega arith) (omega arith)

pub returns : goal.returns
returns c =
    made c.args.s.now _ (omega arith) (omega arith) c.with_zeros.ensures
