-- `cursor::Cursor::aid` meets its contract: by each test of the length. Assumes nothing.
use native.Mathlib.Omega.{arith}
use Rattle.cursor.proofs.Fields.{aid_ends, aid_low, aid_high, aid_cut, aid_says}
use Rattle.cursor.proofs.Cursor.aid.Goals as goal

pub returns-then-s-at : goal.returns-then-s-at
returns-then-s-at c =
    aid_ends c.args.s.now c.args.self.at.0 (omega arith)

pub returns-then-len-lt-MIN : goal.returns-then-len-lt-MIN
returns-then-len-lt-MIN c =
    aid_low c.args.s.now c.args.self.at.0 (omega arith) (omega arith)

pub returns-then-len-gt-MAX : goal.returns-then-len-gt-MAX
returns-then-len-gt-MAX c =
    aid_high c.args.s.now c.args.self.at.0 (omega arith) (omega arith) (omega arith)

pub returns-then-s-start : goal.returns-then-s-start
returns-then-s-start c =
    aid_cut c.args.s.now c.args.self.at.0 (omega arith) (omega arith) (omega arith) (omega arith)

pub returns : goal.returns
returns c =
    rw c.new.ensures (aid_says c.args.s.now c.args.self.at.0 (omega arith) (omega arith) (omega arith) (omega arith) c.from-len.result c.from-len.ensures)
