-- `cursor::Cursor::u2` meets its contract: the two bytes at the place, if they are there. Assumes nothing.
use native.Mathlib.Omega.{arith}
use Rattle.cursor.proofs.Fields.{u2_says, u2_ends}
use Rattle.cursor.proofs.Cursor.u2.Goals as goal
use Rattle.cursor.proofs.Cursor.u2.Goals.{Start}

pub returns-then-len-lt2 : goal.returns-then-len-lt2
returns-then-len-lt2 c =
    u2_ends c.args.s.now c.args.self.at.0 (omega arith)

pub returns-then-len-at : goal.returns-then-len-at
returns-then-len-at c =
    u2_ends c.args.s.now c.args.self.at.0 (omega arith)

pub returns : goal.returns
returns c =
    rw (c.new.ensures, c.u2_at.ensures.0) (u2_says c.args.s.now c.args.self.at.0 (omega arith))
