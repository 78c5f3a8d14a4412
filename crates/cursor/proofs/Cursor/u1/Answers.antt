-- `cursor::Cursor::u1` meets its contract: the byte at the place, if there is one. Assumes nothing.
use native.Mathlib.Omega.{arith}
use Rattle.cursor.proofs.Fields.{u1_says, u1_ends}
use Rattle.cursor.proofs.Cursor.u1.Goals as goal
use Rattle.cursor.proofs.Cursor.u1.Goals.{Start}

pub returns-then-at-s : goal.returns-then-at-s
returns-then-at-s c =
    rw (c.new.ensures, c.from.ensures) (u1_says c.args.s.now c.args.self.at.0 (omega arith))

pub returns-else-at-s : goal.returns-else-at-s
returns-else-at-s c =
    u1_ends c.args.s.now c.args.self.at.0 (omega arith)
