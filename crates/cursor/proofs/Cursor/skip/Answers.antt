-- `cursor::Cursor::skip` meets its contract: by whether that many bytes are left. Assumes nothing.
use native.Mathlib.Omega.{arith}
use Rattle.cursor.specs.Says.{stops_none}
use Rattle.cursor.proofs.Fields.{span_stops, span_ends}
use Rattle.cursor.proofs.Cursor.skip.Goals as goal
use Rattle.cursor.proofs.Cursor.skip.Goals.{Start}

pub returns-then-s-at : goal.returns-then-s-at
returns-then-s-at c =
    stops_none (span_ends c.args.n c.args.s.now c.args.self.at.0 (omega arith))

pub returns : goal.returns
returns c =
    rw c.new.ensures (span_stops c.args.n c.args.s.now c.args.self.at.0 (omega arith))
