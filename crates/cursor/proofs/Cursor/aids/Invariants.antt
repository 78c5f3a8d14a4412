-- `cursor::Cursor::aids` meets its contract: what is left of the list at the cursor decides of the whole. Assumes nothing.
use Prim.Native.Nat.{◌≤◌, ◌-◌}
use lib.ListN.{length}
use Rattle.rules.specs.Bytes.{aid, many}
use Rattle.cursor.proofs.Steps.{Leads}
use Rattle.cursor.proofs.Cursor.aids.Given as goal

abbrev pub invariant-loop : goal.invariant-loop
invariant-loop l = (l.c.at.0 ≤ length l.s) × Leads (many l.count aid) (many (l.count - l.counter) aid) l.s l.initial.c.at.0 l.c.at.0
