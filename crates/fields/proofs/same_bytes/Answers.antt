-- `fields::same_bytes` meets its contract: lengths that differ decide. Assumes nothing.
use mathlib.Core.Path.{sym}
use Rattle.fields.proofs.Same.{same_lengths}
use Rattle.fields.proofs.same_bytes.Goals as goal
use Rattle.fields.proofs.same_bytes.Goals.{Start}

pub returns-then-a-b : goal.returns-then-a-b
returns-then-a-b c =
    sym (same_lengths c.args.a.now c.args.b.now c.if-a-b.true)
