-- `running::allowed::turn_row` meets its contract: the row is emptied unless the homes are the same. Assumes nothing.
use mathlib.Core.Path.{◌≡◌}
use Rattle.std.proofs.Common.{rules}
use Rattle.running.proofs.Turns as turns
use Rattle.running.proofs.allowed.turn_row.Goals as goal

pub returns-then-ne : goal.returns-then-ne
returns-then-ne c = turns.turn_empty c.args.row.now _ c.args.g c.args.h c.empty_row.ensures

pub returns-else-ne : goal.returns-else-ne
returns-else-ne c =
    let same : c.args.g ≡ c.args.h = search rules in
    turns.turn_same c.args.row.now c.args.g c.args.h c.requires same
