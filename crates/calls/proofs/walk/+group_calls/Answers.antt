-- `calls::walk::group_calls` meets its contract: no number is known at the start; it never calls itself, since no store is that long. Assumes nothing.
use native.Mathlib.Omega.{arith}
use mathlib.Core.Path.{refl}
use Rattle.calls.proofs.Covers as covers
use Rattle.calls.proofs.walk.+group_calls.Goals as goal

pub group_calls-requires : goal.group_calls-requires
group_calls-requires t c = absurd (omega (arith, c.if-s-gt65535.true, c.requires.judged.3))

pub file_calls-requires : goal.file_calls-requires
file_calls-requires t c =
    record { judged = (c.requires.judged.0, c.requires.judged.1, c.requires.judged.2, c.table-table.ensures); kept_true = c.requires.kept_true; map_true = covers.map_none 528 refl }
