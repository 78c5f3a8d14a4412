-- `instructions::entry_at` meets its contract: the table's rule is carried to the opcode. Assumes nothing.
use mathlib.Core.Path.{◌≡◌}
use lib.ListN.{get_or}
use Rattle.instructions.proofs.entry_at.Goals as goal

pub returns : goal.returns
returns c =
    let a = c.args in
    let o = a.opcode in
    let e : c.wide.result ≡ get_or a.table.now o 0 = c.wide.ensures.0 in
    (rw e (c.requires.says o c.ranges.opcode.fits), c.wide.ensures.1)
