-- `references::kept::told_at` meets its contract: six numbers. Assumes nothing.
use native.Mathlib.Omega.{arith}
use mathlib.Core.Path.{refl}
use Rattle.references.proofs.Table as table
use Rattle.references.proofs.kept.told_at.Goals as goal

pub returns-then-mark-eq-NOTHING : goal.returns-then-mark-eq-NOTHING
returns-then-mark-eq-NOTHING c =
    table.nothing_read c.args.table.now c.args.k _ refl c.if-mark-eq-NOTHING.true

pub returns-then-mark-gt-NOTHING : goal.returns-then-mark-gt-NOTHING
returns-then-mark-gt-NOTHING c =
    table.open_read c.args.table.now c.args.k _ refl (omega (arith, c.if-mark-gt-NOTHING.true)) _ _
    c.home_in-home.ensures c.from.ensures

pub returns : goal.returns
returns c =
    table.meant_read c.args.table.now c.args.k _ refl c.if-mark-eq-NOTHING.false (omega (arith, c.if-mark-gt-NOTHING.false)) _
    c.home_in-home.ensures c.from-2.ensures c.from-3.ensures refl c.from-4.ensures
