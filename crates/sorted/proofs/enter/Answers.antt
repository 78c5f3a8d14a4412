-- `sorted::enter` puts the place behind the lower ones. Assumes nothing.
use mathlib.Core.Path.{refl}
use mathlib.Core.Bool.{true, false}
use Rattle.sorted.proofs.Change as change
use Rattle.sorted.proofs.Table as table'
use Rattle.sorted.proofs.enter.Goals as goal
use Rattle.sorted.proofs.enter.Goals.{After-here, After-key-aid, After-open_at, After-slice_known-1, After-slice_known-2-1, Else-here, Start}

pub returns-then-here : goal.returns-then-here
returns-then-here c =
    change.entered_not c.args.s.now c.args.table.now c.rank-r.result c.args.p c.key-aid.result.now c.key-aid.ensures
    (table'.here_told c.args.s.now c.args.table.now c.rank-r.result c.key-aid.result.now c.here.result true
    c.here.ensures c.if-here.true)

pub returns : goal.returns
returns c =
    change.entered_is c.args.s.now c.args.table.now c.open_at.new.table c.place-n.result c.rank-r.result c.args.p c.args.p
    c.key-aid.result.now c.requires.sorted.0 c.requires.sorted.1 c.requires.table_in_bounds.0 c.place-n.ensures.0 c.key-aid.ensures c.rank-r.ensures
    (table'.here_told c.args.s.now c.args.table.now c.rank-r.result c.key-aid.result.now c.here.result false c.here.ensures
    c.if-here.false)
    c.open_at.ensures refl
