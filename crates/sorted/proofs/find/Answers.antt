-- `sorted::find` looks at the place behind the lower ones. Assumes nothing.
use mathlib.Core.Bool.{true, false}
use Rattle.sorted.proofs.Table as table'
use Rattle.sorted.proofs.find.Goals as goal

pub bounds-table-k : goal.bounds-table-k
bounds-table-k c =
    table'.here_inside c.args.s.now c.args.table.now c.lower-k.result c.args.aid.now c.requires
    (table'.here_told c.args.s.now c.args.table.now c.lower-k.result c.args.aid.now c.here.result true c.here.ensures
    (c.if-here.true))

pub returns-then-here : goal.returns-then-here
returns-then-here c =
    table'.found_here c.args.s.now c.args.table.now c.requires c.args.aid.now c.lower-k.result c.place.result
    (table'.here_told c.args.s.now c.args.table.now c.lower-k.result c.args.aid.now c.here.result true c.here.ensures
    (c.if-here.true))
    c.place.ensures.0

pub returns : goal.returns
returns c =
    table'.found_none c.args.s.now c.args.table.now c.requires c.args.aid.now c.lower-k.result c.lower-k.ensures
    (table'.here_told c.args.s.now c.args.table.now c.lower-k.result c.args.aid.now c.here.result false
    c.here.ensures (c.if-here.false))
