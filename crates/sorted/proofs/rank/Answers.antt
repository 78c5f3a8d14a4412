-- `sorted::rank` tries the last place, then halves. Assumes nothing.
use Prim.Native.Nat.{◌-◌}
use native.Mathlib.Omega.{arith}
use mathlib.Core.Bool.{true}
use Rattle.sorted.proofs.Table as table'
use Rattle.sorted.proofs.rank.Goals as goal
use Rattle.sorted.proofs.rank.Goals.{After-key, After-place-n, After-place-p, Else-n-eq0, Start}

pub returns-then-n-eq0 : goal.returns-then-n-eq0
returns-then-n-eq0 c =
    table'.lower_empty c.args.s.now c.args.table.now c.requires c.args.aid.now c.place-n.result c.place-n.ensures.0
    c.if-n-eq0.true

pub key-requires : goal.key-requires
key-requires c =
    table'.keyed_of c.args.s.now c.args.table.now (c.place-n.result - 1) c.place-p.result c.requires
    (omega (arith, c.place-n.ensures.0, c.if-n-eq0.false))
    (table'.last_is_lem c.args.table.now c.place-n.result c.place-p.result c.if-n-eq0.false c.place-p.ensures.0)

pub returns-then-before : goal.returns-then-before
returns-then-before c =
    table'.lower_all c.args.s.now c.args.table.now c.requires c.args.aid.now c.place-n.result c.place-n.ensures.0 c.if-n-eq0.false
    (table'.told c.args.s.now c.args.table.now (c.place-n.result - 1) c.place-p.result c.key.result.now c.args.aid.now
    c.before-2.result true (table'.last_is_lem c.args.table.now c.place-n.result c.place-p.result c.if-n-eq0.false c.place-p.ensures.0)
    c.key.ensures c.before-2.ensures c.if-before.true)
