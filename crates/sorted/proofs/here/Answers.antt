-- `sorted::here` compares the AID of one place. Assumes nothing.
use native.Mathlib.Omega.{arith}
use Rattle.sorted.proofs.Table as table
use Rattle.sorted.proofs.here.Goals as goal
use Rattle.sorted.proofs.here.Goals.{After-place, After-place-p, Else-place-k, Start}

pub returns-then-place-k : goal.returns-then-place-k
returns-then-place-k c =
    table.here_not c.args.s.now c.args.table.now c.args.k c.place.result c.args.aid.now c.place.ensures.0
    c.if-place-k.true

pub key-requires : goal.key-requires
key-requires c =
    table.keyed_of c.args.s.now c.args.table.now c.args.k c.place-p.result c.requires
    (omega (arith, c.place.ensures.0, c.if-place-k.false)) c.place-p.ensures.0

pub returns : goal.returns
returns c =
    table.here_is c.args.s.now c.args.table.now c.args.k c.place.result c.place-p.result c.args.aid.now
    c.key.result.now c.same_bytes.result c.place.ensures.0 c.if-place-k.false c.place-p.ensures.0
    c.key.ensures c.same_bytes.ensures
