-- `sorted::lower` meets its contract: the places are in order, so the two at the point found tell the others. Assumes nothing.
use Prim.Native.Nat.{◌<◌}
use native.Mathlib.Omega.{arith}
use Rattle.std.proofs.Common.{rules, tests}
use Rattle.sorted.proofs.Table as table'
use Rattle.sorted.proofs.lower.Goals as goal

pub returns : goal.returns
returns c =
    let a = c.args in
    let s = c.partition_point.ensures in
    table'.lower_parted a.s.now a.table.now c.requires a.aid.now c.partition_point.result (omega (arith, s.high, c.place.ensures.0))
    (λ h. let z = s.before h in search (rules, tests))
    (λ h. let b : c.partition_point.result < c.place.result = omega (arith, h, c.place.ensures.0) in let z = s.there b in search (rules, tests))
