-- `sound::load_judged` meets its contract: with the tables of the store's length and depth limit. Assumes nothing.
use native.Mathlib.Omega.{arith}
use mathlib.Core.Path.{ap}
use Rattle.rules.specs.Limits.{Limits}
use Rattle.sound.proofs.Tables as tables
use Rattle.sound.proofs.load_judged.Goals as goal

pub load_with-requires : goal.load_with-requires
load_with-requires c =
    let depth = ap (λ (l : Limits). l.depth) c.limits_of-limits.ensures in
    record { stand_from = c.requires.stand_from; room = (tables.small_room c.args.s.now (c.if-s-le8192.true, omega (arith, depth, c.if-limits-le8.true)), c.requires.s_len_bound); small = (omega arith, omega arith, omega arith, omega arith) }

pub load_with-requires-then-limits-le8 : goal.load_with-requires-then-limits-le8
load_with-requires-then-limits-le8 c =
    let depth = ap (λ (l : Limits). l.depth) c.limits_of-limits.ensures in
    record { stand_from = c.requires.stand_from; room = (tables.large_room c.args.s.now (c.requires.s_len_bound, omega (arith, depth, c.if-limits-le8.true)), c.requires.s_len_bound); small = (omega arith, omega arith, omega arith, omega arith) }

pub load_with-requires-then-s-le8192-2 : goal.load_with-requires-then-s-le8192-2
load_with-requires-then-s-le8192-2 c =
    record { stand_from = c.requires.stand_from; room = (tables.deep_small_room c.args.s.now c.if-s-le8192-2.true, c.requires.s_len_bound); small = (omega arith, omega arith, omega arith, omega arith) }

pub load_with-requires-2 : goal.load_with-requires-2
load_with-requires-2 c =
    record { stand_from = c.requires.stand_from; room = (tables.deep_large_room c.args.s.now c.requires.s_len_bound, c.requires.s_len_bound); small = (omega arith, omega arith, omega arith, omega arith) }
