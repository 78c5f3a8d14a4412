-- `sound::packages_sound` meets its contract: no entry, or the tables of the store's length and depth limit. Assumes nothing.
use native.Mathlib.Omega.{arith}
use mathlib.Core.Path.{ap}
use Rattle.rules.specs.Limits.{Limits}
use Rattle.sound.proofs.NoEntries.{no_packages}
use Rattle.sound.proofs.Tables as tables
use Rattle.sound.proofs.packages_sound.Goals as goal

pub returns-then-used-first_entry : goal.returns-then-used-first_entry
returns-then-used-first_entry c =
    let a = c.args in
    no_packages a.s.now a.used (omega (arith, c.if-used-first_entry.true, c.first_entry.ensures))

pub packages_with-requires : goal.packages_with-requires
packages_with-requires c =
    let depth = ap (λ (l : Limits). l.depth) c.limits_of-limits.ensures in
    record { stand_from = c.requires.stand_from; room = (tables.small_room c.args.s.now (c.if-s-le8192.true, omega (arith, depth, c.if-limits-le8.true)), c.requires.s_len_bound); small = (omega arith, omega arith, omega arith, omega arith) }

pub packages_with-requires-then-limits-le8 : goal.packages_with-requires-then-limits-le8
packages_with-requires-then-limits-le8 c =
    let depth = ap (λ (l : Limits). l.depth) c.limits_of-limits.ensures in
    record { stand_from = c.requires.stand_from; room = (tables.large_room c.args.s.now (c.requires.s_len_bound, omega (arith, depth, c.if-limits-le8.true)), c.requires.s_len_bound); small = (omega arith, omega arith, omega arith, omega arith) }

pub packages_with-requires-then-s-le8192-2 : goal.packages_with-requires-then-s-le8192-2
packages_with-requires-then-s-le8192-2 c =
    record { stand_from = c.requires.stand_from; room = (tables.deep_small_room c.args.s.now c.if-s-le8192-2.true, c.requires.s_len_bound); small = (omega arith, omega arith, omega arith, omega arith) }

pub packages_with-requires-2 : goal.packages_with-requires-2
packages_with-requires-2 c =
    record { stand_from = c.requires.stand_from; room = (tables.deep_large_room c.args.s.now c.requires.s_len_bound, c.requires.s_len_bound); small = (omega arith, omega arith, omega arith, omega arith) }
