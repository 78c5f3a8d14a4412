-- `writing::write_limited` leaves the layout of no entries in version 2 with its limits. Assumes nothing.
use Prim.Native.Nat.{◌≤◌}
use lib.ListN.{length, length-set}
use Rattle.rules.proofs.Limits.{limits_ranged}
use Rattle.cursor.specs.Limits.{limits_of}
use Rattle.writing.proofs.Empty as empty
use mathlib.Core.Path.{◌∙◌}
use native.Mathlib.Omega.{arith}
use Rattle.writing.proofs.write_limited.Goals as goal
use Rattle.writing.proofs.write_limited.Goals.{After-put_u2, After-write_empty, Start}

-- the emptied store has room for the opening
long : (k : After-write_empty) → 11 ≤ length k.write_empty.new.store
long k = omega (arith, k.write_empty.auto.store, k.requires.0)

pub write_empty-requires : goal.write_empty-requires
write_empty-requires c = (omega arith, omega (arith, c.requires.0), omega arith)

pub overflow_cast-store : goal.overflow_cast-store
overflow_cast-store c =
    omega (arith, (limits_ranged (limits_of c.args.l) c.requires.1).depth.1)

pub bounds-store-7 : goal.bounds-store-7
bounds-store-7 c = omega (arith, long (goal.at.bounds-store-7 c).After-write_empty)

pub overflow_cast-store-2 : goal.overflow_cast-store-2
overflow_cast-store-2 c =
    omega (arith, (limits_ranged (limits_of c.args.l) c.requires.1).parents.1)

pub bounds-store-8 : goal.bounds-store-8
bounds-store-8 c = simp length-set (omega (arith, long (goal.at.bounds-store-8 c).After-write_empty))

pub put_u2-requires : goal.put_u2-requires
put_u2-requires c =
    let r = limits_ranged (limits_of c.args.l) c.requires.1 in
    (simp length-set (omega (arith, long (goal.at.put_u2-requires c).After-write_empty)), omega (arith, r.code.1))

pub shape_of-store : goal.shape_of-store
shape_of-store c =
    c.put_u2.auto.store ∙ simp length-set c.write_empty.auto.store

pub returns : goal.returns
returns c =
    empty.limited_is c.args.store.now _ _ (limits_of c.args.l) c.requires.0 c.write_empty.ensures c.put_u2.ensures
