-- `writing::put_u2` stores the two bytes of a u2, the high one first. Assumes nothing.
use Rattle.writing.proofs.Paste.{set_two}
use lib.ListN.{length-set}
use native.Mathlib.Omega.{arith}
use Rattle.writing.proofs.put_u2.Goals as goal

pub overflow_cast-store : goal.overflow_cast-store
overflow_cast-store c = omega arith

pub bounds-store-at : goal.bounds-store-at
bounds-store-at c = omega arith

pub overflow_cast-store-2 : goal.overflow_cast-store-2
overflow_cast-store-2 c = omega arith

pub overflow_add-store : goal.overflow_add-store
overflow_add-store c = omega arith

pub bounds-store-at-2 : goal.bounds-store-at-2
bounds-store-at-2 c = simp length-set (omega arith)

pub shape_of-store : goal.shape_of-store
shape_of-store c = simp length-set

pub returns : goal.returns
returns c =
    set_two c.args.store.now c.args.at _ _ c.requires.0
