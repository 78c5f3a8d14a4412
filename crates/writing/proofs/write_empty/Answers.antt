-- `writing::write_empty` leaves mark and version, used, and zeros behind the opening bytes. Assumes nothing.
use lib.ListN.{length, length-set}
use Rattle.writing.proofs.Empty as empty
use mathlib.Core.Path.{◌≡◌, ◌∙◌}
use native.Mathlib.Omega.{arith}
use Rattle.writing.proofs.write_empty.Goals as goal
use Rattle.writing.proofs.write_empty.Goals.{After-put_u2, After-zero_out, Start}

-- the store is as long as at the start, once the used field is written
long : (k : After-put_u2) → length k.put_u2.new.store ≡ length k.args.store.now
long k = k.put_u2.auto.store ∙ simp length-set

pub bounds-store-0 : goal.bounds-store-0
bounds-store-0 c = omega (arith, c.requires.0, c.requires.1)

pub bounds-store-1 : goal.bounds-store-1
bounds-store-1 c = simp length-set (omega (arith, c.requires.0, c.requires.1))

pub bounds-store-2 : goal.bounds-store-2
bounds-store-2 c = simp length-set (omega (arith, c.requires.0, c.requires.1))

pub bounds-store-3 : goal.bounds-store-3
bounds-store-3 c = simp length-set (omega (arith, c.requires.0, c.requires.1))

pub bounds-store-4 : goal.bounds-store-4
bounds-store-4 c = simp length-set (omega (arith, c.requires.0, c.requires.1))

pub put_u2-requires : goal.put_u2-requires
put_u2-requires c = (simp length-set (omega (arith, c.requires.0, c.requires.1)), c.requires.2)

pub overflow_sub-n : goal.overflow_sub-n
overflow_sub-n c = c.requires.1

pub zero_out-requires : goal.zero_out-requires
zero_out-requires c = omega (arith, long (goal.at.zero_out-requires c).After-put_u2, c.requires.1)

pub shape_of-store : goal.shape_of-store
shape_of-store c = c.zero_out.auto.store ∙ long (goal.at.shape_of-store c).After-put_u2

pub returns : goal.returns
returns c =
    empty.emptied c.args.store.now _ _ c.args.version c.args.opening c.requires.0 c.requires.1 c.put_u2.ensures c.zero_out.ensures
