-- `writing::write_fresh` leaves the layout of no entries in version 1. Assumes nothing.
use Rattle.writing.proofs.Empty as empty
use native.Mathlib.Omega.{arith}
use Rattle.writing.proofs.write_fresh.Goals as goal
use Rattle.writing.proofs.write_fresh.Goals.{After-write_empty, Start}

pub write_empty-requires : goal.write_empty-requires
write_empty-requires c = (omega arith, c.requires, omega arith)

pub shape_of-store : goal.shape_of-store
shape_of-store c = c.write_empty.auto.store

pub returns : goal.returns
returns c =
    empty.fresh_is c.args.store.now _ c.write_empty.ensures
