-- `coverage::lists_kept` meets its contract: the slot found has the number. Assumes nothing.
use Prim.Native.Nat.{◌+◌, ◌<◌}
use native.Mathlib.Omega.{arith}
use lib.ListN.{length}
use Rattle.coverage.proofs.Looked as looked
use Rattle.coverage.proofs.lists_kept.Goals as goal
use Rattle.coverage.proofs.lists_kept.Goals.{In-Some}

-- the slot found has an entry
place : (k : In-Some) → let a = k.args in a.l.base + k.in-Some.k < length a.row.now
place k =
    let a = k.args in
    looked.place_there a.g.now a.other.now a.l a.at a.x.now a.n a.row.now k.in-Some.ensures k.requires.list_over k.requires.has_places.0

pub listed_slot-requires : goal.listed_slot-requires
listed_slot-requires c = c.requires.list_over

pub overflow_add-row : goal.overflow_add-row
overflow_add-row c = omega (arith, place (goal.at.overflow_add-row c).In-Some)

pub bounds-row-l : goal.bounds-row-l
bounds-row-l c = omega (arith, place (goal.at.bounds-row-l c).In-Some)

pub returns-in-Some : goal.returns-in-Some
returns-in-Some c =
    let a = c.args in
    looked.kept_there a.g.now a.other.now a.l a.at a.x.now a.n a.row.now c.in-Some.ensures c.requires.list_over c.requires.has_places.0

pub returns-in-None : goal.returns-in-None
returns-in-None c =
    let a = c.args in
    looked.kept_nowhere a.g.now a.other.now a.l a.at a.x.now a.n a.row.now c.in-None.ensures
