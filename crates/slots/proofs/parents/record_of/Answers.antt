-- `slots::parents::record_of` meets its contract: the part of the file from the record on. Assumes nothing.
use Prim.Native.Nat.{◌≤◌}
use native.Mathlib.Omega.{arith}
use lib.ListN.{length}
use Rattle.homes.proofs.Lookups.{rest_is}
use Rattle.classes.proofs.Places.{there_bounds}
use Rattle.slots.proofs.Standing as standing
use Rattle.slots.proofs.parents.record_of.Goals as goal
use Rattle.slots.proofs.parents.record_of.Goals.{After-file_of-g}

-- the place is inside the file
inside : (k : After-file_of-g) → k.place_of-at.result ≤ length k.file_of-g.result.now
inside k =
    standing.record_inside _ _ _ _ k.requires.class_there.0 _ k.file_of-g.ensures _ k.place_of-at.ensures.record_at

pub file_of-g-requires : goal.file_of-g-requires
file_of-g-requires c = there_bounds _ _ _ _ c.requires.class_there.0

pub slice_bounds-result-count : goal.slice_bounds-result-count
slice_bounds-result-count c = omega (arith, inside c)

pub slice_bounds-result-start : goal.slice_bounds-result-start
slice_bounds-result-start c = omega (arith, inside c)

pub returns : goal.returns
returns c =
    record { record_is = standing.record_part _ _ _ _ c.requires.class_there.0 _ c.file_of-g.ensures _ c.place_of-at.ensures.record_at _ (rest_is c.file_of-g.result.now c.place_of-at.result); slots_true_2 = c.place_of-at.ensures.slots_true_2 }
