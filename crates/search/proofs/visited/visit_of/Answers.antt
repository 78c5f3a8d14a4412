-- `search::visited::visit_of` meets its contract: the slots tell the place of the record, and the record how many parents there are. Assumes nothing.
use Prim.Native.Nat.{◌≤◌}
use native.Mathlib.Omega.{arith}
use mathlib.Core.Path.{refl}
use Rattle.classes.proofs.Places.{there_bounds}
use Rattle.search.proofs.Seen as seen_of
use Rattle.search.proofs.Standing as standing
use Rattle.search.proofs.Visits as visits
use Rattle.search.proofs.visited.visit_of.Goals as goal
use Rattle.search.proofs.visited.visit_of.Goals.{After-place_of-at}

-- the place fits two bytes
place-few : (k : After-place_of-at) → k.place_of-at.result ≤ 65535
place-few k =
    standing.place_small _ _ _ _ k.requires.spot_there.0 _ k.place_of-at.ensures.record_at k.requires.spot_there.1 (omega (arith, k.type_inv.f 5)) (omega (arith, k.type_inv.f 6))

pub place_of-at-requires : goal.place_of-at-requires
place_of-at-requires c = record { class_there = (standing.spot_class _ _ _ _ c.requires.spot_there.0, c.requires.spot_there.1); slots_true = c.requires.slots_true }

pub file_of-g-requires : goal.file_of-g-requires
file_of-g-requires c = there_bounds _ _ _ _ (standing.spot_class _ _ _ _ c.requires.spot_there.0)

pub class_of-requires : goal.class_of-requires
class_of-requires c = (standing.spot_small _ _ _ _ c.requires.spot_there.0 c.requires.spot_there.1, standing.spot_few _ _ _ _ c.requires.spot_there.0)

pub overflow_cast-result : goal.overflow_cast-result
overflow_cast-result c = omega (arith, seen_of.end_inside _ _ _ _ c.requires.spot_there.0, c.requires.spot_there.1)

pub overflow_cast-result-2 : goal.overflow_cast-result-2
overflow_cast-result-2 c = omega (arith, place-few (goal.at.overflow_cast-result-2 c).After-place_of-at)

pub overflow_add-result : goal.overflow_add-result
overflow_add-result c = omega (arith, place-few (goal.at.overflow_add-result c).After-place_of-at)

pub bounds-g-at : goal.bounds-g-at
bounds-g-at c =
    standing.count_inside _ _ _ (standing.spot_class _ _ _ _ c.requires.spot_there.0) _ c.file_of-g.ensures _ c.place_of-at.ensures.record_at

pub returns : goal.returns
returns c =
    let count = standing.count_at _ _ _ (standing.spot_class _ _ _ _ c.requires.spot_there.0) _ c.file_of-g.ensures _ c.place_of-at.ensures.record_at _ refl in
    record { visit_of = visits.visit_made _ _ _ _ _ c.requires.spot_there.0 c.requires.spot_there.1 _ c.class_of.ensures refl refl c.place_of-at.ensures.record_at count; slots_true_2 = c.place_of-at.ensures.slots_true_2 }
