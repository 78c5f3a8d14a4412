-- `search::visited::record_of` meets its contract: the part of the file from the record on. Assumes nothing.
use Prim.Native.Nat.{◌≤◌}
use native.Mathlib.Omega.{arith}
use mathlib.Core.Path.{◌≡◌, sym, ◌∙◌, ap, subst}
use lib.ListN.{length}
use Rattle.homes.specs.Homes.{file_of}
use Rattle.homes.proofs.Lookups.{rest_is}
use Rattle.classes.specs.declared.ClassSpot.{ClassSpot}
use Rattle.classes.proofs.Places.{there_bounds}
use Rattle.search.specs.Walk.{visit_spot}
use Rattle.search.proofs.Visits as visits
use Rattle.search.proofs.visited.record_of.Goals as goal
use Rattle.search.proofs.visited.record_of.Goals.{After-file_of-g}

-- the file is that of the class, and the record's place lies inside
file_is : (k : After-file_of-g) → let a = k.args in k.file_of-g.result.now ≡ file_of a.f.now a.s.now (visit_spot a.v).home
file_is k =
    let a = k.args in
    k.file_of-g.ensures ∙ ap (λ (d : ClassSpot). file_of a.f.now a.s.now d.home) k.spot_of-c.ensures

inside : (k : After-file_of-g) → k.args.v.place ≤ length k.file_of-g.result.now
inside k = visits.visit_inside _ _ _ k.requires _ (file_is k)

pub file_of-g-requires : goal.file_of-g-requires
file_of-g-requires c =
    let bounds = there_bounds _ _ _ _ (visits.visit_class _ _ _ c.requires) in
    subst (λ (d : ClassSpot). (d.home.from ≤ d.home.to) × (d.home.to ≤ length c.args.s.now)) (sym c.spot_of-c.ensures) bounds

pub slice_bounds-result-count : goal.slice_bounds-result-count
slice_bounds-result-count c = omega (arith, inside c)

pub slice_bounds-result-start : goal.slice_bounds-result-start
slice_bounds-result-start c = omega (arith, inside c)

pub returns : goal.returns
returns c =
    visits.visit_part _ _ _ c.requires _ (file_is (goal.at.returns c).After-file_of-g) _ (rest_is c.file_of-g.result.now c.args.v.place)
