-- `search::visited::declares` meets its contract: the method is looked for in the record of the class. Assumes nothing.
use Prim.Native.Nat.{◌≤◌}
use mathlib.Core.Path.{◌≡◌, sym, ◌∙◌, ap, subst}
use lib.ListN.{length}
use Rattle.homes.specs.Homes.{file_of}
use Rattle.classes.specs.declared.ClassSpot.{ClassSpot}
use Rattle.classes.proofs.Places.{there_bounds}
use Rattle.search.specs.Walk.{visit_spot, DeclaresIs}
use Rattle.search.proofs.Visits as visits
use Rattle.search.proofs.visited.declares.Goals as goal
use Rattle.search.proofs.visited.declares.Goals.{After-file_of-g}

-- the file is that of the class
file_is : (k : After-file_of-g) → let a = k.args in k.file_of-g.result.now ≡ file_of a.f.now a.s.now (visit_spot a.v).home
file_is k =
    let a = k.args in
    k.file_of-g.ensures ∙ ap (λ (d : ClassSpot). file_of a.f.now a.s.now d.home) k.spot_of-c.ensures

pub file_of-g-requires : goal.file_of-g-requires
file_of-g-requires c =
    let bounds = there_bounds _ _ _ _ (visits.visit_class _ _ _ c.requires) in
    subst (λ (d : ClassSpot). (d.home.from ≤ d.home.to) × (d.home.to ≤ length c.args.s.now)) (sym c.spot_of-c.ensures) bounds

pub find_method-requires : goal.find_method-requires
find_method-requires c = visits.visit_record _ _ _ c.requires _ (file_is (goal.at.find_method-requires c).After-file_of-g)

pub returns : goal.returns
returns c =
    let a = c.args in
    let there = visits.declares_is _ _ _ c.requires _ (file_is (goal.at.returns c).After-file_of-g) _ c.find_method.ensures in
    subst (DeclaresIs a.f.now a.s.now (visit_spot a.v) a.v.name) (sym c.is_some.ensures) there
