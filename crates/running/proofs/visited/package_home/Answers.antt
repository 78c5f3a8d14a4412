-- `running::visited::package_home` meets its contract: the slot or the index tells the home of a package that is never missing. Assumes nothing.
use Rattle.std.specs.Prelude.{Some, None}
use Rattle.std.specs.Prelude.{Option as Optional}
use Prim.Native.Nat.{◌≤◌}
use mathlib.Core.Path.{◌≡◌, sym, subst}
use Rattle.homes.specs.Homes.{HomeThere, NumberedIs}
use Rattle.homes.specs.declared.Home.{Home}
use Rattle.slots.specs.Slots.{SmallHome}
use Rattle.running.specs.Walk.{visit_home}
use Rattle.running.proofs.Visits as visits
use Rattle.running.proofs.visited.package_home.Goals as goal
use Rattle.running.proofs.visited.package_home.Goals.{After-import_in}

-- the package of the number
found : (k : After-import_in) (r : Optional Home) → k.import_in.result ≡ r →
    let a = k.args in
    NumberedIs a.f.now a.s.now (visit_home a.v) a.p r
found k r e =
    let a = k.args in
    let told = subst (NumberedIs a.f.now a.s.now k.home_of-h.result a.p) e k.import_in.ensures.numbered_is in
    subst (λ (g : Home). NumberedIs a.f.now a.s.now g a.p r) k.home_of-h.ensures told

pub import_in-requires : goal.import_in-requires
import_in-requires c =
    let f = c.args.f.now in
    let s = c.args.s.now in
    let v = c.args.v in
    let q : HomeThere f s (visit_home v) × (v.before ≤ v.end) × SmallHome (visit_home v) =
    (visits.visit_home_lem f s v c.requires.visit_placed.0.there, visits.visit_below f s v c.requires.visit_placed.0.there, visits.visit_small f s v c.requires.visit_placed.0.there c.requires.visit_placed.1) in
    let r = subst (λ (h : Home). HomeThere f s h × (h.before ≤ v.end) × SmallHome h) (sym c.home_of-h.ensures) q in
    record { home_there = (r.0, c.requires.visit_placed.0.slot); indexed = (c.requires.numbered_there.1, r.1); small_home = (r.2, c.requires.visit_placed.1); slots_true = c.requires.slots_true }

pub returns-in-Some : goal.returns-in-Some
returns-in-Some c =
    record { numbered_at = found (goal.at.returns-in-Some c).After-import_in (Some c.in-Some.g) c.in-Some.is; slots_true_2 = c.import_in.ensures.slots_true_2 }

pub returns-in-None : goal.returns-in-None
returns-in-None c =
    absurd (c.requires.numbered_there.0 (found (goal.at.returns-in-None c).After-import_in None c.in-None.is))
