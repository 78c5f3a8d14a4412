-- `search::visited::parent_apart` meets its contract: the package that the record names, which is never missing, and the class there. It never
-- calls itself, since no store is that long. Assumes nothing.
use Rattle.std.specs.Prelude.{Some, None}
use Rattle.std.specs.Prelude.{Option as Optional}
use Prim.Native.Nat.{ℕ, ◌≤◌}
use native.Mathlib.Omega.{arith}
use mathlib.Core.Path.{◌≡◌, sym, ap, subst}
use Rattle.homes.specs.Homes.{HomeThere, NumberedIs}
use Rattle.homes.specs.declared.Home.{Home}
use Rattle.classes.specs.declared.ClassSpot.{ClassSpot}
use Rattle.classes.proofs.Records.{home_there}
use Rattle.slots.specs.Slots.{SmallHome}
use Rattle.search.specs.Walk.{visit_spot}
use Rattle.search.proofs.Standing as standing
use Rattle.search.proofs.Visits as visits
use Rattle.search.proofs.visited.+parent_apart.Goals as goal
use Rattle.search.proofs.visited.+parent_apart.Goals.{After-spot_of-c, After-import_in}

-- the home is that of the class
home_is : {t : ℕ} (k : After-spot_of-c t) → k.spot_of-c.result.home ≡ (visit_spot k.args.v).home
home_is k = ap (λ (d : ClassSpot). d.home) k.spot_of-c.ensures

-- the package that the number stands for, and the class there
package_is : {t : ℕ} (k : After-import_in t) (r : Optional Home) → k.import_in.result ≡ r →
    let a = k.args in
    NumberedIs a.f.now a.s.now (visit_spot a.v).home k.named_in-p.result.pack r
package_is {t = t} k r e =
    let a = k.args in
    let told = subst (NumberedIs a.f.now a.s.now k.spot_of-c.result.home k.named_in-p.result.pack) e
    k.import_in.ensures.numbered_is in
    subst (λ (g : Home). NumberedIs a.f.now a.s.now g k.named_in-p.result.pack r) (home_is (goal.at.After-import_in t k).After-spot_of-c) told

same_package_lem : {t : ℕ} (k : After-spot_of-c t) → k.named_in-p.result.pack ≡ 0 →
    let a = k.args in
    NumberedIs a.f.now a.s.now (visit_spot a.v).home k.named_in-p.result.pack (Some k.spot_of-c.result.home)
same_package_lem k z =
    let a = k.args in
    subst (λ p. NumberedIs a.f.now a.s.now (visit_spot a.v).home p (Some k.spot_of-c.result.home)) (sym z) (ap Some (home_is k))

pub parent_apart-c-requires : goal.parent_apart-c-requires
parent_apart-c-requires t c = absurd (omega (arith, c.if-s-gt65535.true, c.requires.parent_inside.1))

pub named_in-p-requires : goal.named_in-p-requires
named_in-p-requires t c = c.requires.parent_inside.0

-- the same package
pub class_of-requires : goal.class_of-requires
class_of-requires t c =
    visits.parent_small _ _ _ _ c.requires.parent_inside.0 c.requires.parent_inside.1 _ c.named_in-p.ensures _
    (same_package_lem (goal.at.class_of-requires t c).After-spot_of-c c.if-p-eq0.true)

pub returns-then-p-eq0 : goal.returns-then-p-eq0
returns-then-p-eq0 t c =
    let is = same_package_lem (goal.at.returns-then-p-eq0 t c).After-spot_of-c c.if-p-eq0.true in
    record { parent_is = visits.parent_told _ _ _ _ c.requires.parent_inside.0 c.requires.parent_inside.1 _ c.named_in-p.ensures _ is _ c.class_of.ensures; slots_true_2 = c.requires.slots_true }

pub import_in-requires : goal.import_in-requires
import_in-requires t c =
    let f = c.args.f.now in
    let s = c.args.s.now in
    let v = c.args.v in
    let q : HomeThere f s (visit_spot v).home × ((visit_spot v).home.before ≤ v.end) × SmallHome (visit_spot v).home = (
      home_there f s _ _ (visits.visit_class f s v c.requires.parent_inside.0.placed),
      standing.spot_below f s v.end (visit_spot v) c.requires.parent_inside.0.placed.there,
      standing.spot_small f s v.end (visit_spot v) c.requires.parent_inside.0.placed.there c.requires.parent_inside.1,
    ) in
    let r = subst (λ (h : Home). HomeThere f s h × (h.before ≤ v.end) × SmallHome h) (sym (home_is (goal.at.import_in-requires t c).After-spot_of-c)) q in
    record { home_there = (r.0, c.slot_for-k.ensures); indexed = (c.requires.indexed, r.1); small_home = (r.2, c.requires.parent_inside.1); slots_true = c.requires.slots_true }

-- another
pub class_of-requires-2 : goal.class_of-requires-2
class_of-requires-2 t c =
    visits.parent_small _ _ _ _ c.requires.parent_inside.0 c.requires.parent_inside.1 _ c.named_in-p.ensures _ (package_is (goal.at.class_of-requires-2 t c).After-import_in _ c.in-Some.is)

pub returns : goal.returns
returns t c =
    let is = package_is (goal.at.returns t c).After-import_in _ c.in-Some.is in
    record { parent_is = visits.parent_told _ _ _ _ c.requires.parent_inside.0 c.requires.parent_inside.1 _ c.named_in-p.ensures _ is _ c.class_of-2.ensures; slots_true_2 = c.import_in.ensures.slots_true_2 }

pub unreachable-requires : goal.unreachable-requires
unreachable-requires t c =
    absurd (visits.parent_never _ _ _ _ c.requires.parent_inside.0 c.requires.parent_inside.1 _ c.named_in-p.ensures (package_is (goal.at.unreachable-requires t c).After-import_in None c.in_default.is))
