-- `running::visited::parent_visit` meets its contract: the pair of bytes that names the parent, and the package of that number, which is
-- never missing. Assumes nothing.
use Prim.Native.Nat.{◌+◌, ◌*◌, ◌<◌}
use native.Mathlib.Omega.{arith}
use mathlib.Core.Path.{sym, ◌∙◌, ap, subst}
use lib.ListN.{length}
use Rattle.classes.specs.Say.{ParentIs}
use Rattle.classes.specs.declared.ClassSpot.{ClassSpot}
use Rattle.classes.proofs.Records as records
use Rattle.classes.proofs.Parents as parents
use Rattle.chains.specs.declared.Names.{Names}
use Rattle.running.specs.Walk.{visit_home, visit_names, visit_for, SmallNames}
use Rattle.running.proofs.Visits as visits
use Rattle.running.proofs.visited.parent_visit.Goals as goal
use Rattle.running.proofs.visited.parent_visit.Goals.{After-package_home-h, After-record_of-c}

-- the pair stands inside the record
inside : (k : After-record_of-c) → (k.args.i < 8) × (3 + 2 * k.args.i < length k.record_of-c.result.now)
inside k =
    let a = k.args in
    records.pair_inside a.f.now a.s.now (visit_home a.v) a.v.number k.record_of-c.result.now k.record_of-c.ensures a.i
    (visits.placed_parent a.f.now a.s.now a.v a.i k.requires.parent_placed.0)

-- the class told is the parent
abbrev spot : After-package_home-h → ClassSpot
spot k = record { home = k.package_home-h.result; number = k.wide-number.result }

parent : (k : After-package_home-h) →
    let a = k.args in
    ParentIs a.f.now a.s.now (visit_home a.v) a.v.number a.i (spot k)
parent k =
    let a = k.args in
    parents.parent_is a.f.now a.s.now (visit_home a.v) a.v.number a.i k.record_of-c.result.now k.record_of-c.ensures k.wide.result k.wide-number.result k.wide.ensures.0
    k.wide-number.ensures.0 k.package_home-h.result k.wide-number.ensures.1 k.package_home-h.ensures.numbered_at

pub record_of-c-requires : goal.record_of-c-requires
record_of-c-requires c = c.requires.parent_placed.0.class

pub overflow_mul-i : goal.overflow_mul-i
overflow_mul-i c = omega (arith, (inside c).0)

pub overflow_add-i : goal.overflow_add-i
overflow_add-i c = omega (arith, (inside c).0)

pub bounds-c-i : goal.bounds-c-i
bounds-c-i c = omega (arith, (inside (goal.at.bounds-c-i c).After-record_of-c).1)

pub overflow_mul-i-2 : goal.overflow_mul-i-2
overflow_mul-i-2 c = omega (arith, (inside (goal.at.overflow_mul-i-2 c).After-record_of-c).0)

pub overflow_add-i-2 : goal.overflow_add-i-2
overflow_add-i-2 c = omega (arith, (inside (goal.at.overflow_add-i-2 c).After-record_of-c).0)

pub bounds-c-i-2 : goal.bounds-c-i-2
bounds-c-i-2 c = omega (arith, (inside (goal.at.bounds-c-i-2 c).After-record_of-c).1)

pub package_home-h-requires : goal.package_home-h-requires
package_home-h-requires c =
    let f = c.args.f.now in
    let s = c.args.s.now in
    let v = c.args.v in
    let there = parents.parent_none f s (visit_home v) v.number c.args.i c.record_of-c.result.now c.record_of-c.ensures c.wide.result c.wide-number.result c.wide.ensures.0
    c.wide-number.ensures.0 (visits.placed_parent f s v c.args.i c.requires.parent_placed.0) in
    record { visit_placed = (c.requires.parent_placed.0.class, c.requires.parent_placed.1); numbered_there = (there, c.requires.indexed); slots_true = c.requires.slots_true }

pub visit_for-requires : goal.visit_for-requires
visit_for-requires c =
    let f = c.args.f.now in
    let s = c.args.s.now in
    let v = c.args.v in
    let fits : SmallNames (visit_names v) =
    record { end = omega arith; own = omega arith; stored = omega arith; all = omega arith } in (
      subst SmallNames (sym c.names_of.ensures) fits,
      omega arith,
      visits.parent_small f s v c.args.i c.requires.parent_placed.0 c.requires.parent_placed.1 (spot (goal.at.visit_for-requires c).After-package_home-h) (parent (goal.at.visit_for-requires c).After-package_home-h),
      omega (arith, c.wide-number.ensures.1),
    )

pub returns : goal.returns
returns c =
    let v = c.args.v in
    let is = c.visit_for.ensures ∙ ap (λ (w : Names). visit_for w v.domain c.package_home-h.result c.wide-number.result) c.names_of.ensures in
    record { parent_visit = (spot (goal.at.returns c).After-package_home-h, is, parent (goal.at.returns c).After-package_home-h); slots_true_2 = c.package_home-h.ensures.slots_true_2 }
