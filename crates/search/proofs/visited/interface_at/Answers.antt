-- `search::visited::interface_at` meets its contract: the visit of the class, by its kind. Assumes nothing.
use native.Mathlib.Omega.{arith}
use mathlib.Core.Path.{refl, sym, subst}
use mathlib.Core.Bool.{Bool}
use Rattle.classes.specs.Say.{Kind0Is}
use Rattle.classes.specs.declared.ClassSpot.{ClassSpot}
use Rattle.classes.proofs.Records as records
use Rattle.search.specs.Walk.{spot_in, visit_spot, SpotThere, VisitOf}
use Rattle.search.proofs.Turns.{interface_told}
use Rattle.search.proofs.Visits as visits
use Rattle.search.proofs.visited.interface_at.Goals as goal
use Rattle.search.proofs.visited.interface_at.Goals.{After-record_of-k, After-visit_of-w}

-- the visit is that of the class told
visit_is : (k : After-visit_of-w) →
    let a = k.args in
    VisitOf a.f.now a.s.now a.v.end a.v.name (spot_in a.c) k.visit_of-w.result
visit_is k =
    let a = k.args in
    subst (λ (d : ClassSpot). VisitOf a.f.now a.s.now a.v.end a.v.name d k.visit_of-w.result) k.spot_of.ensures
    k.visit_of-w.ensures.visit_of

-- and what its record tells is told of the class
kind : (k : After-record_of-k) (b : Bool) →
    let d = visit_spot k.visit_of-w.result in
    let a = k.args in
    Kind0Is a.f.now a.s.now d.home d.number b → Kind0Is a.f.now a.s.now (spot_in a.c).home (spot_in a.c).number b
kind k b q =
    let a = k.args in
    subst (λ (d : ClassSpot). Kind0Is a.f.now a.s.now d.home d.number b) (visit_is (goal.at.After-record_of-k k).After-visit_of-w).is q

pub visit_of-w-requires : goal.visit_of-w-requires
visit_of-w-requires c =
    let a = c.args in
    let there = subst (SpotThere a.f.now a.s.now a.v.end) (sym c.spot_of.ensures) c.requires.spot_there.0 in
    record { spot_there = (there, c.requires.spot_there.1); slots_true = c.requires.slots_true }

pub record_of-k-requires : goal.record_of-k-requires
record_of-k-requires c = c.visit_of-w.ensures.visit_of.placed

pub bounds-k-0 : goal.bounds-k-0
bounds-k-0 c =
    omega (arith, records.record_inside _ _ _ _ _ c.record_of-k.ensures (visits.visit_class _ _ _ c.visit_of-w.ensures.visit_of.placed))

pub returns-then-k-eq1 : goal.returns-then-k-eq1
returns-then-k-eq1 c =
    let one = kind (goal.at.returns-then-k-eq1 c).After-record_of-k _ (records.kind_one _ _ _ _ _ c.record_of-k.ensures _ refl c.if-k-eq1.true) in
    record { interface_is = interface_told _ _ c.args.v _ c.visit_of-w.result one (visit_is (goal.at.returns-then-k-eq1 c).After-visit_of-w); slots_true_2 = c.visit_of-w.ensures.slots_true_2 }

pub returns : goal.returns
returns c =
    let zero = kind (goal.at.returns c).After-record_of-k _ (records.kind_zero _ _ _ _ _ c.record_of-k.ensures _ refl c.if-k-eq1.false) in
    record { interface_is = zero; slots_true_2 = c.visit_of-w.ensures.slots_true_2 }
