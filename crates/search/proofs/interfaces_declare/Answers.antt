-- `search::interfaces_declare` meets its contract: the walk goes on while no interface of a class passed declares the name. Assumes nothing.
use native.Mathlib.Omega.{arith}
use mathlib.Core.Path.{◌≡◌, refl, sym, ◌∙◌, ap, subst}
use mathlib.Core.Option.{Option, some}
use Rattle.classes.specs.declared.ClassSpot.{ClassSpot}
use Rattle.search.specs.Walk.{class_in, sought_spot, above, SpotThere, MeantIs}
use Rattle.search.proofs.Codes.{class_in_lem}
use Rattle.search.proofs.Standing as standing
use Rattle.search.proofs.Visits as visits
use Rattle.search.proofs.Chain as chain
use Rattle.search.proofs.Seen as seen_of
use Rattle.search.proofs.interfaces_declare.Goals as goal
use Rattle.search.proofs.interfaces_declare.Goals.{In-Some, After-parents_declare-r}

-- the walk is at the class of the turn
walk : (k : In-Some) →
    let a = k.args in
    chain.AlongFrom a.f.now a.s.now a.x.end (sought_spot a.x) a.x.name above k.in-Some.c × SpotThere a.f.now a.s.now a.x.end k.in-Some.c
walk k =
    let a = k.args in
    subst (chain.AlongTo a.f.now a.s.now a.x.end (sought_spot a.x) a.x.name above) k.in-Some.is k.loop-at.invariant.walk

-- what the interfaces of the class of a turn declare
told : (k : After-parents_declare-r) (o : Option ClassSpot) → class_in k.parents_declare-r.result ≡ o →
    let a = k.args in
    MeantIs a.f.now a.s.now a.x.end k.in-Some.c a.x.name above o
told k o e =
    let a = k.args in
    visits.visit_meant k.visit_of-v.ensures.visit_of above o (subst (MeantIs a.f.now a.s.now _ _ _ above) e k.parents_declare-r.ensures.meant_is)

pub clear_seen-requires : goal.clear_seen-requires
clear_seen-requires c =
    let inside = seen_of.end_inside _ _ _ _ c.requires.sought_from.0.there in
    (omega (arith, inside, c.requires.sought_from.1), omega (arith, inside, c.requires.sought_from.0.small))

pub loop-at-init : goal.loop-at-init
loop-at-init c =
    let seen = seen_of.seen_none c.args.f.now c.args.s.now c.args.x.end c.args.x.name _ (omega (arith, c.requires.sought_from.1, c.clear_seen.auto.seen))
    c.clear_seen.ensures in
    record { walk = (chain.along_start _ _ _ _ _ above, c.requires.sought_from.0.there); slots_true = c.requires.slots_true; slots = refl; seen_none = seen; seen = refl }

pub visit_of-v-requires : goal.visit_of-v-requires
visit_of-v-requires c =
    record { spot_there = ((walk (goal.at.visit_of-v-requires c).In-Some).1, c.requires.sought_from.0.small); slots_true = c.loop-at.invariant.slots_true }

pub parents_declare-r-requires : goal.parents_declare-r-requires
parents_declare-r-requires c =
    record { visit_placed = (c.visit_of-v.ensures.visit_of.placed, c.requires.sought_from.0.small, visits.visit_indexed c.visit_of-v.ensures.visit_of _ c.requires.sought_from.0.indexed); seen_none = visits.seen_visit c.visit_of-v.ensures.visit_of _ c.loop-at.invariant.seen_none; slots_true = c.visit_of-v.ensures.slots_true_2 }

pub returns-then-r-ne0 : goal.returns-then-r-ne0
returns-then-r-ne0 c =
    let at = (walk (goal.at.returns-then-r-ne0 c).In-Some).0 in
    let is = class_in_lem c.parents_declare-r.result c.if-r-ne0.true ∙ ap some (sym c.spot_of.ensures) in
    record { meant_is = chain.along_hit _ _ _ _ _ above c.in-Some.c at _ (told (goal.at.returns-then-r-ne0 c).After-parents_declare-r _ is); slots_true_2 = c.parents_declare-r.ensures.slots_true_2 }

pub kind0_parent-at-requires : goal.kind0_parent-at-requires
kind0_parent-at-requires c =
    let there = (walk (goal.at.kind0_parent-at-requires c).In-Some).1 in
    record { class_there = (standing.spot_class _ _ _ _ there, c.requires.sought_from.0.small); indexed = (c.requires.sought_from.0.indexed, standing.spot_below _ _ _ _ there); slots_true = c.parents_declare-r.ensures.slots_true_2 }

pub loop-at-smaller : goal.loop-at-smaller
loop-at-smaller c =
    let less = chain.ahead_less c.in-Some.c.home c.in-Some.c.number c.kind0_parent-at.result c.kind0_parent-at.ensures.kind0parent_is.2 in
    omega (arith, less, ap chain.ahead c.in-Some.is)

pub loop-at-preserved : goal.loop-at-preserved
loop-at-preserved c =
    let at = walk (goal.at.loop-at-preserved c).In-Some in
    let none = told (goal.at.loop-at-preserved c).After-parents_declare-r _ (ap class_in c.if-r-ne0.false) in
    record {
      walk = chain.along_turn _ _ _ _ _ above c.in-Some.c at.0 none at.1 _ c.kind0_parent-at.ensures.kind0parent_is.0;
      slots_true = c.kind0_parent-at.ensures.slots_true_2;
      slots = omega (arith, c.loop-at.invariant.slots, c.visit_of-v.auto.slots, c.parents_declare-r.auto.slots, c.kind0_parent-at.auto.slots);
      seen_none = visits.visit_seen c.visit_of-v.ensures.visit_of _ c.parents_declare-r.ensures.seen_none_2;
      seen = omega (arith, c.loop-at.invariant.seen, c.parents_declare-r.auto.seen);
    }

pub returns : goal.returns
returns c =
    let a = c.args in
    let over = subst (chain.AlongTo a.f.now a.s.now a.x.end (sought_spot a.x) a.x.name above) c.in_default.is c.loop-at.invariant.walk in
    record { meant_is = over; slots_true_2 = c.loop-at.invariant.slots_true }
