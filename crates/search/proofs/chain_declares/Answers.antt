-- `search::chain_declares` meets its contract: the walk goes on while no class passed declares the name. Assumes nothing.
use native.Mathlib.Omega.{arith}
use mathlib.Core.Path.{◌≡◌, refl, subst, ap}
use mathlib.Core.Bool.{Bool}
use Rattle.search.specs.Walk.{sought_spot, itself, SpotThere, DeclaresIs}
use Rattle.search.proofs.Standing as standing
use Rattle.search.proofs.Visits as visits
use Rattle.search.proofs.Chain as chain
use Rattle.search.proofs.chain_declares.Goals as goal
use Rattle.search.proofs.chain_declares.Goals.{In-Some, After-declares}

-- the walk is at the class of the turn
walk : (k : In-Some) →
    let a = k.args in
    chain.AlongFrom a.f.now a.s.now a.x.end (sought_spot a.x) a.x.name itself k.in-Some.c × SpotThere a.f.now a.s.now a.x.end k.in-Some.c
walk k =
    let a = k.args in
    subst (chain.AlongTo a.f.now a.s.now a.x.end (sought_spot a.x) a.x.name itself) k.in-Some.is k.loop-at.invariant.walk

-- what the class of a turn declares itself
told : (k : After-declares) (r : Bool) → k.declares.result ≡ r →
    let a = k.args in
    DeclaresIs a.f.now a.s.now k.in-Some.c a.x.name r
told k r e =
    let a = k.args in
    visits.visit_declares k.visit_of-v.ensures.visit_of r (subst (DeclaresIs a.f.now a.s.now _ _) e k.declares.ensures)

pub loop-at-init : goal.loop-at-init
loop-at-init c =
    record { walk = (chain.along_start _ _ _ _ _ itself, c.requires.sought_from.there); slots_true = c.requires.slots_true; slots = refl }

pub visit_of-v-requires : goal.visit_of-v-requires
visit_of-v-requires c =
    record { spot_there = ((walk (goal.at.visit_of-v-requires c).In-Some).1, c.requires.sought_from.small); slots_true = c.loop-at.invariant.slots_true }

pub declares-requires : goal.declares-requires
declares-requires c = c.visit_of-v.ensures.visit_of.placed

pub returns-then-declares : goal.returns-then-declares
returns-then-declares c =
    let at = (walk (goal.at.returns-then-declares c).In-Some).0 in
    let there = chain.itself_there _ _ _ _ _ (told (goal.at.returns-then-declares c).After-declares _ c.if-declares.true) in
    record { meant_is = chain.along_hit _ _ _ _ _ itself c.in-Some.c at c.in-Some.c there; slots_true_2 = c.visit_of-v.ensures.slots_true_2 }

pub kind0_parent-at-requires : goal.kind0_parent-at-requires
kind0_parent-at-requires c =
    let there = (walk (goal.at.kind0_parent-at-requires c).In-Some).1 in
    record { class_there = (standing.spot_class _ _ _ _ there, c.requires.sought_from.small); indexed = (c.requires.sought_from.indexed, standing.spot_below _ _ _ _ there); slots_true = c.visit_of-v.ensures.slots_true_2 }

pub loop-at-smaller : goal.loop-at-smaller
loop-at-smaller c =
    let less = chain.ahead_less c.in-Some.c.home c.in-Some.c.number c.kind0_parent-at.result c.kind0_parent-at.ensures.kind0parent_is.2 in
    omega (arith, less, ap chain.ahead c.in-Some.is)

pub loop-at-preserved : goal.loop-at-preserved
loop-at-preserved c =
    let at = walk (goal.at.loop-at-preserved c).In-Some in
    let none = chain.itself_none _ _ _ _ _ (told (goal.at.loop-at-preserved c).After-declares _ c.if-declares.false) in
    record {
      walk = chain.along_turn _ _ _ _ _ itself c.in-Some.c at.0 none at.1 _ c.kind0_parent-at.ensures.kind0parent_is.0;
      slots_true = c.kind0_parent-at.ensures.slots_true_2;
      slots = omega (arith, c.loop-at.invariant.slots, c.visit_of-v.auto.slots, c.kind0_parent-at.auto.slots);
    }

pub returns : goal.returns
returns c =
    let a = c.args in
    let over = subst (chain.AlongTo a.f.now a.s.now a.x.end (sought_spot a.x) a.x.name itself) c.in_default.is c.loop-at.invariant.walk in
    record { meant_is = over; slots_true_2 = c.loop-at.invariant.slots_true }
