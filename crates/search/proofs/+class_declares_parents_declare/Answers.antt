-- `search::class_declares` and `search::parents_declare` meet their contracts: the class itself declares the name, or else its interfaces are
-- asked; a turn of the loop passes a parent over, or goes on from it. Assumes nothing.
use Prim.Native.Nat.{ℕ}
use mathlib.Core.Path.{◌≡◌, sym, subst, refl, ◌∙◌, ap}
use Rattle.search.specs.Walk.{visit_spot, class_in, whole, MeantIs, DeclaresIs}
use Rattle.search.proofs.Turns.{Above, Seen}
use native.Mathlib.Omega.{arith}
use mathlib.Core.Bool.{Bool, true, false}
use mathlib.Core.Option.{none}
use Rattle.search.proofs.Codes.{class_in_lem, told_not}
use Rattle.search.proofs.Steps as steps
use Rattle.search.proofs.Turns as turns
use Rattle.bits.specs.Bits.{bit_at}
use Rattle.search.proofs.Visits as visits
use Rattle.search.proofs.+class_declares_parents_declare.Goals as goal
use Rattle.search.proofs.+class_declares_parents_declare.Goals.{class_declares-After-declares_apart, parents_declare-After-parent_apart-c}

-- what the class declares itself is told
itself : {t : ℕ} (k : class_declares-After-declares_apart t) (r : Bool) → k.declares_apart.result ≡ r →
    let a = k.args in DeclaresIs a.f.now a.s.now (visit_spot a.v) a.v.name r
itself k r e = let a = k.args in subst (DeclaresIs a.f.now a.s.now (visit_spot a.v) a.v.name) e k.declares_apart.ensures

pub class_declares-declares_apart-requires : goal.class_declares-declares_apart-requires
class_declares-declares_apart-requires t c = (c.requires.visit_placed.0, c.requires.visit_placed.1)

-- it declares the name
pub class_declares-returns-then-declares_apart : goal.class_declares-returns-then-declares_apart
class_declares-returns-then-declares_apart t c =
    let a = c.args in
    let told = class_in_lem a.v.class (told_not c.requires.visit_placed.0.told) in record {
      meant_is = subst (MeantIs a.f.now a.s.now a.v.end (visit_spot a.v) a.v.name whole) (sym told)
          (steps.whole_itself _ _ _ _ _ (itself (goal.at.class_declares-returns-then-declares_apart t c).After-declares_apart true c.if-declares_apart.true));
      seen_none_2 = c.requires.seen_none;
      slots_true_2 = c.requires.slots_true;
    }

-- it does not, and has no parents
pub class_declares-returns-then-v-eq0 : goal.class_declares-returns-then-v-eq0
class_declares-returns-then-v-eq0 t c =
    let above = steps.above_none _ _ _ _ _ _ 0 c.requires.visit_placed.0.count (omega (arith, c.if-v-eq0.true)) (steps.above_start _ _ _ _ _) in
    record { meant_is = steps.whole_above _ _ _ _ _ (itself (goal.at.class_declares-returns-then-v-eq0 t c).After-declares_apart false c.if-declares_apart.false) none above; seen_none_2 = c.requires.seen_none; slots_true_2 = c.requires.slots_true }

pub class_declares-parents_declare-requires : goal.class_declares-parents_declare-requires
class_declares-parents_declare-requires t c = (omega (arith, c.decreases), (c.requires.visit_placed, (c.requires.seen_none, c.requires.slots_true)))

-- or has
pub class_declares-returns : goal.class_declares-returns
class_declares-returns t c =
    record { meant_is = steps.whole_above _ _ _ _ _ (itself (goal.at.class_declares-returns t c).After-declares_apart false c.if-declares_apart.false) (class_in c.parents_declare.result) c.parents_declare.ensures.meant_is; seen_none_2 = c.parents_declare.ensures.seen_none_2; slots_true_2 = c.parents_declare.ensures.slots_true_2 }

-- parent i of the class is the one told
parent : {t : ℕ} (k : parents_declare-After-parent_apart-c t) →
    let a = k.args in
    turns.Turn a.f.now a.s.now a.v k.loop-i.i k.parent_apart-c.result
parent k =
    record {
      placed = k.requires.visit_placed.0;
      inside = omega (arith, k.loop-i-test.true);
      is = k.parent_apart-c.ensures.parent_is;
    }

pub parents_declare-loop-i-init : goal.parents_declare-loop-i-init
parents_declare-loop-i-init t c = (steps.above_start _ _ _ _ _, c.requires.seen_none, c.requires.slots_true, refl, refl)

pub parents_declare-parent_apart-c-requires : goal.parents_declare-parent_apart-c-requires
parents_declare-parent_apart-c-requires t c =
    record { parent_inside = (turns.turn_inside _ _ _ _ c.requires.visit_placed.0 (omega (arith, c.loop-i-test.true)), c.requires.visit_placed.1); indexed = c.requires.visit_placed.2; slots_true = c.loop-i.invariant.2 }

pub parents_declare-get-requires : goal.parents_declare-get-requires
parents_declare-get-requires t c =
    omega (arith, turns.turn_room (parent (goal.at.parents_declare-get-requires t c).After-parent_apart-c) _ c.loop-i.invariant.1, c.bit_of.ensures)

-- a parent that was seen
pub parents_declare-loop-i-preserved-then-get : goal.parents_declare-loop-i-preserved-then-get
parents_declare-loop-i-preserved-then-get t c =
    let bit = ap (bit_at _) (sym c.bit_of.ensures) ∙ sym c.get.ensures ∙ c.if-get.true in
    (turns.turn_seen (parent (goal.at.parents_declare-loop-i-preserved-then-get t c).After-parent_apart-c) _ c.loop-i.invariant.1 bit c.loop-i.invariant.0, c.loop-i.invariant.1, c.parent_apart-c.ensures.slots_true_2, c.loop-i.invariant.3, omega (arith, c.loop-i.invariant.4, c.parent_apart-c.auto.slots))

pub parents_declare-interface_apart-w-requires : goal.parents_declare-interface_apart-w-requires
parents_declare-interface_apart-w-requires t c =
    record { spot_there = (turns.turn_there (parent (goal.at.parents_declare-interface_apart-w-requires t c).After-parent_apart-c), c.requires.visit_placed.1); slots_true = c.parent_apart-c.ensures.slots_true_2 }

-- one of kind 0
pub parents_declare-loop-i-preserved-then-w-eq0 : goal.parents_declare-loop-i-preserved-then-w-eq0
parents_declare-loop-i-preserved-then-w-eq0 t c = (
  turns.turn_kind0 (parent (goal.at.parents_declare-loop-i-preserved-then-w-eq0 t c).After-parent_apart-c) _ c.interface_apart-w.ensures.interface_is c.if-w-eq0.true c.loop-i.invariant.0,
  c.loop-i.invariant.1,
  c.interface_apart-w.ensures.slots_true_2,
  c.loop-i.invariant.3,
  omega (arith, c.loop-i.invariant.4, c.parent_apart-c.auto.slots, c.interface_apart-w.auto.slots),
)

-- an interface that was not seen
pub parents_declare-class_declares-r-requires : goal.parents_declare-class_declares-r-requires
parents_declare-class_declares-r-requires t c =
    let of = turns.walk_of (parent (goal.at.parents_declare-class_declares-r-requires t c).After-parent_apart-c) _ c.interface_apart-w.ensures.interface_is c.if-w-eq0.false in (
      omega (arith, c.decreases, turns.walk_less (parent (goal.at.parents_declare-class_declares-r-requires t c).After-parent_apart-c) _ c.interface_apart-w.ensures.interface_is c.if-w-eq0.false),
      (
        (of.placed, c.requires.visit_placed.1, visits.visit_indexed of _ c.requires.visit_placed.2),
        (visits.seen_visit of _ c.loop-i.invariant.1, c.interface_apart-w.ensures.slots_true_2),
      ),
    )

-- it leads to a class that declares the name
pub parents_declare-returns-then-r-ne0 : goal.parents_declare-returns-then-r-ne0
parents_declare-returns-then-r-ne0 t c =
    record { meant_is = turns.walk_hit (parent (goal.at.parents_declare-returns-then-r-ne0 t c).After-parent_apart-c) _ c.interface_apart-w.ensures.interface_is c.if-w-eq0.false _ c.class_declares-r.ensures.meant_is c.if-r-ne0.true c.loop-i.invariant.0; seen_none_2 = visits.visit_seen (turns.walk_of (parent (goal.at.parents_declare-returns-then-r-ne0 t c).After-parent_apart-c) _ c.interface_apart-w.ensures.interface_is c.if-w-eq0.false) _ c.class_declares-r.ensures.seen_none_2; slots_true_2 = c.class_declares-r.ensures.slots_true_2 }

pub parents_declare-set-requires : goal.parents_declare-set-requires
parents_declare-set-requires t c =
    let u = parent (goal.at.parents_declare-set-requires t c).After-parent_apart-c in
    let of = turns.walk_of u _ c.interface_apart-w.ensures.interface_is c.if-w-eq0.false in
    omega (arith, turns.turn_room u _ (visits.visit_seen of _ c.class_declares-r.ensures.seen_none_2), c.bit_of-in-loop-i.ensures)

-- or to none
pub parents_declare-loop-i-preserved : goal.parents_declare-loop-i-preserved
parents_declare-loop-i-preserved t c =
    let bit = turns.walk_bit (parent (goal.at.parents_declare-loop-i-preserved t c).After-parent_apart-c) _ c.interface_apart-w.ensures.interface_is c.if-w-eq0.false _ c.class_declares-r.ensures.meant_is c.if-r-ne0.false _ _ c.class_declares-r.ensures.seen_none_2 c.set.auto.s _ c.bit_of-in-loop-i.ensures
    c.set.ensures in (
      turns.walk_miss (parent (goal.at.parents_declare-loop-i-preserved t c).After-parent_apart-c) _ c.interface_apart-w.ensures.interface_is c.if-w-eq0.false _ c.class_declares-r.ensures.meant_is c.if-r-ne0.false c.loop-i.invariant.0,
      bit,
      c.class_declares-r.ensures.slots_true_2,
      omega (arith, c.loop-i.invariant.3, c.set.auto.s, c.class_declares-r.auto.seen),
      omega (arith, c.loop-i.invariant.4, c.parent_apart-c.auto.slots, c.interface_apart-w.auto.slots, c.class_declares-r.auto.slots),
    )

-- all parents are passed
pub parents_declare-returns : goal.parents_declare-returns
parents_declare-returns t c =
    record { meant_is = steps.above_none _ _ _ _ _ _ c.loop-i.i c.requires.visit_placed.0.count (omega arith) c.loop-i.invariant.0; seen_none_2 = c.loop-i.invariant.1; slots_true_2 = c.loop-i.invariant.2 }

-- the tables
pub parents_declare-shape_of-slots-then-r-ne0 : goal.parents_declare-shape_of-slots-then-r-ne0
parents_declare-shape_of-slots-then-r-ne0 t c =
    omega (arith, c.loop-i.invariant.4, c.parent_apart-c.auto.slots, c.interface_apart-w.auto.slots, c.class_declares-r.auto.slots)

pub parents_declare-shape_of-seen-then-r-ne0 : goal.parents_declare-shape_of-seen-then-r-ne0
parents_declare-shape_of-seen-then-r-ne0 t c =
    omega (arith, c.loop-i.invariant.3, c.class_declares-r.auto.seen)

pub parents_declare-shape_of-slots : goal.parents_declare-shape_of-slots
parents_declare-shape_of-slots t c = c.loop-i.invariant.4

pub parents_declare-shape_of-seen : goal.parents_declare-shape_of-seen
parents_declare-shape_of-seen t c = c.loop-i.invariant.3
