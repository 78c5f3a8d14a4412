-- `running::visited::placed` meets its contract: the record is found, by the slot that is looked up for its package. Assumes nothing.
use native.Mathlib.Omega.{arith}
use mathlib.Core.Path.{refl, sym, subst}
use Rattle.homes.specs.declared.Home.{Home}
use Rattle.classes.specs.Say.{ClassThere, RecordAt}
use Rattle.slots.specs.Slots.{SmallHome}
use Rattle.running.specs.Walk.{visit_home}
use Rattle.running.proofs.Visits as visits
use Rattle.running.proofs.visited.placed.Goals as goal

pub record_in-c-requires : goal.record_in-c-requires
record_in-c-requires c =
    let f = c.args.f.now in
    let s = c.args.s.now in
    let v = c.args.v in
    let q : ClassThere f s (visit_home v) v.number × SmallHome (visit_home v) = (
      visits.visit_class f s v c.requires.visit_there.0,
      visits.visit_small f s v c.requires.visit_there.0 c.requires.visit_there.1,
    ) in
    let r = subst (λ (h : Home). ClassThere f s h v.number × SmallHome h) (sym c.home_of-h.ensures) q in
    record { class_there = (r.0, c.slot_for-k.ensures); small_home = r.1; slots_true = c.requires.slots_true }

pub overflow_cast-result : goal.overflow_cast-result
overflow_cast-result c = omega (arith, c.slot_for-k.ensures)

pub overflow_cast-result-2 : goal.overflow_cast-result-2
overflow_cast-result-2 c =
    let f = c.args.f.now in
    let s = c.args.s.now in
    let v = c.args.v in
    let r = subst (λ (h : Home). RecordAt f s h v.number c.record_in-c.result) c.home_of-h.ensures c.record_in-c.ensures.record_at in
    omega (arith, visits.place_small f s v c.record_in-c.result r c.requires.visit_there.0 c.requires.visit_there.1 (omega (arith, c.type_inv.f 5)) (omega (arith, c.type_inv.f 6)))

pub returns : goal.returns
returns c =
    let f = c.args.f.now in
    let s = c.args.s.now in
    let v = c.args.v in
    record {
      placed_is = (
        refl,
        subst (λ (h : Home). RecordAt f s h v.number c.record_in-c.result) c.home_of-h.ensures c.record_in-c.ensures.record_at,
        c.slot_for-k.ensures,
      );
      slots_true_2 = c.record_in-c.ensures.slots_true_2;
    }
