-- `slots::import_in` meets its contract: what the slot knows is true, and what it does not know is found and written. Assumes nothing.
use Rattle.std.specs.Prelude.{Some}
use Prim.Native.Nat.{◌<◌, ◌≤◌}
use native.Mathlib.Omega.{arith}
use mathlib.Core.Path.{◌≡◌, sym, subst}
use Rattle.homes.specs.Homes.{NumberedIs}
use Rattle.homes.proofs.Lookups.{numbered_zero}
use Rattle.slots.specs.Slots.{SlotsTrue}
use Rattle.slots.proofs.Asked as laws
use Rattle.slots.proofs.import_in.Goals as goal
use Rattle.slots.proofs.import_in.Goals.{After-take_slot, In_ok-g}

-- the slot's number is below 8, and the import's is from 1 to 15
few : (k : After-take_slot) →
    let a = k.args in
    (a.x.slot < 8) × (a.p ≡ 0 → ⊥) × (a.p ≤ 15)
few k = (k.requires.home_there.1, k.if-p-eq0.false, omega (arith, k.if-p-gt15.false))

-- the slots are true where the slot is taken
slots-true : (k : After-take_slot) → SlotsTrue k.args.f.now k.args.s.now k.take_slot.new.slots
slots-true k = k.take_slot.ensures.true _ _ k.requires.slots_true

-- the home found is the import's
numbered : (k : In_ok-g) →
    let a = k.args in
    NumberedIs a.f.now a.s.now a.x.home a.p (Some k.in_ok-g.g)
numbered k = k.in_ok-g.ensures

pub returns-then-p-eq0 : goal.returns-then-p-eq0
returns-then-p-eq0 c = record { numbered_is = numbered_zero _ _ _ c.args.p c.if-p-eq0.true; slots_true_2 = c.requires.slots_true }

pub numbered-requires : goal.numbered-requires
numbered-requires c = record { home_there = c.requires.home_there.0; indexed = c.requires.indexed }

pub returns-then-p-gt15 : goal.returns-then-p-gt15
returns-then-p-gt15 c = record { numbered_is = c.numbered.ensures; slots_true_2 = c.requires.slots_true }

pub take_slot-requires : goal.take_slot-requires
take_slot-requires c = record { k_lt_slot_count = (c.requires.home_there.1, c.requires.slots_true.size); small_home = c.requires.small_home.0 }

pub overflow_mul-at : goal.overflow_mul-at
overflow_mul-at c = omega (arith, (few (goal.at.overflow_mul-at c).After-take_slot).0, (few (goal.at.overflow_mul-at c).After-take_slot).2)

pub overflow_add-at : goal.overflow_add-at
overflow_add-at c = omega (arith, (few (goal.at.overflow_add-at c).After-take_slot).0, (few (goal.at.overflow_add-at c).After-take_slot).2)

pub overflow_mul-at-2 : goal.overflow_mul-at-2
overflow_mul-at-2 c = omega (arith, (few (goal.at.overflow_mul-at-2 c).After-take_slot).0, (few (goal.at.overflow_mul-at-2 c).After-take_slot).2)

pub overflow_add-at-2 : goal.overflow_add-at-2
overflow_add-at-2 c = omega (arith, (few (goal.at.overflow_add-at-2 c).After-take_slot).0, (few (goal.at.overflow_add-at-2 c).After-take_slot).2)

pub home_in-kept-requires : goal.home_in-kept-requires
home_in-kept-requires c =
    let size = (slots-true (goal.at.home_in-kept-requires c).After-take_slot).size in
    omega (arith, (few (goal.at.home_in-kept-requires c).After-take_slot).0, (few (goal.at.home_in-kept-requires c).After-take_slot).2, size)

pub returns-then-kept-ne0 : goal.returns-then-kept-ne0
returns-then-kept-ne0 c =
    let n = few (goal.at.returns-then-kept-ne0 c).After-take_slot in
    let p = c.args.p in record { numbered_is = laws.import_told _ _ _ _ _ (slots-true (goal.at.returns-then-kept-ne0 c).After-take_slot) n.0 c.take_slot.ensures.home p n.1 n.2 _ c.home_in-kept.ensures c.if-kept-ne0.true; slots_true_2 = slots-true (goal.at.returns-then-kept-ne0 c).After-take_slot }

pub numbered-requires-2 : goal.numbered-requires-2
numbered-requires-2 c = record { home_there = c.requires.home_there.0; indexed = c.requires.indexed }

pub put_home-requires : goal.put_home-requires
put_home-requires c =
    let size = (slots-true (goal.at.put_home-requires c).After-take_slot).size in
    record { at_in_bounds = omega (arith, (few (goal.at.put_home-requires c).After-take_slot).0, (few (goal.at.put_home-requires c).After-take_slot).2, size); small_home = laws.import_small _ _ _ c.args.p (few (goal.at.put_home-requires c).After-take_slot).1 c.requires.home_there.0 c.requires.small_home.1 c.requires.small_home.0 _ (numbered (goal.at.put_home-requires c).In_ok-g) }

pub returns : goal.returns
returns c =
    let n = few (goal.at.returns c).After-take_slot in
    let a = c.args in record {
      numbered_is = numbered (goal.at.returns c).In_ok-g;
      slots_true_2 = subst (SlotsTrue a.f.now a.s.now) (sym c.put_home.ensures)
          (laws.import_put _ _ _ _ _ (slots-true (goal.at.returns c).After-take_slot) n.0 c.take_slot.ensures.home a.p n.1 n.2 _ (numbered (goal.at.returns c).In_ok-g));
    }

pub returns-in_err-g-clause-slots_true_2 : goal.returns-in_err-g-clause-slots_true_2
returns-in_err-g-clause-slots_true_2 c = slots-true (goal.at.returns-in_err-g-clause-slots_true_2 c).After-take_slot
