-- `slots::enter_imports` meets its contract: the loop keeps slots that are true, slot 0 being that of the own file. Assumes nothing.
use Prim.Native.Nat.{◌-◌, ◌≤◌, ◌<◌}
use native.Mathlib.Omega.{arith}
use mathlib.Core.Path.{◌≡◌, refl, sym, ◌∙◌, ap, subst}
use lib.ListN.{length}
use Rattle.homes.specs.Homes.{home_of}
use Rattle.slots.specs.Slots.{slots_length}
use Rattle.slots.proofs.Entered as entered
use Rattle.slots.proofs.enter_imports.Goals as goal
use Rattle.slots.proofs.enter_imports.Goals.{After-from-place, At-loop-p}

-- a number of an import, below 16
few : (k : After-from-place) → k.loop-p.p < 16
few k = k.loop-p-test.true

-- the table of slots keeps its length, which is enough
kept : (k : At-loop-p) → length k.loop-p.slots ≡ length k.args.slots.now
kept k =
    omega (arith, k.loop-p.invariant.0, k.take_slot.auto, k.clear.auto)

long-enough : (k : At-loop-p) → slots_length ≤ length k.loop-p.slots
long-enough k = omega (arith, kept k, k.requires.slots_length_in_bounds.0)

pub clear-requires : goal.clear-requires
clear-requires c = c.requires.slots_length_in_bounds.0

pub take_slot-requires : goal.take_slot-requires
take_slot-requires c =
    record { k_lt_slot_count = (omega arith, omega (arith, c.clear.auto, c.requires.slots_length_in_bounds.0)); small_home = rw c.own_home.ensures (record { from = omega arith; to = omega arith; before = c.requires.slots_length_in_bounds.1 }) }

pub loop-p-init : goal.loop-p-init
loop-p-init c =
    (refl, entered.entered_start _ _ _ _ _ _ c.clear.ensures c.own_home.ensures c.take_slot.ensures)

pub offset_bounds-places-p : goal.offset_bounds-places-p
offset_bounds-places-p c = omega (arith, c.loop-p-test.true)

pub bounds-places-p : goal.bounds-places-p
bounds-places-p c = omega (arith, c.loop-p-test.true)

pub shape_of-slots-then-place-eq0 : goal.shape_of-slots-then-place-eq0
shape_of-slots-then-place-eq0 c = kept (goal.at.shape_of-slots-then-place-eq0 c).At-loop-p

pub returns-then-place-eq0 : goal.returns-then-place-eq0
returns-then-place-eq0 c = λ f i. (c.loop-p.invariant.1 f i).0

pub overflow_mul-p : goal.overflow_mul-p
overflow_mul-p c = omega (arith, few (goal.at.overflow_mul-p c).After-from-place)

pub overflow_add-p : goal.overflow_add-p
overflow_add-p c = omega (arith, few (goal.at.overflow_add-p c).After-from-place)

pub home_at-requires : goal.home_at-requires
home_at-requires c =
    rw c.from-place.ensures (c.requires.places_len.1 (c.loop-p.p - 1) (λ e. c.if-place-eq0.false (c.from-place.ensures ∙ e)))

pub put_home-requires : goal.put_home-requires
put_home-requires c =
    let place = c.requires.places_len.1 (c.loop-p.p - 1) (λ e. c.if-place-eq0.false (c.from-place.ensures ∙ e)) in
    let small = entered.package_small c.args.s.now _ place c.requires.slots_length_in_bounds.2 in
    record { at_in_bounds = omega (arith, few (goal.at.put_home-requires c).After-from-place, long-enough (goal.at.put_home-requires c).At-loop-p); small_home = rw (c.home_at.ensures, c.from-place.ensures) small }

pub loop-p-preserved : goal.loop-p-preserved
loop-p-preserved c =
    let next = entered.entered_more _ _ _ c.loop-p.slots c.loop-p.p _ (λ e. omega (arith, e, c.loop-p.auto.p)) (few (goal.at.loop-p-preserved c).After-from-place)
    (λ e. c.if-place-eq0.false (c.from-place.ensures ∙ e)) (c.home_at.ensures ∙ ap (home_of c.args.s.now) c.from-place.ensures) c.loop-p.invariant.1 in (
      omega (arith, c.put_home.auto, c.loop-p.invariant.0),
      subst (entered.Entered c.args.s.now c.args.end c.args.places.now) (sym c.put_home.ensures) next,
    )

pub shape_of-slots : goal.shape_of-slots
shape_of-slots c = kept (goal.at.shape_of-slots c).At-loop-p

pub returns : goal.returns
returns c = λ f i. (c.loop-p.invariant.1 f i).0
