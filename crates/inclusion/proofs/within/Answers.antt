-- `inclusion::within` meets its contract: the loop goes on while the numbers of the slots passed are bits of the mask. Assumes nothing.
use Prim.Native.Nat.{ℕ, ◌<◌}
use native.Mathlib.Omega.{arith}
use mathlib.Core.Path.{◌≡◌, refl, sym, ◌∙◌, ap}
use mathlib.Core.List.{List}
use lib.ListN.{length, get_or}
use Rattle.policies.specs.Say.{slot_of, indexes_at}
use Rattle.policies.proofs.Rules.{over_indexes, slot_there}
use Rattle.inclusion.proofs.Passing as passing
use Rattle.inclusion.proofs.within.Goals as goal
use Rattle.inclusion.proofs.within.Goals.{After-slot, In-loop-i}

-- the index at hand is one of those of the policy
inside : (k : In-loop-i) → let a = k.args in k.loop-i.i-index < length (indexes_at a.g.now a.q.policy)
inside k = rw (← k.indexes_of-i-items.ensures) k.loop-i-test.true

-- its slot
slot_is : (k : After-slot) → let a = k.args in k.slot.result ≡ slot_of (get_or (indexes_at a.g.now a.q.policy) k.loop-i.i-index 0)
slot_is k =
    k.slot.ensures ∙ ap slot_of (k.wide.ensures.0 ∙ ap (λ (xs : List ℕ). get_or xs k.loop-i.i-index 0) k.indexes_of-i-items.ensures)

pub indexes_of-i-items-requires : goal.indexes_of-i-items-requires
indexes_of-i-items-requires c = over_indexes c.requires.list_over.0 c.requires.list_over.1

pub loop-i-init : goal.loop-i-init
loop-i-init c = let a = c.args in (refl, passing.within_start a.f.now a.domain.now a.m a.g.now a.other.now a.q a.row.now)

pub number_at-n-requires : goal.number_at-n-requires
number_at-n-requires c = record {
  domains_there = c.requires.domains_there;
  has_slot = rw (slot_is (goal.at.number_at-n-requires c).After-slot) (slot_there c.requires.list_over (inside (goal.at.number_at-n-requires c).In-loop-i));
  has_places = omega (arith, c.loop-i.invariant.0, c.requires.row_len);
}

pub shape_of-row-then-not-has_bit : goal.shape_of-row-then-not-has_bit
shape_of-row-then-not-has_bit c = omega (arith, c.number_at-n.auto, c.loop-i.invariant.0)

pub returns-then-not-has_bit : goal.returns-then-not-has_bit
returns-then-not-has_bit c =
    let a = c.args in
    let q = rw (slot_is (goal.at.returns-then-not-has_bit c).After-slot) at c.number_at-n.ensures.number_kept in
    passing.within_fails a.f.now a.domain.now a.m a.g.now a.other.now a.q a.row.now c.loop-i.row c.loop-i.i-index c.loop-i.invariant.1 _
    c.number_at-n.result (inside (goal.at.returns-then-not-has_bit c).In-loop-i) q (sym c.has_bit.ensures ∙ c.if-not-has_bit.true)

pub loop-i-preserved : goal.loop-i-preserved
loop-i-preserved c =
    let a = c.args in
    let q = rw (slot_is (goal.at.loop-i-preserved c).After-slot) at c.number_at-n.ensures.number_kept in (
      omega (arith, c.number_at-n.auto, c.loop-i.invariant.0),
      passing.within_more a.f.now a.domain.now a.m a.g.now a.other.now a.q a.row.now c.loop-i.row c.loop-i.i-index c.loop-i.invariant.1 _
          c.number_at-n.result (inside (goal.at.loop-i-preserved c).In-loop-i) q (sym c.has_bit.ensures ∙ c.if-not-has_bit.false),
    )

pub shape_of-row : goal.shape_of-row
shape_of-row c = c.loop-i.invariant.0

pub returns : goal.returns
returns c =
    let a = c.args in
    passing.within_done a.f.now a.domain.now a.m a.g.now a.other.now a.q a.row.now c.loop-i.row c.loop-i.i-index c.loop-i.invariant.1
    (rw (← c.indexes_of-i-items.ensures) c.loop-i-test.false)
