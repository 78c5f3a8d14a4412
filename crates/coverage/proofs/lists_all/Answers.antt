-- `coverage::lists_all` meets its contract: each index passed is FE, or of a domain that the policy called lists. Assumes nothing.
use Prim.Native.Nat.{ℕ, ◌<◌}
use native.Mathlib.Omega.{arith}
use mathlib.Core.Path.{◌≡◌, refl, sym, ◌∙◌, ap, subst}
use mathlib.Core.List.{List}
use lib.ListN.{length, get_or}
use Rattle.policies.specs.Say.{slot_of, indexes_at, HasSlot}
use Rattle.policies.proofs.Rules.{over_indexes, slot_there}
use Rattle.coverage.proofs.AllListed as listed
use Rattle.coverage.proofs.lists_all.Goals as goal
use Rattle.coverage.proofs.lists_all.Goals.{After-slot-i, then-i-lt32+else-not-lists_wanted, else-i-lt32}

-- the index at hand is one of those of the policy, and its slot
index : (k : After-slot-i) →
    let a = k.args in
    (k.slot-i.result ≡ slot_of (get_or (indexes_at a.f.now a.p.caller) k.loop-k.k-index 0)) × HasSlot a.f.now a.l.own k.slot-i.result ×
    (k.loop-k.k-index < length (indexes_at a.f.now a.p.caller))
index k =
    let a = k.args in
    let within : k.loop-k.k-index < length (indexes_at a.f.now a.p.caller) = rw (← k.indexes_of-k-items.ensures) k.loop-k-test.true in
    let e : k.slot-i.result ≡ slot_of (get_or (indexes_at a.f.now a.p.caller) k.loop-k.k-index 0) =
    k.slot-i.ensures ∙ ap slot_of (k.wide.ensures.0 ∙ ap (λ (xs : List ℕ). get_or xs k.loop-k.k-index 0) k.indexes_of-k-items.ensures) in
    (e, subst (HasSlot a.f.now a.l.own) (sym e) (slot_there k.requires.list_over.0 within), within)

pub indexes_of-k-items-requires : goal.indexes_of-k-items-requires
indexes_of-k-items-requires c = over_indexes c.requires.list_over.0.0 c.requires.list_over.0.1

pub loop-k-init : goal.loop-k-init
loop-k-init c = let a = c.args in (refl, listed.all_start a.f.now a.domain.now a.g.now a.other.now a.l a.p a.map.now)

pub number_at-n-requires : goal.number_at-n-requires
number_at-n-requires c = record {
  domains_there = (c.requires.list_over.0.0.0, c.requires.list_over.0.0.1, c.requires.list_over.0.0.2);
  has_slot = (index (goal.at.number_at-n-requires c).After-slot-i).1;
  has_places = omega (arith, c.loop-k.invariant.0, c.requires.has_places.1);
}

pub lists_wanted-requires : goal.lists_wanted-requires
lists_wanted-requires c = record {
  has_slot = ((index (goal.at.lists_wanted-requires c).After-slot-i).1, c.if-i-lt32.true, c.requires.list_over.1);
  has_places = (omega (arith, c.number_at-n.auto, c.loop-k.invariant.0, c.requires.has_places.0), c.number_at-n.ensures.upper_bound);
}

pub shape_of-map-then-not-lists_wanted : goal.shape_of-map-then-not-lists_wanted
shape_of-map-then-not-lists_wanted c = omega (arith, c.lists_wanted.auto, c.number_at-n.auto, c.loop-k.invariant.0)

pub returns-then-not-lists_wanted : goal.returns-then-not-lists_wanted
returns-then-not-lists_wanted c =
    let i = index (goal.at.returns-then-not-lists_wanted c).After-slot-i in
    let a = c.args in
    listed.all_not a.f.now a.domain.now a.g.now a.other.now a.l a.p a.map.now c.loop-k.map c.loop-k.bits c.loop-k.k-index c.loop-k.invariant.1
    c.slot-i.result i.0 i.1 i.2 c.number_at-n.result c.if-i-lt32.true c.number_at-n.ensures.number_kept c.lists_wanted.ensures
    (c.if-not-lists_wanted.true) c.requires.list_over.1.1 c.requires.list_over.0.1

pub shape_of-map : goal.shape_of-map
shape_of-map c = c.loop-k.invariant.0

pub loop-k-preserved : goal.loop-k-preserved
loop-k-preserved c =
    let i = index (goal.at.loop-k-preserved c).After-slot-i in
    let a = c.args in (
      c.if-i-lt32.auto.map ∙ c.loop-k.invariant.0,
      elim c.if-i-lt32.branch [
        | then-i-lt32+else-not-lists_wanted w ↦
            rw (w.map-is, w.bits-is, w.with_bit-bits.ensures)
            (listed.all_more a.f.now a.domain.now a.g.now a.other.now a.l a.p a.map.now c.loop-k.map c.loop-k.bits c.loop-k.k-index c.loop-k.invariant.1
            c.slot-i.result i.0 i.1 i.2 w.number_at-n.result w.if-i-lt32.true w.number_at-n.ensures.number_kept w.lists_wanted.ensures
            w.if-not-lists_wanted.false)
        | else-i-lt32 w ↦
            rw (w.map-is, w.bits-is)
            (listed.all_own a.f.now a.domain.now a.g.now a.other.now a.l a.p a.map.now c.loop-k.map c.loop-k.bits c.loop-k.k-index c.loop-k.invariant.1
            c.slot-i.result i.0 i.1 i.2 w.if-i-lt32.false)
      ],
    )

pub returns : goal.returns
returns c =
    let a = c.args in
    listed.all_done a.f.now a.domain.now a.g.now a.other.now a.l a.p a.map.now c.loop-k.map c.loop-k.bits c.loop-k.k-index c.loop-k.invariant.1
    (rw (← c.indexes_of-k-items.ensures) c.loop-k-test.false) c.requires.list_over.1.1 c.requires.list_over.0.1
