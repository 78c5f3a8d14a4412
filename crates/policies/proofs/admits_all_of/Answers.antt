-- `policies::admits_all_of` meets its contract: FF is answered first; the loop goes on while what the indexes passed mean is allowed. Assumes nothing.
use Prim.Native.Nat.{ℕ, ◌<◌}
use mathlib.Core.Path.{◌≡◌, sym, ◌∙◌, ap, subst}
use mathlib.Core.Bool.{Bool, true, false}
use mathlib.Core.List.{List}
use lib.ListN.{length, get_or}
use Rattle.std.specs.Option.{is_some}
use Rattle.policies.specs.Say.{slot_of, indexes_at, SlotIs, Admits}
use Rattle.policies.specs.Rows.{ListOver}
use Rattle.policies.proofs.Rules as rules
use Rattle.policies.proofs.Listed.{slot_tells}
use Rattle.policies.proofs.admits_all_of.Goals as goal
use Rattle.policies.proofs.admits_all_of.Goals.{After-listed_slot, After-slot, After-slot_aid-x, Else-wide-eq255, Else-wide-eq255-2, In-loop-i}

-- the second policy is not FF, nor is the first
listed : (k : Else-wide-eq255-2) → let a = k.args in ListOver a.t.now a.q.domains a.q.policy
listed k = (k.requires.policy_over_2, λ e. k.if-wide-eq255-2.false (k.wide-2.ensures.0 ∙ e))

first : (k : Else-wide-eq255) → let a = k.args in get_or a.s.now a.p.policy 0 ≡ 255 → ⊥
first k e = k.if-wide-eq255.false (k.wide.ensures.0 ∙ e)

-- the index at hand is one of those of the policy
within : (k : In-loop-i) → let a = k.args in k.loop-i.i-index < length (indexes_at a.t.now a.q.policy)
within k = rw (← k.indexes_of-i-items.ensures) k.loop-i-test.true

-- its slot
index_slot : (k : After-slot) → let a = k.args in k.slot.result ≡ slot_of (get_or (indexes_at a.t.now a.q.policy) k.loop-i.i-index 0)
index_slot k =
    k.slot.ensures ∙ ap slot_of (k.wide-in-loop-i.ensures.0 ∙ ap (λ (xs : List ℕ). get_or xs k.loop-i.i-index 0) k.indexes_of-i-items.ensures)

-- what it stands for
stands : (k : After-slot_aid-x) → let a = k.args in
    SlotIs a.t.now a.q.domains a.other.now (slot_of (get_or (indexes_at a.t.now a.q.policy) k.loop-i.i-index 0)) k.slot_aid-x.result.now
stands k =
    let a = k.args in
    subst (λ (n : ℕ). SlotIs a.t.now a.q.domains a.other.now n k.slot_aid-x.result.now) (index_slot (goal.at.After-slot_aid-x k).After-slot) k.slot_aid-x.ensures

pub bounds-s-p : goal.bounds-s-p
bounds-s-p c = rules.over_in c.requires.policy_over

pub returns-then-wide-eq255 : goal.returns-then-wide-eq255
returns-then-wide-eq255 c = rules.all_every c.args.own.now c.args.other.now (sym c.wide.ensures.0 ∙ c.if-wide-eq255.true)

pub bounds-t-q : goal.bounds-t-q
bounds-t-q c = rules.over_in c.requires.policy_over_2

pub returns-then-wide-eq255-2 : goal.returns-then-wide-eq255-2
returns-then-wide-eq255-2 c =
    rules.all_within c.args.own.now c.args.other.now (first (goal.at.returns-then-wide-eq255-2 c).Else-wide-eq255) (sym c.wide-2.ensures.0 ∙ c.if-wide-eq255-2.true)

pub indexes_of-i-items-requires : goal.indexes_of-i-items-requires
indexes_of-i-items-requires c = rules.over_indexes c.requires.policy_over_2 (listed c).1

pub loop-i-init : goal.loop-i-init
loop-i-init c = rules.indexes_start c.args.own.now c.args.other.now c.args.q.policy

pub slot_aid-x-requires : goal.slot_aid-x-requires
slot_aid-x-requires c =
    rw (index_slot c) (rules.slot_there (listed (goal.at.slot_aid-x-requires c).Else-wide-eq255-2) (within (goal.at.slot_aid-x-requires c).In-loop-i))

pub listed_slot-requires : goal.listed_slot-requires
listed_slot-requires c = (c.requires.policy_over, first (goal.at.listed_slot-requires c).Else-wide-eq255)

-- whether that is allowed
answer : (k : After-listed_slot) (b : Bool) → is_some k.listed_slot.result ≡ b →
    let a = k.args in
    Admits a.s.now a.p.domains a.own.now a.p.policy k.slot_aid-x.result.now b
answer k b e =
    let a = k.args in
    subst (Admits a.s.now a.p.domains a.own.now a.p.policy k.slot_aid-x.result.now) e (slot_tells a.own.now k.slot_aid-x.result.now k.listed_slot.result k.listed_slot.ensures)

pub returns-then-is_none : goal.returns-then-is_none
returns-then-is_none c =
    rules.all_hit c.args.own.now c.args.other.now c.args.q.policy (listed (goal.at.returns-then-is_none c).Else-wide-eq255-2) c.loop-i.invariant
    (within (goal.at.returns-then-is_none c).In-loop-i) c.slot_aid-x.result.now (stands (goal.at.returns-then-is_none c).After-slot_aid-x)
    (first (goal.at.returns-then-is_none c).Else-wide-eq255)
    (answer (goal.at.returns-then-is_none c).After-listed_slot false c.if-is_none.ensures)

pub loop-i-preserved : goal.loop-i-preserved
loop-i-preserved c =
    rules.all_miss c.args.own.now c.args.other.now c.args.q.policy (listed (goal.at.loop-i-preserved c).Else-wide-eq255-2) c.loop-i.invariant
    (within (goal.at.loop-i-preserved c).In-loop-i) c.slot_aid-x.result.now (stands (goal.at.loop-i-preserved c).After-slot_aid-x)
    (answer (goal.at.loop-i-preserved c).After-listed_slot true c.if-is_none.ensures)

pub returns : goal.returns
returns c =
    rules.all_none c.args.own.now c.args.other.now c.args.q.policy (listed (goal.at.returns c).Else-wide-eq255-2) c.loop-i.invariant
    (first (goal.at.returns c).Else-wide-eq255) (rw (← c.indexes_of-i-items.ensures) c.loop-i-test.false)
