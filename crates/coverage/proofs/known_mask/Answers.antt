-- `coverage::known_mask` meets its contract: the entries of the slots passed are bits. Assumes nothing.
use Prim.Native.Nat.{ℕ, ◌+◌, ◌%◌, ◌<◌}
use native.Mathlib.Omega.{arith}
use mathlib.Core.Path.{◌≡◌, sym, ◌∙◌, ap, subst}
use mathlib.Core.List.{List}
use lib.ListN.{length, get_or}
use Rattle.policies.specs.Say.{slot_of, indexes_at}
use Rattle.policies.proofs.Rules.{over_indexes, slot_there}
use Rattle.policies.proofs.Masks.{bit_of_lem}
use Rattle.policies.proofs.Gathered as gathered
use Rattle.policies.proofs.Kept as kept
use Rattle.coverage.specs.Covers.{entry_bit}
use Rattle.coverage.proofs.known_mask.Goals as goal
use Rattle.coverage.proofs.known_mask.Goals.{After-slot, In-loop-i, Start}

-- what is gathered
abbrev bits : Start → ℕ → ℕ
bits b k = entry_bit b.args.l b.args.row.now (slot_of k)

-- the index at hand is one of those of the policy
within : (k : In-loop-i) → let a = k.args in k.loop-i.i-index < length (indexes_at a.g.now a.at)
within k = rw (← k.indexes_of-i-items.ensures) k.loop-i-test.true

-- its slot
index_slot : (k : After-slot) → let a = k.args in k.slot.result ≡ slot_of (get_or (indexes_at a.g.now a.at) k.loop-i.i-index 0)
index_slot k =
    k.slot.ensures ∙ ap slot_of (k.wide.ensures.0 ∙ ap (λ (xs : List ℕ). get_or xs k.loop-i.i-index 0) k.indexes_of-i-items.ensures)

-- its entry
place : (k : After-slot) → let a = k.args in a.l.base + k.slot.result < length a.row.now
place k =
    let here = kept.has_place k.args.l k.args.row.now (slot_there k.requires.list_over (within (goal.at.After-slot k).In-loop-i)) k.requires.has_places in
    subst (λ (n : ℕ). k.args.l.base + n < length k.args.row.now) (sym (index_slot k)) here

pub indexes_of-i-items-requires : goal.indexes_of-i-items-requires
indexes_of-i-items-requires c = over_indexes c.requires.list_over.0 c.requires.list_over.1

pub loop-i-init : goal.loop-i-init
loop-i-init c = gathered.gathered_start (bits (goal.at.loop-i-init c).Start) (indexes_at c.args.g.now c.args.at)

pub overflow_add-l : goal.overflow_add-l
overflow_add-l c = omega (arith, place (goal.at.overflow_add-l c).After-slot)

pub bounds-row-l : goal.bounds-row-l
bounds-row-l c = place (goal.at.bounds-row-l c).After-slot

pub loop-i-preserved : goal.loop-i-preserved
loop-i-preserved c =
    let xs = indexes_at c.args.g.now c.args.at in
    let e : c.wide-in-loop-i.result % 64 ≡ bits (goal.at.loop-i-preserved c).Start (get_or xs c.loop-i.i-index 0) =
    ap (λ (x : ℕ). x % 64) c.wide-in-loop-i.ensures.0 ∙ ap (entry_bit c.args.l c.args.row.now) (index_slot (goal.at.loop-i-preserved c).After-slot) in
    let m = c.with_bit-m.ensures ∙ bit_of_lem c.loop-i.m c.wide-in-loop-i.result in
    rw m (gathered.gathered_more (bits (goal.at.loop-i-preserved c).Start) xs c.loop-i.i-index c.loop-i.m c.loop-i.invariant (c.wide-in-loop-i.result % 64)
    (omega arith) e (within (goal.at.loop-i-preserved c).In-loop-i))

pub returns : goal.returns
returns c =
    gathered.gathered_done (bits (goal.at.returns c).Start) (indexes_at c.args.g.now c.args.at) c.loop-i.i-index c.loop-i.m c.loop-i.invariant
    (rw (← c.indexes_of-i-items.ensures) c.loop-i-test.false)
