-- `inclusion::order::index_bits` meets its contract: the indexes passed are bits. Assumes nothing.
use Prim.Native.Nat.{ℕ, ◌%◌}
use native.Mathlib.Omega.{arith}
use mathlib.Core.Path.{◌≡◌, ◌∙◌, ap}
use mathlib.Core.List.{List}
use lib.ListN.{get_or}
use Rattle.policies.specs.Say.{indexes_at}
use Rattle.policies.proofs.Masks.{bit_of_lem}
use Rattle.policies.proofs.Gathered as gathered
use Rattle.inclusion.specs.Order.{slot_as}
use Rattle.inclusion.proofs.order.index_bits.Invariants.{bit}
use Rattle.inclusion.proofs.order.index_bits.Goals as goal

pub loop-i-init : goal.loop-i-init
loop-i-init c = gathered.gathered_start (bit c.args.own) (indexes_at c.args.s.now c.args.at)

pub loop-i-preserved : goal.loop-i-preserved
loop-i-preserved c =
    let a = c.args in
    let xs = indexes_at a.s.now a.at in
    let here = c.wide.ensures.0 ∙ ap (λ (ys : List ℕ). get_or ys c.loop-i.i-index 0) c.indexes_of-i-items.ensures in
    let e : c.slot_as.result % 64 ≡ bit a.own (get_or xs c.loop-i.i-index 0) = ap (λ (k : ℕ). k % 64) (c.slot_as.ensures ∙ ap (slot_as a.own) here) in
    let m = c.with_bit-m.ensures ∙ bit_of_lem c.loop-i.m c.slot_as.result in
    rw m (gathered.gathered_more (bit a.own) xs c.loop-i.i-index c.loop-i.m c.loop-i.invariant (c.slot_as.result % 64) (omega arith) e
    (rw (← c.indexes_of-i-items.ensures) c.loop-i-test.true))

pub returns : goal.returns
returns c =
    gathered.gathered_done (bit c.args.own) (indexes_at c.args.s.now c.args.at) c.loop-i.i-index c.loop-i.m c.loop-i.invariant
    (rw (← c.indexes_of-i-items.ensures) c.loop-i-test.false)
