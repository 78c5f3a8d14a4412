-- `running::class_passes` and `running::parents_pass` meet their contracts: what is seen passes, and each parent that passed is seen.
-- Assumes nothing.
use native.Mathlib.Omega.{arith}
use mathlib.Core.Path.{sym, ◌∙◌, ap}
use Rattle.bits.specs.Bits.{bit_at}
use Rattle.running.specs.Walk.{visit_home}
use Rattle.running.proofs.Walk as walk
use Rattle.running.proofs.Steps as steps
use Rattle.running.proofs.+class_passes_parents_pass.Goals as goal

pub class_passes-get-requires : goal.class_passes-get-requires
class_passes-get-requires t c =
    let f = c.args.f.now in
    let s = c.args.s.now in
    let v = c.args.v in
    let inside = walk.key_inside f s v.end v.domain v.own (visit_home v) v.number c.requires.walk_from.there _ c.requires.seen_pass.room in
    omega (arith, inside, c.bit_of.ensures)

pub class_passes-returns-then-get-clause-class_passes :
    goal.class_passes-returns-then-get-clause-class_passes
class_passes-returns-then-get-clause-class_passes t c =
    let f = c.args.f.now in
    let s = c.args.s.now in
    let v = c.args.v in
    let seen = c.args.seen.now in
    let bit = ap (bit_at seen) (sym c.bit_of.ensures) ∙ sym c.get.ensures ∙ c.if-get.true in
    walk.class_seen f s v.end v.domain v.own (visit_home v) v.number seen c.requires.seen_pass bit

pub class_passes-returns-then-not-methods_apart-clause-class_passes :
    goal.class_passes-returns-then-not-methods_apart-clause-class_passes
class_passes-returns-then-not-methods_apart-clause-class_passes t c =
    steps.methods_no c.args.f.now c.args.s.now c.args.v c.placed-w.result c.placed-w.ensures.placed_is c.if-not-methods_apart.ensures

pub class_passes-returns-clause-class_passes : goal.class_passes-returns-clause-class_passes
class_passes-returns-clause-class_passes t c =
    steps.methods_yes c.args.f.now c.args.s.now c.args.v c.placed-w.result c.placed-w.ensures.placed_is c.parents_pass.result
    c.if-not-methods_apart.ensures c.parents_pass.ensures.parents_pass

-- first of the parents, so that rt names it where one is passed over
pub parents_pass-loop-i-preserved : goal.parents_pass-loop-i-preserved
parents_pass-loop-i-preserved t c =
    let f = c.args.f.now in
    let s = c.args.s.now in
    let v = c.args.v in
    let n = c.parents_in-count in
    let i = c.loop-i.i in
    let z = c.loop-i-test.true in
    let w = c.parent_apart-p.result in
    let p = c.parent_apart-p.ensures.parent_visit in
    let passes = c.if-not-class_passes.ensures.class_passes in
    let more = steps.parent_yes f s v n.result i n.ensures.0 z w p passes c.loop-i.invariant.0 in
    let set = steps.seen_more f s v n.result i n.ensures.0 z w p c.args.index.now c.args.names.now c.requires.walk_from.0 passes _ _
    c.class_passes.ensures.seen_pass_2 (omega arith) _ c.bit_of.ensures c.set.ensures in
    let seen = steps.seen_parent f s v n.result i n.ensures.0 z w p _ set in
    (more, seen, c.class_passes.ensures.slots_true_2, omega (arith, c.loop-i.invariant.3))

pub parents_pass-parent_apart-p-requires-clause-parent_placed :
    goal.parents_pass-parent_apart-p-requires-clause-parent_placed
parents_pass-parent_apart-p-requires-clause-parent_placed t c =
    let n = c.parents_in-count in (
      steps.parent_placed c.args.f.now c.args.s.now c.args.v n.result c.loop-i.i n.ensures.0 c.loop-i-test.true c.requires.walk_from.1,
      c.requires.walk_from.0.small,
    )

pub parents_pass-class_passes-requires : goal.parents_pass-class_passes-requires
parents_pass-class_passes-requires t c =
    let f = c.args.f.now in
    let s = c.args.s.now in
    let v = c.args.v in
    let n = c.parents_in-count in
    let i = c.loop-i.i in
    let z = c.loop-i-test.true in
    let w = c.parent_apart-p.result in
    let p = c.parent_apart-p.ensures.parent_visit in
    let index = c.args.index.now in
    let names = c.args.names.now in
    let less = steps.parent_less f s v n.result i n.ensures.0 z w p index names c.requires.walk_from.0 in
    let from = steps.parent_from f s v n.result i n.ensures.0 z w p index names c.requires.walk_from.0 in
    let seen = steps.parent_seen f s v n.result i n.ensures.0 z w p _ c.loop-i.invariant.1 in
    (omega (arith, c.decreases, less), (from, (seen, c.parent_apart-p.ensures.slots_true_2)))

pub parents_pass-returns-then-not-class_passes-clause-parents_pass :
    goal.parents_pass-returns-then-not-class_passes-clause-parents_pass
parents_pass-returns-then-not-class_passes-clause-parents_pass t c =
    let n = c.parents_in-count in
    steps.parent_no c.args.f.now c.args.s.now c.args.v n.result c.loop-i.i n.ensures.0 c.loop-i-test.true c.parent_apart-p.result
    c.parent_apart-p.ensures.parent_visit c.if-not-class_passes.ensures.class_passes

pub parents_pass-set-requires : goal.parents_pass-set-requires
parents_pass-set-requires t c =
    let n = c.parents_in-count in
    let inside = steps.bit_inside c.args.f.now c.args.s.now c.args.v n.result c.loop-i.i n.ensures.0 c.loop-i-test.true c.parent_apart-p.result
    c.parent_apart-p.ensures.parent_visit c.args.index.now c.args.names.now c.requires.walk_from.0 _ c.class_passes.ensures.seen_pass_2 in
    omega (arith, inside, c.bit_of.ensures)

pub parents_pass-returns-clause-parents_pass : goal.parents_pass-returns-clause-parents_pass
parents_pass-returns-clause-parents_pass t c =
    let f = c.args.f.now in
    let s = c.args.s.now in
    let v = c.args.v in
    let n = c.parents_in-count in
    walk.first_all f s v.end v.domain v.own (visit_home v) v.number n.result c.loop-i.i n.ensures.0 c.loop-i-test.false c.loop-i.invariant.0
