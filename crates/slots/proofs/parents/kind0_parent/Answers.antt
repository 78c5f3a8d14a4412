-- `slots::parents::kind0_parent` meets its contract: the loop goes on while no parent passed is of kind 0. Assumes nothing.
use native.Mathlib.Omega.{arith}
use mathlib.Core.Path.{subst}
use Rattle.classes.specs.Say.{Kind0Is}
use Rattle.classes.proofs.Parents as parents
use Rattle.slots.proofs.parents.kind0_parent.Goals as goal

pub parent_count-count-requires : goal.parent_count-count-requires
parent_count-count-requires c = record { class_there = c.requires.class_there; slots_true = c.requires.slots_true }

pub loop-i-init : goal.loop-i-init
loop-i-init c = (parents.kind0_start _ _ _ _, c.parent_count-count.ensures.slots_true_2, omega arith)

pub parent_at-p-requires : goal.parent_at-p-requires
parent_at-p-requires c =
    let there = parents.parent_there _ _ _ _ _ _ c.parent_count-count.ensures.count_is.0 c.loop-i.invariant.0 c.requires.class_there.0 c.loop-i-test.true in
    record { parent_there = (there, c.requires.class_there.1); indexed = c.requires.indexed; slots_true = c.loop-i.invariant.1 }

pub is_kind0-requires : goal.is_kind0-requires
is_kind0-requires c =
    record { class_there = (parents.named_there _ _ _ _ _ _ c.parent_count-count.ensures.count_is.0 c.loop-i.invariant.0 c.loop-i-test.true _ c.parent_at-p.ensures.parent_is c.requires.class_there.0, c.requires.class_there.1); slots_true = c.parent_at-p.ensures.slots_true_2 }

pub shape_of-slots-then-is_kind0 : goal.shape_of-slots-then-is_kind0
shape_of-slots-then-is_kind0 c =
    omega (arith, c.loop-i.invariant.2)

pub returns-then-is_kind0 : goal.returns-then-is_kind0
returns-then-is_kind0 c =
    let kind = subst (Kind0Is c.args.f.now c.args.s.now c.parent_at-p.result.home c.parent_at-p.result.number) c.if-is_kind0.true c.is_kind0.ensures.kind0is in record {
      kind0parent_is = (
        parents.kind0_hit _ _ _ _ _ _ c.parent_count-count.ensures.count_is.0 c.loop-i.invariant.0 c.loop-i-test.true _ c.parent_at-p.ensures.parent_is kind,
        parents.kind0_nearer _ _ _ _ _ _ c.parent_count-count.ensures.count_is.0 c.loop-i.invariant.0 c.loop-i-test.true _ c.parent_at-p.ensures.parent_is c.requires.class_there.0,
        parents.kind0_before _ _ _ _ _ _ c.parent_count-count.ensures.count_is.0 c.loop-i.invariant.0 c.loop-i-test.true _ c.parent_at-p.ensures.parent_is c.requires.class_there.0,
      );
      slots_true_2 = c.is_kind0.ensures.slots_true_2;
    }

pub loop-i-preserved : goal.loop-i-preserved
loop-i-preserved c =
    let a = c.args in
    let kind = subst (Kind0Is a.f.now a.s.now c.parent_at-p.result.home c.parent_at-p.result.number) c.if-is_kind0.false c.is_kind0.ensures.kind0is in
    let left = parents.kind0_miss _ _ _ _ _ _ c.parent_count-count.ensures.count_is.0 c.loop-i.invariant.0 c.loop-i-test.true _ c.parent_at-p.ensures.parent_is kind in
    (left, c.is_kind0.ensures.slots_true_2, omega (arith, c.loop-i.invariant.2))

pub shape_of-slots : goal.shape_of-slots
shape_of-slots c = omega (arith, c.loop-i.invariant.2)

pub returns : goal.returns
returns c =
    record { kind0parent_is = (parents.kind0_none _ _ _ _ _ _ c.parent_count-count.ensures.count_is.0 c.loop-i.invariant.0 c.loop-i-test.false, tt {0}, tt {0}); slots_true_2 = c.loop-i.invariant.1 }
