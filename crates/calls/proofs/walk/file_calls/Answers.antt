-- `calls::walk::file_calls` meets its contract: the loop keeps the first no of the classes passed. Assumes nothing.
use native.Mathlib.Omega.{arith}
use Prim.Native.Nat.{◌+◌, ◌-◌}
use mathlib.Core.Path.{refl, subst, ap, ◌∙◌}
use Rattle.refusals.specs.Order.{call_told}
use Rattle.refusals.proofs.Said.{first_calls}
use Rattle.files.specs.Say.{Classes}
use Rattle.files.proofs.Steps as steps
use Rattle.files.proofs.Walks.{classes_there}
use Rattle.homes.specs.Homes.{aid_at}
use Rattle.references.proofs.Filled.{told_stays, told_after, kept_same}
use Rattle.calls.specs.Calls.{Which, with_table, OwnClass, ClassCallsAre}
use Rattle.calls.proofs.Known.{same_table}
use Rattle.calls.proofs.Rights.{asker_moved, told_at}
use Rattle.calls.proofs.Asked.{class_there}
use Rattle.references.proofs.Lookups.{judged_reads}
use Rattle.calls.proofs.Walked as walked
use Rattle.calls.proofs.walk.file_calls.Goals as goal
use Rattle.calls.proofs.walk.file_calls.Goals.{After-classes_at-start, In-loop, Start}

-- the calls that are asked
abbrev which : Start → Which
which b = with_table b.args.a.group b.args.kept.now

-- the list of classes
classes : (k : After-classes_at-start) → Classes k.args.f.now k.classes_at-start.result
classes k = classes_there k.classes_at-start.ensures (judged_reads k.requires.judged.0)

-- the class at hand
class : (k : In-loop) →
    let a = k.args in
    OwnClass a.f.now a.s.now a.a.group.end k.loop.c
class k = walked.classes_one (which (goal.at.In-loop k).Start) _ _ k.loop.invariant.4 (omega arith)

pub classes_at-start-requires : goal.classes_at-start-requires
classes_at-start-requires c = judged_reads c.requires.judged.0

pub bounds-f-start : goal.bounds-f-start
bounds-f-start c = steps.classes_in_lem (classes (goal.at.bounds-f-start c).After-classes_at-start)

pub overflow_add-c : goal.overflow_add-c
overflow_add-c c = omega (arith, steps.classes_in_lem (classes (goal.at.overflow_add-c c).After-classes_at-start))

pub loop-init : goal.loop-init
loop-init c =
    (refl, refl, told_stays refl, c.requires.map_true, walked.classes_begin (which (goal.at.loop-init c).Start) c.requires.judged.0 c.requires.judged.1 c.classes_at-start.ensures (omega (arith, c.wide-end.ensures.0)), tt)

pub class_calls-requires : goal.class_calls-requires
class_calls-requires c =
    rw c.asker_at.ensures record { own_class = (class (goal.at.class_calls-requires c).In-loop, asker_moved c.requires.judged.2, c.requires.judged.3); kept_true = kept_same _ _ _ c.loop.invariant.2 c.requires.kept_true; map_true = c.loop.invariant.3 }

pub after_class-c-requires : goal.after_class-c-requires
after_class-c-requires c = class_there (class (goal.at.after_class-c-requires c).In-loop)

pub loop-preserved : goal.loop-preserved
loop-preserved c =
    let a = c.args in
    let e = told_at a.a (λ g d i. ClassCallsAre a.f.now a.s.now g.end d (with_table g c.loop.kept) i (call_told c.class_calls.result)) c.asker_at.ensures
    (c.class_calls.ensures.class_calls_are, c.class_calls.ensures.map_true_2) in
    let d = aid_at a.s.now a.a.domain in
    let answer = subst (λ (z : Which). ClassCallsAre a.f.now a.s.now a.a.group.end d z c.loop.c (call_told c.class_calls.result))
    (same_table a.a.group c.loop.invariant.2) e.0 in
    let first = first_calls c.loop.number c.class_calls.result c.loop.invariant.5 c.class_calls.ensures.before in (
      omega (arith, c.class_calls.auto, c.loop.invariant.0),
      omega (arith, c.class_calls.auto, c.loop.invariant.1),
      told_after c.loop.invariant.2 c.class_calls.ensures.same_told,
      e.1,
      walked.classes_on (which (goal.at.loop-preserved c).Start) _ _ c.loop.invariant.4 _ (c.wide-end.result - (c.loop.counter + 1)) _ _ (omega arith) answer (ap call_told c.first_said-number.ensures ∙ first.0)
          c.after_class-c.ensures,
      rw c.first_said-number.ensures first.1,
    )

pub shape_of-kept : goal.shape_of-kept
shape_of-kept c = c.loop.invariant.0

pub shape_of-map : goal.shape_of-map
shape_of-map c = c.loop.invariant.1

pub returns : goal.returns
returns c =
    record { file_calls_are = walked.classes_end (which (goal.at.returns c).Start) _ _ c.loop.invariant.4 (omega arith) c.classes_at-start.ensures; before = c.loop.invariant.5; same_told = c.loop.invariant.2 }
