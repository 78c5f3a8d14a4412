-- `calls::walk::class_calls` meets its contract: the loop keeps the first no of the methods passed. Assumes nothing.
use native.Mathlib.Omega.{arith}
use Prim.Native.Nat.{◌+◌, ◌-◌}
use mathlib.Core.Path.{refl, subst, ap, ◌∙◌}
use Rattle.refusals.specs.Order.{call_told}
use Rattle.refusals.proofs.Said.{first_calls}
use Rattle.files.specs.Say.{Methods}
use Rattle.files.proofs.Steps as steps
use Rattle.homes.specs.Homes.{aid_at}
use Rattle.references.proofs.Filled.{told_stays, told_after, kept_same}
use Rattle.calls.specs.Calls.{Which, with_table, OwnMethod, MethodCallsAre}
use Rattle.calls.proofs.Known.{same_table}
use Rattle.calls.proofs.Rights.{asker_moved, told_at}
use Rattle.calls.proofs.Asked.{method_there, class_there}
use Rattle.calls.proofs.Walked as walked
use Rattle.calls.proofs.walk.class_calls.Goals as goal
use Rattle.calls.proofs.walk.class_calls.Goals.{After-methods_of-start, In-loop, Start}

-- the calls that are asked
abbrev which : Start → Which
which b = with_table b.args.a.group b.args.kept.now

-- the list of methods
methods : (k : After-methods_of-start) → Methods k.args.f.now k.methods_of-start.result
methods k = steps.methods_there k.methods_of-start.ensures (class_there k.requires.own_class.0)

-- the method at hand
method : (k : In-loop) →
    let a = k.args in
    OwnMethod a.f.now a.s.now a.a.group.end k.loop.c
method k = walked.methods_one (which (goal.at.In-loop k).Start) _ _ k.loop.invariant.4 (omega arith)

pub methods_of-start-requires : goal.methods_of-start-requires
methods_of-start-requires c = class_there c.requires.own_class.0

pub bounds-f-start : goal.bounds-f-start
bounds-f-start c = steps.methods_in_lem (methods (goal.at.bounds-f-start c).After-methods_of-start)

pub overflow_add-c : goal.overflow_add-c
overflow_add-c c = omega (arith, steps.methods_in_lem (methods (goal.at.overflow_add-c c).After-methods_of-start))

pub loop-init : goal.loop-init
loop-init c =
    (refl, refl, told_stays refl, c.requires.map_true, walked.methods_begin (which (goal.at.loop-init c).Start) c.requires.own_class.0 c.methods_of-start.ensures (omega (arith, c.wide-end.ensures.0)), tt)

pub method_calls-requires : goal.method_calls-requires
method_calls-requires c =
    rw c.asker_at.ensures record { own_method = (method (goal.at.method_calls-requires c).In-loop, asker_moved c.requires.own_class.1, c.requires.own_class.2); kept_true = kept_same _ _ _ c.loop.invariant.2 c.requires.kept_true; map_true = c.loop.invariant.3 }

pub after_method-c-requires : goal.after_method-c-requires
after_method-c-requires c = method_there (method (goal.at.after_method-c-requires c).In-loop)

pub loop-preserved : goal.loop-preserved
loop-preserved c =
    let a = c.args in
    let e = told_at a.a (λ g d i. MethodCallsAre a.f.now a.s.now g.end d (with_table g c.loop.kept) i (call_told c.method_calls.result)) c.asker_at.ensures
    (c.method_calls.ensures.method_calls_are, c.method_calls.ensures.map_true_2) in
    let d = aid_at a.s.now a.a.domain in
    let answer = subst (λ (z : Which). MethodCallsAre a.f.now a.s.now a.a.group.end d z c.loop.c (call_told c.method_calls.result))
    (same_table a.a.group c.loop.invariant.2) e.0 in
    let first = first_calls c.loop.number c.method_calls.result c.loop.invariant.5 c.method_calls.ensures.before in (
      omega (arith, c.method_calls.auto, c.loop.invariant.0),
      omega (arith, c.method_calls.auto, c.loop.invariant.1),
      told_after c.loop.invariant.2 c.method_calls.ensures.same_told,
      e.1,
      walked.methods_on (which (goal.at.loop-preserved c).Start) _ _ c.loop.invariant.4 _ (c.wide-end.result - (c.loop.counter + 1)) _ _ (omega arith) answer (ap call_told c.first_said-number.ensures ∙ first.0)
          c.after_method-c.ensures,
      rw c.first_said-number.ensures first.1,
    )

pub shape_of-kept : goal.shape_of-kept
shape_of-kept c = c.loop.invariant.0

pub shape_of-map : goal.shape_of-map
shape_of-map c = c.loop.invariant.1

pub returns : goal.returns
returns c =
    record { class_calls_are = walked.methods_end (which (goal.at.returns c).Start) _ _ c.loop.invariant.4 (omega arith) c.methods_of-start.ensures; before = c.loop.invariant.5; map_true_2 = c.loop.invariant.3; same_told = c.loop.invariant.2 }
