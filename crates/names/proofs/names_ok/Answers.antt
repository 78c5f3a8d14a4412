-- `names::names_ok` meets its contract: the loop goes on while every class passed is right. Assumes nothing.
use native.Mathlib.Omega.{arith}
use Prim.Native.Nat.{ℕ, ◌+◌, ◌-◌}
use mathlib.Core.Path.{◌≡◌, refl, sym, subst, ◌∙◌}
use Rattle.rules.specs.Bytes.{all}
use borrow.Author.Tests.{not-true, not-false}
use Rattle.files.specs.Say.{ClassThere, Classes}
use Rattle.files.proofs.Loops as loops
use Rattle.files.proofs.Walks as walks
use Rattle.files.proofs.Steps as steps
use Rattle.names.proofs.Rules as rules
use Rattle.names.specs.Say.{class_ok}
use Rattle.names.proofs.names_ok.Goals as goal
use Rattle.names.proofs.names_ok.Goals.{After-class_ok, After-classes_at-start, In-loop}

-- the list of classes
classes : (k : After-classes_at-start) → Classes k.args.f.now k.classes_at-start.result
classes k = walks.classes_there k.classes_at-start.ensures k.requires

-- the class at hand
here : (k : In-loop) → ClassThere k.args.f.now k.loop.c
here k = loops.classes_here k.loop.invariant.0 (omega arith) (classes (goal.at.In-loop k).After-classes_at-start)

pub classes_at-start-requires : goal.classes_at-start-requires
classes_at-start-requires c = c.requires

pub bounds-f-start : goal.bounds-f-start
bounds-f-start c = steps.classes_in_lem (classes (goal.at.bounds-f-start c).After-classes_at-start)

pub overflow_add-c : goal.overflow_add-c
overflow_add-c c = omega (arith, steps.classes_in_lem (classes (goal.at.overflow_add-c c).After-classes_at-start))

pub loop-init : goal.loop-init
loop-init c =
    let at = c.classes_at-start.result in
    let all_left : c.from-end.result - 0 ≡ c.from-end.result = omega arith in
    let start : loops.ClassLoop (all class_ok) (all class_ok) c.args.f.now at (c.from-end.result - 0) (at + 1) =
    loops.classes_start (all_left ∙ c.from-end.ensures) in
    (start, refl)

pub slice_bounds-class_ok-end : goal.slice_bounds-class_ok-end
slice_bounds-class_ok-end c = sym c.loop.invariant.1

pub class_ok-requires : goal.class_ok-requires
class_ok-requires c = (here (goal.at.class_ok-requires c).In-loop, omega (arith, c.loop.invariant.1))

pub returns-then-not-class_ok : goal.returns-then-not-class_ok
returns-then-not-class_ok c =
    rules.file_hit c.classes_at-start.ensures c.loop.invariant.0 (omega arith)
    (λ l ds x j p. sym (not-true c.class_ok.result c.if-not-class_ok.true-raw) ∙ c.class_ok.ensures l ds x j p)

pub after_class-c-requires : goal.after_class-c-requires
after_class-c-requires c =
    here (goal.at.after_class-c-requires c).In-loop

pub loop-preserved : goal.loop-preserved
loop-preserved c =
    let left = c.from-end.result - c.loop.counter in
    let rest : left - 1 ≡ c.from-end.result - (c.loop.counter + 1) = omega arith in (
      subst (λ (n : ℕ). loops.ClassLoop (all class_ok) (all class_ok) c.args.f.now c.classes_at-start.result n c.after_class-c.result) rest
          (loops.every_miss class_ok c.loop.invariant.0 (omega arith)
          (λ l ds x j p. sym (c.class_ok.ensures l ds x j p) ∙ not-false c.class_ok.result c.if-not-class_ok.false-raw) c.after_class-c.ensures),
      c.class_ok.auto.names ∙ c.loop.invariant.1,
    )

pub returns : goal.returns
returns c =
    rules.file_none c.classes_at-start.ensures c.loop.invariant.0 (omega arith)
