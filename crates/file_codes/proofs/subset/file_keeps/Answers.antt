-- `file_codes::subset::file_keeps` meets its contract: the loop goes on while every class passed keeps to the subset. Assumes nothing.
use native.Mathlib.Omega.{arith}
use Prim.Native.Nat.{◌+◌, ◌-◌}
use mathlib.Core.Path.{◌≡◌, sym, ◌∙◌}
use Rattle.files.specs.Say.{ClassThere, Classes}
use Rattle.files.proofs.Loops as loops
use Rattle.files.proofs.Walks as walks
use Rattle.files.proofs.Steps as steps
use Rattle.file_codes.proofs.Keeping.{class_keeps, file_no, file_yes}
use Rattle.file_codes.proofs.subset.file_keeps.Goals as goal
use Rattle.file_codes.proofs.subset.file_keeps.Goals.{After-classes_at-start, In-loop}

-- the list of classes
classes : (k : After-classes_at-start) → Classes k.args.f.now k.classes_at-start.result
classes k = walks.classes_there k.classes_at-start.ensures k.requires.0

-- the class at hand
here : (k : In-loop) → ClassThere k.args.f.now k.loop.c
here k = loops.classes_here k.loop.invariant (omega arith) (classes (goal.at.In-loop k).After-classes_at-start)

pub bounds-f-start : goal.bounds-f-start
bounds-f-start c = steps.classes_in_lem (classes (goal.at.bounds-f-start c).After-classes_at-start)

pub overflow_add-c : goal.overflow_add-c
overflow_add-c c = omega (arith, steps.classes_in_lem (classes (goal.at.overflow_add-c c).After-classes_at-start))

pub loop-init : goal.loop-init
loop-init c = loops.classes_start (omega (arith, c.wide-end.ensures.0))

pub class_keeps-requires : goal.class_keeps-requires
class_keeps-requires c = (here c, c.requires.1)

pub returns-then-not-class_keeps : goal.returns-then-not-class_keeps
returns-then-not-class_keeps c =
    file_no c.classes_at-start.ensures c.loop.invariant (omega arith)
    (λ l ds x j p. sym (c.if-not-class_keeps.true) ∙ c.class_keeps.ensures l ds x j p)

pub after_class-c-requires : goal.after_class-c-requires
after_class-c-requires c = here (goal.at.after_class-c-requires c).In-loop

pub loop-preserved : goal.loop-preserved
loop-preserved c =
    let less : c.wide-end.result - c.loop.counter - 1 ≡ c.wide-end.result - (c.loop.counter + 1) = omega arith in
    rw less at (loops.every_miss class_keeps c.loop.invariant (omega arith)
    (λ l ds k j p. sym (c.class_keeps.ensures l ds k j p) ∙ c.if-not-class_keeps.false) c.after_class-c.ensures)

pub returns : goal.returns
returns c = file_yes c.classes_at-start.ensures c.loop.invariant (omega arith)
