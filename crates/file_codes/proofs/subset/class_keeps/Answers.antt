-- `file_codes::subset::class_keeps` meets its contract: the loop goes on while every method passed keeps to the subset. Assumes nothing.
use native.Mathlib.Omega.{arith}
use Prim.Native.Nat.{◌+◌, ◌-◌}
use mathlib.Core.Path.{◌≡◌, sym, ◌∙◌}
use Rattle.files.specs.Say.{MethodThere, Methods}
use Rattle.files.proofs.Loops as loops
use Rattle.files.proofs.Steps.{methods_in_lem, methods_there}
use Rattle.file_codes.specs.Codes.{keeps}
use Rattle.file_codes.proofs.Keeping.{class_no, class_yes}
use Rattle.file_codes.proofs.subset.class_keeps.Goals as goal
use Rattle.file_codes.proofs.subset.class_keeps.Goals.{After-methods_of-start, In-loop}

-- the list of methods
methods : (k : After-methods_of-start) → Methods k.args.f.now k.methods_of-start.result
methods k = methods_there k.methods_of-start.ensures k.requires.0

-- the method at hand
here : (k : In-loop) → MethodThere k.args.f.now k.loop.c
here k = loops.methods_here k.loop.invariant (omega arith) (methods (goal.at.In-loop k).After-methods_of-start)

pub bounds-f-start : goal.bounds-f-start
bounds-f-start c = methods_in_lem (methods (goal.at.bounds-f-start c).After-methods_of-start)

pub overflow_add-c : goal.overflow_add-c
overflow_add-c c = omega (arith, methods_in_lem (methods (goal.at.overflow_add-c c).After-methods_of-start))

pub loop-init : goal.loop-init
loop-init c = loops.methods_start (omega (arith, c.wide-end.ensures.0))

pub method_keeps-requires : goal.method_keeps-requires
method_keeps-requires c = (here c, c.requires.1)

pub returns-then-not-method_keeps : goal.returns-then-not-method_keeps
returns-then-not-method_keeps c =
    class_no c.methods_of-start.ensures c.loop.invariant (omega arith)
    (λ l ds m j p. sym (c.if-not-method_keeps.true) ∙ c.method_keeps.ensures l ds m j p)

pub after_method-c-requires : goal.after_method-c-requires
after_method-c-requires c = here (goal.at.after_method-c-requires c).In-loop

pub loop-preserved : goal.loop-preserved
loop-preserved c =
    let less : c.wide-end.result - c.loop.counter - 1 ≡ c.wide-end.result - (c.loop.counter + 1) = omega arith in
    rw less at (loops.methods_miss keeps c.loop.invariant (omega arith)
    (λ l ds m j p. sym (c.method_keeps.ensures l ds m j p) ∙ c.if-not-method_keeps.false) c.after_method-c.ensures)

pub returns : goal.returns
returns c = class_yes c.methods_of-start.ensures c.loop.invariant (omega arith)
