-- `files::first_method` meets its contract: the loop goes on while no method passed passes the test. Assumes nothing.
use native.Mathlib.Omega.{arith}
use mathlib.Core.Path.{sym, ◌∙◌}
use Rattle.files.proofs.Loops as loops
use Rattle.files.proofs.Steps as steps
use Rattle.files.proofs.first_method.Goals as goal

pub methods_of-start-requires : goal.methods_of-start-requires
methods_of-start-requires g c = c.requires.class_there

pub bounds-s-start : goal.bounds-s-start
bounds-s-start g c = steps.methods_in_lem (steps.methods_there c.methods_of-start.ensures c.requires.class_there)

pub overflow_add-c : goal.overflow_add-c
overflow_add-c g c = omega (arith, steps.methods_in_lem (steps.methods_there c.methods_of-start.ensures c.requires.class_there))

pub loop-init : goal.loop-init
loop-init g c = rw (loops.whole c.wide-end.result) (loops.methods_start c.wide-end.ensures.0, λ p t. loops.methods_start c.wide-end.ensures.0)

pub passes-requires : goal.passes-requires
passes-requires g c = c.requires.askable c.loop.c
    (loops.methods_here c.loop.invariant.0 (omega arith) (steps.methods_there c.methods_of-start.ensures c.requires.class_there))

pub after_method-c-requires : goal.after_method-c-requires
after_method-c-requires g c =
    loops.methods_here c.loop.invariant.0 (omega arith) (steps.methods_there c.methods_of-start.ensures c.requires.class_there)

pub returns-then-passes : goal.returns-then-passes
returns-then-passes g c = λ p t l ds k j e. loops.find_hit p (c.loop.invariant.1 p t) (omega arith)
    (λ l ds m j q. sym (t c.loop.c c.passes.result c.passes.ensures l ds m j q) ∙ c.if-passes.true) l ds k.methods j
    (c.methods_of-start.ensures l ds k j e)

pub loop-preserved : goal.loop-preserved
loop-preserved g c = (
  loops.methods_past c.loop.invariant.0 c.loop-test.true c.after_method-c.ensures,
  λ p t. loops.find_past p (c.loop.invariant.1 p t) c.loop-test.true
      (λ l ds m j q. sym (t c.loop.c c.passes.result c.passes.ensures l ds m j q) ∙ c.if-passes.false) c.after_method-c.ensures,
)

pub returns : goal.returns
returns g c = λ p t l ds k j e. loops.find_none p (c.loop.invariant.1 p t) (omega (arith, c.loop-test.false)) l ds k.methods j
    (c.methods_of-start.ensures l ds k j e)
