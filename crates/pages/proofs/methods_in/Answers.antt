-- `pages::methods_in` meets its contract: the loop counts the methods of one class a turn. Assumes nothing.
use Prim.Native.Nat.{◌+◌, ◌-◌}
use native.Mathlib.Omega.{arith}
use Rattle.files.specs.Say.{Classes, ClassThere, Methods}
use Rattle.files.proofs.Walks as walks
use Rattle.files.proofs.Loops as loops
use Rattle.files.proofs.Steps as steps
use Rattle.pages.proofs.Methods.{counts_start, counts_more, counts_done}
use Rattle.pages.proofs.methods_in.Goals as goal
use Rattle.pages.proofs.methods_in.Goals.{After-classes_at-start, After-methods_of, In-loop}

-- the classes stand there
there : (k : After-classes_at-start) → Classes k.args.f.now k.classes_at-start.result
there k = walks.classes_there k.classes_at-start.ensures k.requires

-- a class stands at the turn's place, and its methods
here : (k : In-loop) → ClassThere k.args.f.now k.loop.c
here k = loops.classes_here k.loop.invariant.0 (omega arith) (there (goal.at.In-loop k).After-classes_at-start)

methods_here : (k : After-methods_of) → Methods k.args.f.now k.methods_of.result
methods_here k = steps.methods_there k.methods_of.ensures (here (goal.at.After-methods_of k).In-loop)

pub classes_at-start-requires : goal.classes_at-start-requires
classes_at-start-requires c = c.requires

pub bounds-f-start : goal.bounds-f-start
bounds-f-start c = steps.classes_in_lem (there (goal.at.bounds-f-start c).After-classes_at-start)

pub overflow_add-c : goal.overflow_add-c
overflow_add-c c = omega (arith, steps.classes_in_lem (there (goal.at.overflow_add-c c).After-classes_at-start))

pub loop-init : goal.loop-init
loop-init c = (counts_start _ _ _ (omega (arith, c.wide-end.ensures.0)), omega (arith, c.wide-end.ensures.1))

pub methods_of-requires : goal.methods_of-requires
methods_of-requires c = here c

pub bounds-f-methods_of : goal.bounds-f-methods_of
bounds-f-methods_of c = steps.methods_in_lem (methods_here (goal.at.bounds-f-methods_of c).After-methods_of)

pub overflow_add-n : goal.overflow_add-n
overflow_add-n c =
    omega (arith, c.loop.invariant.1, c.wide-n.ensures.1)

pub after_class-c-requires : goal.after_class-c-requires
after_class-c-requires c = here (goal.at.after_class-c-requires c).In-loop

pub loop-preserved : goal.loop-preserved
loop-preserved c = (
  counts_more _ _ _ _ (c.wide-end.result - (c.loop.counter + 1)) _ _ _ _ c.loop.invariant.0 (omega arith) c.methods_of.ensures c.wide-n.ensures.0 c.after_class-c.ensures,
  omega (arith, c.loop.invariant.1, c.wide-n.ensures.1),
)

pub returns : goal.returns
returns c =
    (counts_done _ _ _ _ _ c.loop.invariant.0 (omega arith) c.classes_at-start.ensures, omega (arith, c.loop.invariant.1))
