-- `files::after_methods` meets its contract: the loop passes one method a turn, and its invariant is that the methods left are still to be read. Assumes nothing.
use native.Mathlib.Omega.{arith}
use Rattle.files.proofs.Loops as loops
use Rattle.files.proofs.Steps as steps
use Rattle.files.proofs.after_methods.Goals as goal

pub bounds-s-at : goal.bounds-s-at
bounds-s-at c = steps.methods_in_lem c.requires

pub loop-init : goal.loop-init
loop-init c = rw (loops.whole c.wide-end.result) (loops.methods_start c.wide-end.ensures.0)

pub after_method-c-requires : goal.after_method-c-requires
after_method-c-requires c =
    let pre = c.requires in
    loops.methods_here c.loop.invariant (omega arith) pre

pub loop-preserved : goal.loop-preserved
loop-preserved c = loops.methods_past c.loop.invariant c.loop-test.true c.after_method-c.ensures

pub returns : goal.returns
returns c = loops.methods_done c.loop.invariant (omega (arith, c.loop-test.false))
