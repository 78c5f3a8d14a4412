-- `files::after_aids` meets its contract: the loop passes one AID a turn, and its invariant is that the AIDs left are still to be read. Assumes nothing.
use native.Mathlib.Omega.{arith}
use Rattle.files.proofs.Loops as loops
use Rattle.files.proofs.Steps as steps
use Rattle.files.proofs.after_aids.Goals as goal

pub bounds-s-at : goal.bounds-s-at
bounds-s-at c = steps.aids_in c.requires

pub loop-init : goal.loop-init
loop-init c = rw (loops.whole c.wide-end.result) (loops.aids_start c.wide-end.ensures.0)

pub after_aid-c-requires : goal.after_aid-c-requires
after_aid-c-requires c =
    let pre = c.requires in
    loops.aids_here c.loop.invariant (omega arith) pre

pub loop-preserved : goal.loop-preserved
loop-preserved c = loops.aids_skip c.loop.invariant c.loop-test.true c.after_aid-c.ensures

pub returns : goal.returns
returns c = loops.aids_done c.loop.invariant c.loop-test.false
