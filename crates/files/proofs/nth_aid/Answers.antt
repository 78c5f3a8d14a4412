-- `files::nth_aid` meets its contract: the loop passes one AID a turn, and none passed has the number. Assumes nothing.
use Prim.Native.Nat.{◌<◌}
use native.Mathlib.Omega.{arith}
use Rattle.files.proofs.Loops as loops
use Rattle.files.proofs.Steps as steps
use Rattle.files.proofs.nth_aid.Goals as goal

pub bounds-s-at : goal.bounds-s-at
bounds-s-at c = steps.aids_in c.requires

pub loop-i-init : goal.loop-i-init
loop-i-init c = (rw (loops.whole c.wide-i-end.result, loops.whole c.args.k) (loops.aids_start c.wide-i-end.ensures.0), omega arith)

pub returns-then-i-k : goal.returns-then-i-k
returns-then-i-k c = loops.aids_hit c.loop-i.invariant.0 c.loop-i-test.true c.if-i-k.true

pub after_aid-c-requires : goal.after_aid-c-requires
after_aid-c-requires c =
    let pre = c.requires in
    loops.aids_here c.loop-i.invariant.0 (omega arith) pre

pub loop-i-preserved : goal.loop-i-preserved
loop-i-preserved c =
    let less : c.loop-i.i < c.args.k = omega (arith, c.loop-i.invariant.1, c.if-i-k.false) in
    (loops.aids_miss c.loop-i.invariant.0 c.loop-i-test.true less c.after_aid-c.ensures, omega arith)

pub returns : goal.returns
returns c = loops.aids_none c.loop-i.invariant.0 c.loop-i-test.false
