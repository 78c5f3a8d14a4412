-- `bits::is_within` meets its contract. The invariant: the bits of the bytes before i are within. Assumes nothing.
use native.Mathlib.Omega.{arith}
use Rattle.bits.proofs.Within.{within_more, within_not, within_all}
use Rattle.bits.proofs.is_within.Goals as goal

pub loop-i-init : goal.loop-i-init
loop-i-init c = λ j h. absurd (omega arith)

pub returns-then-a-i : goal.returns-then-a-i
returns-then-a-i c = within_not c.args.a.now c.args.b.now c.loop-i.i (c.type_inv.a c.loop-i.i).fits c.if-a-i.true

pub loop-i-preserved : goal.loop-i-preserved
loop-i-preserved c = within_more c.args.a.now c.args.b.now c.loop-i.i c.loop-i.invariant c.if-a-i.false

pub returns : goal.returns
returns c = within_all c.args.a.now c.args.b.now c.loop-i.i (omega arith) c.loop-i.invariant
