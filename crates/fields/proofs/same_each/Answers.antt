-- `fields::same_each` meets its contract: what is left to compare decides. Assumes nothing.
use Rattle.fields.proofs.Same.{same_step, same_differ, same_end}
use mathlib.Core.Path.{refl, sym, ◌∙◌}
use native.Mathlib.Omega.{arith}
use Rattle.fields.proofs.same_each.Goals as goal

pub loop-i-init : goal.loop-i-init
loop-i-init c = refl

pub returns-then-a-i : goal.returns-then-a-i
returns-then-a-i c =
    sym (c.loop-i.invariant ∙ same_differ c.args.a.now c.args.b.now c.loop-i.i (omega arith) (omega arith) c.if-a-i.true)

pub loop-i-preserved : goal.loop-i-preserved
loop-i-preserved c =
    c.loop-i.invariant ∙ same_step c.args.a.now c.args.b.now c.loop-i.i (omega arith) (omega arith) c.if-a-i.false

pub returns : goal.returns
returns c =
    sym (c.loop-i.invariant ∙ same_end c.args.a.now c.args.b.now c.loop-i.i (omega arith) (omega arith))
