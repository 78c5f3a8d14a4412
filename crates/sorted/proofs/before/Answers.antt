-- `sorted::before` compares one byte of both a turn. Assumes nothing.
use Prim.Native.Nat.{ℕ}
use native.Mathlib.Omega.{arith}
use mathlib.Core.Path.{◌≡◌, subst}
use lib.ListN.{length, drop}
use Rattle.sorted.specs.Sorted.{below}
use Rattle.sorted.proofs.Order as order
use Rattle.sorted.proofs.before.Goals as goal

pub returns-then-b-i : goal.returns-then-b-i
returns-then-b-i c =
    order.before_short c.args.a.now c.args.b.now c.loop-i.i c.loop-i.invariant c.loop-i-test.true c.if-b-i.true

pub returns-then-a-i : goal.returns-then-a-i
returns-then-a-i c =
    order.before_differ c.args.a.now c.args.b.now c.loop-i.i c.loop-i.invariant
    c.loop-i-test.true c.if-b-i.false
    c.if-a-i.true

pub loop-i-preserved : goal.loop-i-preserved
loop-i-preserved c =
    order.before_step c.args.a.now c.args.b.now c.loop-i.i c.loop-i.invariant c.loop-i-test.true
    c.if-b-i.false c.if-a-i.false

pub returns : goal.returns
returns c =
    let a = c.args.a.now in
    let b = c.args.b.now in
    let end : c.loop-i.i ≡ length a = omega arith in
    order.before_end a b (length a) (subst (λ (i : ℕ). below a b ≡ below (drop i a) (drop i b)) end c.loop-i.invariant) (omega arith)
