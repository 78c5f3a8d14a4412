-- `fields::same_long` compares eight bytes of both a turn, and the last eight at the end. Assumes nothing.
use Prim.Native.Nat.{◌-◌}
use native.Mathlib.Omega.{arith}
use mathlib.Core.Path.{◌≡◌, sym}
use lib.ListN.{length}
use Rattle.fields.specs.Words.{eight_at, Octets}
use Rattle.fields.proofs.Words.{SameTo, differ, decides, same_eight}
use Rattle.fields.proofs.same_long.Goals as goal
use Rattle.fields.proofs.same_long.Goals.{After-shared_slice_known-2-1, At-loop-i, Start}

pub overflow_sub-last : goal.overflow_sub-last
overflow_sub-last c = omega arith

pub loop-i-init : goal.loop-i-init
loop-i-init c = (omega arith, λ k h. omega arith)

pub eight_at-requires : goal.eight_at-requires
eight_at-requires c = omega arith

pub eight_at-requires-in-loop-i : goal.eight_at-requires-in-loop-i
eight_at-requires-in-loop-i c = omega arith

pub returns-then-eight_at : goal.returns-then-eight_at
returns-then-eight_at c =
    sym (differ (λ s. eight_at s c.loop-i.i) c.args.a.now c.args.b.now (λ e. c.if-eight_at.true (omega arith)))

pub overflow_add-i : goal.overflow_add-i
overflow_add-i c = omega arith

pub loop-i-smaller : goal.loop-i-smaller
loop-i-smaller c = omega arith

pub loop-i-preserved : goal.loop-i-preserved
loop-i-preserved c =
    let oa : Octets c.args.a.now = λ k. omega (arith, c.type_inv.a k) in
    let ob : Octets c.args.b.now = λ k. omega (arith, c.type_inv.b k) in
    (omega arith, same_eight c.args.a.now c.args.b.now oa ob c.loop-i.i c.loop-i.invariant.1 (omega arith))

pub eight_at-requires-2 : goal.eight_at-requires-2
eight_at-requires-2 c = omega arith

pub eight_at-requires-3 : goal.eight_at-requires-3
eight_at-requires-3 c = omega arith

pub returns : goal.returns
returns c =
    let x = c.args.a.now in
    let y = c.args.b.now in
    let oa : Octets x = λ k. omega (arith, c.type_inv.a k) in
    let ob : Octets y = λ k. omega (arith, c.type_inv.b k) in
    let last = length x - 8 in
    let all : eight_at x last ≡ eight_at y last → SameTo x y (length x) =
    λ e k h. same_eight x y oa ob last (λ j l. c.loop-i.invariant.1 j (omega arith)) e k (omega arith) in
    rw (c.eight_at-2.ensures, c.eight_at-3.ensures) (decides (λ s. eight_at s last) x y c.requires.0 all)
