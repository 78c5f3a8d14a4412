-- `fields::same_short` compares the first four bytes and the last four. Assumes nothing.
use Prim.Native.Nat.{◌-◌}
use native.Mathlib.Omega.{arith}
use mathlib.Core.Path.{◌≡◌, sym}
use lib.ListN.{length}
use Rattle.rules.specs.Code.{u4_at}
use Rattle.fields.specs.Words.{Octets}
use Rattle.fields.proofs.Words.{SameTo, differ, decides, same_four}
use Rattle.fields.proofs.same_short.Goals as goal
use Rattle.fields.proofs.same_short.Goals.{After-shared_slice_known-2-1, Else-u4_at, Start}

pub returns-then-u4_at : goal.returns-then-u4_at
returns-then-u4_at c =
    sym (differ (λ s. u4_at s 0) c.args.a.now c.args.b.now (λ e. c.if-u4_at.true (omega arith)))

pub returns : goal.returns
returns c =
    let x = c.args.a.now in
    let y = c.args.b.now in
    let oa : Octets x = λ k. omega (arith, c.type_inv.a k) in
    let ob : Octets y = λ k. omega (arith, c.type_inv.b k) in
    let last = length x - 4 in
    let so : SameTo x y 4 = same_four x y oa ob 0 (λ k h. omega arith) (omega arith) in
    let all : u4_at x last ≡ u4_at y last → SameTo x y (length x) =
    λ e k h. same_four x y oa ob last (λ j l. so j (omega arith)) e k (omega arith) in
    rw (c.u4_at-3.ensures.0, c.u4_at-4.ensures.0) (decides (λ s. u4_at s last) x y c.requires.0 all)
