-- `store::zeros_from` tells whether only zeros follow: the greatest byte passed and what is left to compare decide. Assumes nothing.
use Rattle.rules.specs.Store.{is_zero}
use Rattle.rules.specs.Bytes.{all}
use Rattle.store.proofs.Checks as checks
use Prim.Native.Nat.{ℕ, ◌+◌}
use mathlib.Core.Path.{sym, ◌∙◌, ap}
use mathlib.Core.Bool.{◌&&◌}
use lib.Dec.{eqb}
use native.Mathlib.Omega.{arith}
use lib.ListN.{drop}
use Rattle.store.proofs.zeros_from.Goals as goal

pub loop-i-preserved : goal.loop-i-preserved
loop-i-preserved c =
    let a = c.args in
    let s = a.s.now in
    let more = checks.zero_more s c.loop-i.i c.loop-i.greatest c.loop-i-test.true in
    c.loop-i.invariant ∙ more ∙ ap (λ (g : ℕ). eqb g 0 && all is_zero (drop (c.loop-i.i + 1) s)) (sym c.greater-greatest.ensures)

pub returns : goal.returns
returns c =
    let a = c.args in
    sym (c.loop-i.invariant ∙ checks.zero_end a.s.now c.loop-i.i c.loop-i.greatest (omega arith))
