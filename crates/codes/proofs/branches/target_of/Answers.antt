-- `codes::branches::target_of` meets its contract: where a branch by a signed field lands, in unsigned numbers. Assumes nothing.
use Prim.Native.Nat.{suc, ◌+◌, ◌-◌}
use mathlib.Core.Path.{◌∙◌}
use Rattle.rules.proofs.Signed.{lands_below, lands_from, sub_below, sub_from}
use Rattle.codes.proofs.Adding.{lands_there, lands_before}
use Rattle.codes.proofs.branches.target_of.Goals as goal

pub returns-then-x-half : goal.returns-then-x-half
returns-then-x-half c = let a = c.args in lands_there a.n _ (a.at + a.x) (lands_below a.half a.at a.x c.if-x-half.true)

pub returns-then-sum-half : goal.returns-then-sum-half
returns-then-sum-half c =
    let a = c.args in
    lands_before a.n _ (a.half + a.half - suc (a.at + a.x))
    (lands_from a.half a.at a.x c.if-x-half.false ∙ sub_below (a.at + a.x) (a.half + a.half) c.if-sum-half.true)

pub returns : goal.returns
returns c =
    let a = c.args in
    lands_there a.n _ (a.at + a.x - (a.half + a.half))
    (lands_from a.half a.at a.x c.if-x-half.false ∙ sub_from (a.at + a.x) (a.half + a.half) c.if-sum-half.false)
