-- `depths::table::keep` meets its contract: nothing without parents, else the class's field. Assumes nothing.
use native.Mathlib.Omega.{arith}
use mathlib.Core.Path.{◌∙◌}
use Rattle.depths.proofs.Written as written
use Rattle.depths.proofs.table.keep.Goals as goal

pub returns-then-parents-eq0 : goal.returns-then-parents-eq0
returns-then-parents-eq0 c = let a = c.args in λ j. written.keep_none a.width a.t.now a.place a.parents a.depth j c.if-parents-eq0.true

pub overflow_sub-depth : goal.overflow_sub-depth
overflow_sub-depth c =
    omega (arith, (c.requires.0 (omega (arith, c.if-parents-eq0.false))).0)

pub field_put-requires : goal.field_put-requires
field_put-requires c =
    let p = c.requires.0 (omega (arith, c.if-parents-eq0.false)) in
    (omega (arith, c.requires.1), omega (arith, p.2), omega (arith, p.3), omega (arith, p.0, p.1))

pub shape_of-t : goal.shape_of-t
shape_of-t c = c.field_put.auto.s

pub returns : goal.returns
returns c =
    let a = c.args in
    λ j. c.field_put.ensures j ∙ written.keep_some a.width a.t.now a.place a.parents a.depth j c.if-parents-eq0.false
