-- `depths::table::depth_told` meets its contract: an own class's depth, 1 without parents, else the field. Assumes nothing.
use native.Mathlib.Omega.{arith}
use Rattle.depths.proofs.Width.{field_small}
use Rattle.depths.proofs.ByTable as kept
use Rattle.depths.proofs.table.depth_told.Goals as goal

pub bounds-depths-c : goal.bounds-depths-c
bounds-depths-c c = c.requires.c_in_bounds.0 c.if-from-eq0.true

pub returns-then-from-eq0 : goal.returns-then-from-eq0
returns-then-from-eq0 c =
    let a = c.args in (
      kept.told_own a.width a.depths.now a.t.now a.from a.place a.c a.parents c.wide.result c.if-from-eq0.true c.wide.ensures.0,
      omega (arith, c.wide.ensures.1),
    )

pub returns-then-parents-eq0 : goal.returns-then-parents-eq0
returns-then-parents-eq0 c =
    let a = c.args in
    (kept.told_one a.width a.depths.now a.t.now a.from a.place a.c a.parents c.if-from-eq0.false c.if-parents-eq0.true, omega arith)

pub overflow_add-from : goal.overflow_add-from
overflow_add-from c = omega (arith, (c.requires.c_in_bounds.1 (omega (arith, c.if-from-eq0.false))).0)

pub field_get-requires : goal.field_get-requires
field_get-requires c =
    let p = c.requires.c_in_bounds.1 (omega (arith, c.if-from-eq0.false)) in
    (omega (arith, c.requires.width_bound), omega (arith, p.0), omega (arith, p.1))

pub overflow_add-result : goal.overflow_add-result
overflow_add-result c = omega (arith, field_small c.field_get.ensures.1 c.requires.width_bound)

pub returns : goal.returns
returns c =
    let a = c.args in (
      kept.told_field a.width a.depths.now a.t.now a.from a.place a.c a.parents c.field_get.result c.if-from-eq0.false
          c.if-parents-eq0.false c.field_get.ensures.0,
      omega (arith, field_small c.field_get.ensures.1 c.requires.width_bound),
    )
