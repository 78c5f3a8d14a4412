-- `depths::parents::own_parents` meets its contract: a turn for each parent, those before it counted and compared. Assumes nothing.
use Prim.Native.Nat.{◌<◌}
use native.Mathlib.Omega.{arith}
use mathlib.Core.Path.{refl, ap, ◌∙◌}
use Rattle.named.specs.Named.{Judged}
use Rattle.depths.specs.Depths.{width_for}
use Rattle.depths.proofs.Walk as walk
use Rattle.depths.proofs.ListedParents as parent
use Rattle.depths.proofs.ParentKinds as kinds
use Rattle.depths.proofs.Exist as exist
use Rattle.depths.proofs.parents.own_parents.Goals as goal
use Rattle.depths.proofs.parents.own_parents.Goals.{After-parent_at-x, Start}

-- the file is judged over these entries; the class's number is below 32
judged : (b : Start) → Judged b.args.f.now b.args.s.now b.args.o.end
judged b = parent.judged_here b.args.f.now b.args.s.now b.args.o.end b.requires.parents_there.0

few : (b : Start) → b.args.o.number < 32
few b = exist.own_few _ _ _ (exist.judged_reads _ _ _ (judged b)) b.requires.import_count.1

-- the parent of a turn, as it is listed
listed : (k : After-parent_at-x) →
    let a = k.args in
    parent.Listed a.f.now a.s.now a.o.end a.o.number k.loop-i.i a.places.now k.parent_at-x.result.pack k.parent_at-x.result.class
listed k =
    parent.listed _ _ _ _ _ k.requires.import_count.1 _ k.requires.parents_there.1 _ k.requires.import_count.0 _ _ _ _ k.parent_count-k.ensures.0 k.loop-i-test.true
    k.parent_at-x.ensures.0 k.parent_at-x.ensures.1 k.requires.parents_there.0

pub parent_count-k-requires : goal.parent_count-k-requires
parent_count-k-requires c =
    (exist.own_record _ _ _ _ _ c.requires.import_count.1 (judged (goal.at.parent_count-k-requires c).Start)).1.inside

pub loop-i-init : goal.loop-i-init
loop-i-init c = (kinds.kinds_start _ _ _ _, walk.deepest_start _ _ _ _, omega arith, c.requires.rows_true, refl)

pub parent_at-x-requires : goal.parent_at-x-requires
parent_at-x-requires c =
    exist.own_parent _ _ _ _ _ c.requires.import_count.1 (judged (goal.at.parent_at-x-requires c).Start) _ _ c.parent_count-k.ensures.0 c.loop-i-test.true

pub parent_told-w-requires : goal.parent_told-w-requires
parent_told-w-requires c =
    let l = listed (goal.at.parent_told-w-requires c).After-parent_at-x in
    record { import_places = (c.requires.parents_there.1, l.there); class_there = l.class; rows_true = c.loop-i.invariant.3; depths_kept = (c.requires.depths_kept.0, c.requires.depths_kept.1, c.width_of-width.ensures ∙ ap width_for c.requires.most_value); class_in_bounds = λ z. (omega (arith, l.smaller z, few (goal.at.parent_told-w-requires c).Start, c.requires.depths_kept.2.size), c.requires.depths_kept.2.told _ (l.smaller z)) }

pub overflow_add-found : goal.overflow_add-found
overflow_add-found c =
    omega (arith, c.loop-i.invariant.2, c.parent_count-k.ensures.1, c.loop-i-test.true, c.parent_told-w.ensures.kind0is.1)

pub loop-i-preserved : goal.loop-i-preserved
loop-i-preserved c =
    let l = listed (goal.at.loop-i-preserved c).After-parent_at-x in (
      kinds.kinds_more _ _ _ _ _ _ _ _ _ c.loop-i.invariant.0 l.is c.parent_told-w.ensures.kind0is.0,
      walk.deepest_more _ _ _ _ _ _ _ _ _ _ c.loop-i.invariant.1 l.is c.parent_told-w.ensures.depth_is.0 c.max-deepest.ensures,
      omega (arith, c.loop-i.invariant.2, c.parent_told-w.ensures.kind0is.1),
      c.parent_told-w.ensures.rows_true_2,
      omega (arith, c.loop-i.invariant.4, c.parent_told-w.auto.rows),
    )

pub shape_of-rows : goal.shape_of-rows
shape_of-rows c = c.loop-i.invariant.4

pub returns : goal.returns
returns c =
    record { kind0count = kinds.kinds_done _ _ _ _ _ _ _ _ c.requires.import_count.1 c.parent_count-k.ensures.0 c.loop-i-test.false c.loop-i.invariant.0; deepest_is = walk.deepest_done _ _ _ _ _ _ _ _ c.requires.import_count.1 c.parent_count-k.ensures.0 c.loop-i-test.false c.loop-i.invariant.1; rows_true_2 = c.loop-i.invariant.3 }
