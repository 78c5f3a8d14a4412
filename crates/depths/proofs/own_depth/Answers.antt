-- `depths::own_depth` meets its contract: none where the kinds are wrong, else one more than the parents' greatest depth. Assumes nothing.
use Rattle.homes.specs.Homes.{own_home}
use Rattle.depths.specs.Depths.{Kind0Is}
use Rattle.depths.proofs.Walk as walk
use Rattle.depths.proofs.ParentKinds as kinds
use Rattle.depths.proofs.own_depth.Goals as goal
use Rattle.depths.proofs.own_depth.Goals.{After-flag}

-- the class's own kind
kind : (k : After-flag) →
    let a = k.args in
    Kind0Is a.f.now a.s.now a.o.end (own_home a.o.end) a.o.number k.flag.result
kind k = kinds.own_kind _ _ _ _ _ _ _ k.requires.import_count.1 k.wide.ensures.0 k.flag.ensures.0.0 k.flag.ensures.0.1

pub own_parents-w-requires : goal.own_parents-w-requires
own_parents-w-requires c =
    record { parents_there = c.requires.parents_there; import_count = c.requires.import_count; rows_true = c.requires.rows_true; depths_kept = c.requires.depths_kept; most_value = c.requires.most_value }

pub bounds-f-a : goal.bounds-f-a
bounds-f-a c = c.requires.import_count.1.inside

pub shape_of-rows-then-flag-w : goal.shape_of-rows-then-flag-w
shape_of-rows-then-flag-w c = c.own_parents-w.auto.rows

pub returns-then-flag-w : goal.returns-then-flag-w
returns-then-flag-w c =
    record { own_is = walk.own_bad _ _ _ _ _ _ (kind (goal.at.returns-then-flag-w c).After-flag) c.own_parents-w.ensures.kind0count c.if-flag-w.true; rows_true_2 = c.own_parents-w.ensures.rows_true_2 }

pub one_more-requires : goal.one_more-requires
one_more-requires c = walk.depth_small _ _ c.requires.most_value

pub shape_of-rows : goal.shape_of-rows
shape_of-rows c = c.own_parents-w.auto.rows

pub returns : goal.returns
returns c =
    record { own_is = walk.own_good _ _ _ _ _ _ (kind (goal.at.returns c).After-flag) c.own_parents-w.ensures.kind0count c.if-flag-w.false _ _ _ c.requires.most_value c.own_parents-w.ensures.deepest_is c.one_more.ensures.0; rows_true_2 = c.own_parents-w.ensures.rows_true_2 }
