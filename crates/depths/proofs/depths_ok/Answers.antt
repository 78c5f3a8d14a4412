-- `depths::depths_ok` meets its contract: a turn for each class, with the kinds and depths of those before it. Assumes nothing.
use Prim.Native.Nat.{◌<◌}
use native.Mathlib.Omega.{arith}
use mathlib.Core.Path.{◌≡◌, refl, subst}
use lib.ListN.{length, length-set}
use Rattle.files.specs.Say.{Readable}
use Rattle.named.specs.Named.{ClassStands, ClassFrom, RowsTrue}
use Rattle.depths.proofs.Figures as figures
use Rattle.depths.proofs.Walk as walk
use Rattle.depths.proofs.Exist as exist
use Rattle.depths.proofs.depths_ok.Goals as goal
use Rattle.depths.proofs.depths_ok.Goals.{After-own_depth, After-stands_at, In-Some, Start}

-- the file reads
reads : (b : Start) → Readable b.args.f.now
reads b = exist.judged_reads b.args.f.now b.args.s.now b.args.b.end (b.requires.parents_there.0.0, b.requires.parents_there.0.1, b.requires.parents_there.0.2.imported)

-- the rows are true behind the search
rows_true : (k : After-stands_at) →
    let a = k.args in
    RowsTrue a.f.now a.s.now a.b.end a.places.now k.stands_at.new.rows
rows_true k = exist.own_written _ _ _ _ _ _ k.stands_at.auto.rows k.loop-place.invariant.3 k.stands_at.ensures.row_true

-- the class of the turn stands at the place found; its number is below 32
stands : (k : In-Some) →
    ClassFrom k.args.f.now k.loop-place.n k.in-Some.place
stands k =
    subst (ClassStands k.args.f.now k.loop-place.n) k.in-Some.is k.stands_at.ensures.class_stands

few : (k : In-Some) → k.loop-place.n < 32
few k = exist.own_few _ _ _ (reads (goal.at.In-Some k).Start) (stands k)

-- the rows are as long as at the start
rows_long : (k : After-own_depth) →
    length k.own_depth.new.rows ≡ length k.args.rows.now
rows_long k =
    omega (arith, k.loop-place.invariant.4, k.stands_at.auto.rows, k.own_depth.auto.rows)

pub import_count-imports-requires : goal.import_count-imports-requires
import_count-imports-requires c = reads (goal.at.import_count-imports-requires c).Start

pub loop-place-init : goal.loop-place-init
loop-place-init c =
    (figures.kinds_start _ _ _, figures.depths_start _ _ _, figures.own_start _ _ _ _ c.requires.most_value.1, c.requires.rows_true, refl, refl, omega arith)

pub stands_at-requires : goal.stands_at-requires
stands_at-requires c = (reads (goal.at.stands_at-requires c).Start, exist.own_row _ _ _ _ _ c.loop-place.invariant.3)

pub own_depth-requires : goal.own_depth-requires
own_depth-requires c =
    record { parents_there = c.requires.parents_there; import_count = (c.import_count-imports.ensures, stands (goal.at.own_depth-requires c).In-Some); rows_true = rows_true (goal.at.own_depth-requires c).After-stands_at; depths_kept = (c.requires.depths_kept.0, c.requires.depths_kept.1, c.loop-place.invariant.2); most_value = c.requires.most_value.0 }

pub shape_of-rows-in_err-d : goal.shape_of-rows-in_err-d
shape_of-rows-in_err-d c = rows_long (goal.at.shape_of-rows-in_err-d c).After-own_depth

pub shape_of-depths-in_err-d : goal.shape_of-depths-in_err-d
shape_of-depths-in_err-d c = c.loop-place.invariant.5

pub returns-in_err-d : goal.returns-in_err-d
returns-in_err-d c =
    record { later_parts = rw c.from_residual.ensures (figures.kinds_bad _ _ _ _ _ (stands (goal.at.returns-in_err-d c).In-Some) c.loop-place.depths c.loop-place.invariant.0 c.in_err-d.ensures.own_is); rows_true_2 = c.in_err-d.ensures.rows_true_2 }

pub shape_of-rows-then-b-d : goal.shape_of-rows-then-b-d
shape_of-rows-then-b-d c = rows_long (goal.at.shape_of-rows-then-b-d c).After-own_depth

pub shape_of-depths-then-b-d : goal.shape_of-depths-then-b-d
shape_of-depths-then-b-d c = c.loop-place.invariant.5

pub returns-then-b-d : goal.returns-then-b-d
returns-then-b-d c =
    record { later_parts = figures.depths_bad _ _ _ _ _ (stands (goal.at.returns-then-b-d c).In-Some) _ c.loop-place.invariant.1 _ c.requires.most_value.0 _ c.in_ok-d.ensures.own_is.1 c.loop-place.depths c.if-b-d.true; rows_true_2 = c.in_ok-d.ensures.rows_true_2 }

pub overflow_cast-depths : goal.overflow_cast-depths
overflow_cast-depths c =
    omega (arith, c.if-b-d.false, walk.depth_small c.args.s.now c.args.b.most c.requires.most_value.0)

pub bounds-depths-n : goal.bounds-depths-n
bounds-depths-n c =
    omega (arith, few (goal.at.bounds-depths-n c).In-Some, c.loop-place.invariant.2.size)

pub overflow_add-n : goal.overflow_add-n
overflow_add-n c = omega (arith, few (goal.at.overflow_add-n c).In-Some)

pub loop-place-smaller : goal.loop-place-smaller
loop-place-smaller c = omega (arith, few (goal.at.loop-place-smaller c).In-Some)

pub loop-place-preserved : goal.loop-place-preserved
loop-place-preserved c = (
  figures.kinds_next _ _ _ _ _ (stands (goal.at.loop-place-preserved c).In-Some) c.loop-place.invariant.0 c.in_ok-d.ensures.own_is.0,
  figures.depths_more _ _ _ _ _ (stands (goal.at.loop-place-preserved c).In-Some) _ c.loop-place.invariant.1 _ c.requires.most_value.0 _ c.in_ok-d.ensures.own_is.1 c.if-b-d.false _ c.max-figure.ensures,
  figures.own_more _ _ _ _ _ _ (few (goal.at.loop-place-preserved c).In-Some) c.loop-place.invariant.2 c.in_ok-d.ensures.own_is.1,
  c.in_ok-d.ensures.rows_true_2,
  rows_long (goal.at.loop-place-preserved c).After-own_depth,
  simp length-set c.loop-place.invariant.5,
  omega (arith, few (goal.at.loop-place-preserved c).In-Some),
)

pub shape_of-rows : goal.shape_of-rows
shape_of-rows c = omega (arith, c.loop-place.invariant.4, c.stands_at.auto.rows)

pub shape_of-depths : goal.shape_of-depths
shape_of-depths c = c.loop-place.invariant.5

pub returns : goal.returns
returns c =
    let none = subst (ClassStands c.args.f.now c.loop-place.n) c.in_default.is c.stands_at.ensures.class_stands in
    record { later_parts = figures.later_done _ _ _ _ none _ _ c.loop-place.invariant.0 c.loop-place.invariant.1 c.loop-place.invariant.2; rows_true_2 = rows_true (goal.at.returns c).After-stands_at }
