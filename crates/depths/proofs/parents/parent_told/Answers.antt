-- `depths::parents::parent_told` meets its contract: the class stands where its row tells, and its kind and depth are told there. Assumes nothing.
use Prim.Native.Nat.{◌≤◌}
use native.Mathlib.Omega.{arith}
use mathlib.Core.Path.{subst}
use Rattle.rules.specs.Package.{most_imports}
use Rattle.rules.specs.Store.{store_limits}
use Rattle.homes.specs.Homes.{HomeThere}
use Rattle.homes.proofs.Lookups.{there_bounds, there_reads}
use Rattle.named.specs.Named.{Judged, ClassStands, ClassFrom, RowsTrue}
use Rattle.named.proofs.Numbers as numbers
use Rattle.depths.proofs.Width.{width_few, field_room}
use Rattle.depths.proofs.ByTable as kept
use Rattle.depths.proofs.parents.parent_told.Goals as goal
use Rattle.depths.proofs.parents.parent_told.Goals.{After-home_at-h, After-stands_at, In-Some, Start}

-- the file is judged over these entries, and the package number is small
judged : (b : Start) → Judged b.args.f.now b.args.s.now b.args.x.end
judged b = (b.requires.class_there.0, b.requires.class_there.1, b.requires.class_there.4.parents.imported)

few : (b : Start) → b.args.x.pack ≤ most_imports
few b = numbers.number_few _ _ _ _ (judged b) b.requires.import_places.1

-- its home is there
there : (k : After-home_at-h) → HomeThere k.args.f.now k.args.s.now k.home_at-h.result
there k = numbers.number_at _ _ _ _ k.requires.import_places.0 _ _ k.home_at-h.ensures k.requires.import_places.1 (judged (goal.at.After-home_at-h k).Start)

-- the class stands at the place found
stands : (k : In-Some) → ClassFrom k.file_of-g.result.now k.args.x.class k.in-Some.i
stands k =
    subst (ClassStands k.file_of-g.result.now k.args.x.class) k.in-Some.is k.stands_at.ensures.class_stands

-- the rows are true behind the search
rows_true : (k : After-stands_at) →
    let a = k.args in
    RowsTrue a.f.now a.s.now a.x.end a.places.now k.stands_at.new.rows
rows_true k =
    let back = numbers.row_back _ _ _ _ _ _ _ _ k.home_at-h.ensures k.file_of-g.ensures k.stands_at.ensures.row_true.0 in
    numbers.rows_written _ _ _ _ _ _ _ k.stands_at.auto.rows k.requires.rows_true back k.stands_at.ensures.row_true.1

pub home_at-h-requires : goal.home_at-h-requires
home_at-h-requires c =
    (c.requires.import_places.0.size, numbers.number_placed_lem _ _ _ _ c.requires.import_places.0 _ c.requires.import_places.1 (judged (goal.at.home_at-h-requires c).Start))

pub file_of-g-requires : goal.file_of-g-requires
file_of-g-requires c = there_bounds _ _ _ (there c)

pub overflow_mul-x : goal.overflow_mul-x
overflow_mul-x c = omega (arith, few (goal.at.overflow_mul-x c).Start)

pub stands_at-requires : goal.stands_at-requires
stands_at-requires c = (
  there_reads _ _ _ _ c.file_of-g.ensures (there (goal.at.stands_at-requires c).After-home_at-h),
  numbers.row_of _ _ _ _ _ _ _ _ c.home_at-h.ensures c.file_of-g.ensures (few (goal.at.stands_at-requires c).Start) c.requires.rows_true,
)

pub bounds-g-i : goal.bounds-g-i
bounds-g-i c = (stands (goal.at.bounds-g-i c).In-Some).inside

pub overflow_add-i : goal.overflow_add-i
overflow_add-i c = omega (arith, (stands (goal.at.overflow_add-i c).In-Some).inside)

pub bounds-g-i-in-Some : goal.bounds-g-i-in-Some
bounds-g-i-in-Some c =
    kept.parent_inside _ _ _ _ c.requires.import_places.0 _ _ _ c.requires.import_places.1 _ c.home_at-h.ensures _ c.file_of-g.ensures (stands (goal.at.bounds-g-i-in-Some c).In-Some) c.requires.class_there

pub depth_told-requires : goal.depth_told-requires
depth_told-requires c =
    let a = c.args in
    record {
      c_in_bounds = (
        λ e. (c.requires.class_in_bounds (kept.from_own _ _ _ _ c.requires.import_places.0 _ _ c.requires.import_places.1 _ c.home_at-h.ensures c.requires.class_there e)).0,
        λ n. let m = kept.parent_room _ _ _ _ c.requires.import_places.0 _ _ _ c.requires.import_places.1 _ c.home_at-h.ensures _ c.file_of-g.ensures (stands (goal.at.depth_told-requires c).In-Some) c.requires.class_there n in
            (omega (arith, m, c.requires.depths_kept.1), field_room a.s.now a.x.width c.requires.depths_kept.2 m c.requires.depths_kept.0.room),
      );
      width_bound = omega (arith, c.requires.depths_kept.2, width_few (store_limits a.s.now).depth);
    }

pub shape_of-rows-in-Some : goal.shape_of-rows-in-Some
shape_of-rows-in-Some c = c.stands_at.auto.rows

pub returns-in-Some : goal.returns-in-Some
returns-in-Some c =
    let a = c.args in
    record {
      kind0is = (
        kept.parent_kind _ _ _ _ c.requires.import_places.0 _ _ _ c.requires.import_places.1 _ c.home_at-h.ensures _ c.file_of-g.ensures (stands (goal.at.returns-in-Some c).In-Some) _ _ c.wide.ensures.0
            c.flag.ensures.0.0 c.flag.ensures.0.1,
        c.flag.ensures.1,
      );
      depth_is = (
        kept.told_is _ _ _ _ c.requires.import_places.0 _ _ _ c.requires.import_places.1 _ c.home_at-h.ensures _ c.file_of-g.ensures (stands (goal.at.returns-in-Some c).In-Some) a.depths.now a.t.now c.requires.depths_kept.0
            (λ z. (c.requires.class_in_bounds z).1) _ _ _ c.wide-in-Some.ensures.0 c.requires.depths_kept.2 c.depth_told.ensures.0,
        c.depth_told.ensures.1,
      );
      rows_true_2 = rows_true (goal.at.returns-in-Some c).After-stands_at;
    }

pub shape_of-rows-in-None : goal.shape_of-rows-in-None
shape_of-rows-in-None c = c.stands_at.auto.rows

pub returns-in-None : goal.returns-in-None
returns-in-None c =
    let none = subst (ClassStands c.file_of-g.result.now c.args.x.class) c.in-None.is c.stands_at.ensures.class_stands in
    absurd (kept.parent_never _ _ _ _ c.requires.import_places.0 c.args.x.pack _ _ c.home_at-h.ensures _ c.file_of-g.ensures c.requires.class_there none)
