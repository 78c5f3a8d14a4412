-- `depths::existence::parents_exist` meets its contract: a turn for each class, the parents of those before it exist. Assumes nothing.
use Prim.Native.Nat.{◌<◌}
use native.Mathlib.Omega.{arith}
use mathlib.Core.Path.{◌≡◌, refl, subst}
use mathlib.Core.Bool.{Bool}
use lib.ListN.{length}
use Rattle.files.specs.Say.{Readable}
use Rattle.named.specs.Named.{ClassStands, ClassFrom, RowsTrue}
use Rattle.depths.specs.Depths.{AllExist}
use Rattle.depths.proofs.ByNumber.{not_true, not_false}
use Rattle.depths.proofs.Exist as exist
use Rattle.depths.proofs.existence.parents_exist.Goals as goal
use Rattle.depths.proofs.existence.parents_exist.Goals.{After-class_parents_exist, After-stands_at, In-Some, Start}

-- the file reads
reads : (b : Start) → Readable b.args.f.now
reads b = exist.judged_reads b.args.f.now b.args.s.now b.args.b.end b.requires.judged.0

-- the rows are true behind the search
rows_true : (k : After-stands_at) →
    let a = k.args in
    RowsTrue a.f.now a.s.now a.b.end a.places.now k.stands_at.new.rows
rows_true k = exist.own_written _ _ _ _ _ _ k.stands_at.auto.rows k.loop-place.invariant.1 k.stands_at.ensures.row_true

-- the class of the turn stands at the place found; its number is below 32
stands : (k : In-Some) →
    ClassFrom k.args.f.now k.loop-place.n k.in-Some.place
stands k =
    subst (ClassStands k.args.f.now k.loop-place.n) k.in-Some.is k.stands_at.ensures.class_stands

few : (k : In-Some) → k.loop-place.n < 32
few k = exist.own_few _ _ _ (reads (goal.at.In-Some k).Start) (stands k)

-- whether its parents exist, by the answer; the rows are as long as at the start
said : (k : After-class_parents_exist) (r : Bool) → k.class_parents_exist.result ≡ r →
    let a = k.args in
    AllExist a.f.now a.s.now a.b.end k.loop-place.n r
said k r e =
    let a = k.args in
    subst (AllExist a.f.now a.s.now a.b.end k.loop-place.n) e k.class_parents_exist.ensures.all_exist

rows_long : (k : After-class_parents_exist) →
    length k.class_parents_exist.new.rows ≡ length k.args.rows.now
rows_long k =
    omega (arith, k.loop-place.invariant.2, k.stands_at.auto.rows, k.class_parents_exist.auto.rows)

pub import_count-imports-requires : goal.import_count-imports-requires
import_count-imports-requires c = reads (goal.at.import_count-imports-requires c).Start

pub loop-place-init : goal.loop-place-init
loop-place-init c = (exist.classes_start _ _ _, c.requires.rows_true, refl, omega arith)

pub stands_at-requires : goal.stands_at-requires
stands_at-requires c = (reads (goal.at.stands_at-requires c).Start, exist.own_row _ _ _ _ _ c.loop-place.invariant.1)

pub class_parents_exist-requires : goal.class_parents_exist-requires
class_parents_exist-requires c =
    record { judged = c.requires.judged; import_count = (c.import_count-imports.ensures, rows_true (goal.at.class_parents_exist-requires c).After-stands_at); class_from = stands (goal.at.class_parents_exist-requires c).In-Some }

pub shape_of-rows-then-not-class_parents_exist : goal.shape_of-rows-then-not-class_parents_exist
shape_of-rows-then-not-class_parents_exist c = rows_long (goal.at.shape_of-rows-then-not-class_parents_exist c).After-class_parents_exist

pub returns-then-not-class_parents_exist : goal.returns-then-not-class_parents_exist
returns-then-not-class_parents_exist c =
    record { parents_exist = exist.classes_bad _ _ _ _ c.loop-place.invariant.0 _ (stands (goal.at.returns-then-not-class_parents_exist c).In-Some) (said (goal.at.returns-then-not-class_parents_exist c).After-class_parents_exist _ (not_true _ c.if-not-class_parents_exist.true-raw)); rows_true_2 = c.class_parents_exist.ensures.rows_true }

pub overflow_add-n : goal.overflow_add-n
overflow_add-n c = omega (arith, few (goal.at.overflow_add-n c).In-Some)

pub loop-place-smaller : goal.loop-place-smaller
loop-place-smaller c = omega (arith, few (goal.at.loop-place-smaller c).In-Some)

pub loop-place-preserved : goal.loop-place-preserved
loop-place-preserved c = (
  exist.classes_more _ _ _ _ c.loop-place.invariant.0 _ (stands (goal.at.loop-place-preserved c).In-Some) (said (goal.at.loop-place-preserved c).After-class_parents_exist _ (not_false _ c.if-not-class_parents_exist.false-raw)),
  c.class_parents_exist.ensures.rows_true,
  rows_long (goal.at.loop-place-preserved c).After-class_parents_exist,
  omega (arith, few (goal.at.loop-place-preserved c).In-Some),
)

pub shape_of-rows : goal.shape_of-rows
shape_of-rows c = omega (arith, c.loop-place.invariant.2, c.stands_at.auto.rows)

pub returns : goal.returns
returns c =
    let none = subst (ClassStands c.args.f.now c.loop-place.n) c.in_default.is c.stands_at.ensures.class_stands in
    record { parents_exist = exist.classes_done _ _ _ _ c.loop-place.invariant.0 none; rows_true_2 = rows_true (goal.at.returns c).After-stands_at }
