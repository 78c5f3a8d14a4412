-- `depths::table::keep_depths` meets its contract: a turn for each class, with the fields of those before it written. Assumes nothing.
use Prim.Native.Nat.{ℕ, ◌+◌, ◌-◌, ◌/◌, ◌^◌, ◌<◌, ◌≤◌}
use native.Mathlib.Omega.{arith}
use mathlib.Core.Path.{◌≡◌, refl, sym, ap, ◌∙◌, subst}
use lib.ListN.{length, get_or}
use Rattle.rules.specs.Bytes.{Bytes}
use Rattle.rules.specs.Limits.{Limits}
use Rattle.rules.specs.Store.{store_limits}
use Rattle.files.specs.Say.{ClassThere}
use Rattle.store.specs.Entries.{part}
use Rattle.store.proofs.Parts.{part_length}
use Rattle.named.specs.Named.{ClassFrom}
use Rattle.named.proofs.Rows as rows
use Rattle.depths.specs.Depths.{width_for, kept_field, DepthsFit, FileKept, depth_field}
use Rattle.depths.proofs.Width.{width_few, field_room}
use Rattle.depths.proofs.Written as written
use Rattle.depths.proofs.Exist as exist
use Rattle.depths.proofs.table.keep_depths.Goals as goal
use Rattle.depths.proofs.table.keep_depths.Goals.{After-keep, In-loop-i, Start}

-- the file, and the bits of a depth
abbrev file : Start → Bytes
file b = part b.args.s.now b.args.from b.args.to

abbrev width : In-loop-i → ℕ
width k = k.width_of-width.result

-- its length
long : (b : Start) → length (file b) ≡ b.args.to - b.args.from
long b = part_length b.args.s.now b.args.from b.args.to b.requires.from_le_to.1

-- the class of a turn stands at its place, before the end of the store; its number is below 32
class-here : (k : In-loop-i) → ClassFrom (file (goal.at.In-loop-i k).Start) k.loop-i.n k.loop-i.i
class-here k = record { inside = k.loop-i-test.true; rest = k.loop-i.invariant.0 }

class_there : (k : In-loop-i) → ClassThere (file (goal.at.In-loop-i k).Start) k.loop-i.i
class_there k = rows.from_there _ _ _ (class-here k) k.requires.readable.0

inside : (k : In-loop-i) → k.args.from + k.loop-i.i < length k.args.s.now
inside k = omega (arith, k.loop-i-test.true, long (goal.at.In-loop-i k).Start, k.requires.from_le_to.0, k.requires.from_le_to.1)

few : (k : In-loop-i) → k.loop-i.n < 32
few k = exist.own_few _ _ _ k.requires.readable.0 (class-here k)

pub slice_bounds-g-count : goal.slice_bounds-g-count
slice_bounds-g-count c = omega (arith, c.requires.from_le_to)

pub slice_bounds-g-start : goal.slice_bounds-g-start
slice_bounds-g-start c = omega (arith, c.requires.from_le_to)

pub slice_bounds-g-end : goal.slice_bounds-g-end
slice_bounds-g-end c = omega (arith, c.requires.from_le_to)

pub classes_at-i-requires : goal.classes_at-i-requires
classes_at-i-requires c = c.requires.readable.0

pub overflow_add-i : goal.overflow_add-i
overflow_add-i c =
    omega (arith, rows.classes_inside (file (goal.at.overflow_add-i c).Start) c.classes_at-i.result c.requires.readable.0 c.classes_at-i.ensures, long (goal.at.overflow_add-i c).Start, c.requires.from_le_to)

pub loop-i-init : goal.loop-i-init
loop-i-init c = (
  rows.from_start _ _ c.classes_at-i.ensures,
  written.kept_start _ _ _ c.args.depths.now _,
  λ j h. refl,
  refl,
  c.width_of-width.ensures ∙ ap (λ (l : Limits). width_for l.depth) c.limits_of-limits.ensures,
)

pub overflow_add-from : goal.overflow_add-from
overflow_add-from c = omega (arith, inside (goal.at.overflow_add-from c).In-loop-i, c.requires.from_le_to.3)

pub overflow_add-i-in-loop-i : goal.overflow_add-i-in-loop-i
overflow_add-i-in-loop-i c = omega (arith, inside (goal.at.overflow_add-i-in-loop-i c).In-loop-i, c.requires.from_le_to.3)

pub bounds-g-i : goal.bounds-g-i
bounds-g-i c = omega (arith, written.three_inside (file (goal.at.bounds-g-i c).Start) c.loop-i.i (class_there (goal.at.bounds-g-i c).In-loop-i))

pub bounds-depths-n : goal.bounds-depths-n
bounds-depths-n c = omega (arith, few (goal.at.bounds-depths-n c).In-loop-i, c.requires.readable.1.size)

pub keep-requires : goal.keep-requires
keep-requires c =
    let a = c.args in (
      λ h. let x = c.requires.readable.1.fit c.loop-i.n c.loop-i.i c.loop-i.invariant.0.stands (omega (arith, h, c.wide.ensures.0)) in (
        x.0,
        subst (λ (w : ℕ). get_or a.depths.now c.loop-i.n 0 ≤ 2 ^ w) (sym c.loop-i.invariant.4) x.1,
        omega (arith, inside (goal.at.keep-requires c).In-loop-i, c.requires.from_le_to.3),
        field_room a.s.now (width (goal.at.keep-requires c).In-loop-i) c.loop-i.invariant.4 (inside (goal.at.keep-requires c).In-loop-i) (omega (arith, c.requires.from_le_to.2, c.loop-i.invariant.3)),
      ),
      omega (arith, c.loop-i.invariant.4, width_few (store_limits a.s.now).depth),
    )

pub after_class-i-requires : goal.after_class-i-requires
after_class-i-requires c = class_there (goal.at.after_class-i-requires c).In-loop-i

pub overflow_add-n : goal.overflow_add-n
overflow_add-n c = omega (arith, few (goal.at.overflow_add-n c).In-loop-i)

pub loop-i-smaller : goal.loop-i-smaller
loop-i-smaller c =
    let behind = written.after_five (file (goal.at.loop-i-smaller c).Start) c.loop-i.i c.after_class-i.result (class_there (goal.at.loop-i-smaller c).In-loop-i) c.after_class-i.ensures in
    omega (arith, c.loop-i-test.true, behind)

-- field j, where the depth of the turn's class was written with v for its parents; so it is behind the turn
abbrev field : After-keep → ℕ → ℕ → ℕ
field e v j =
    kept_field (width (goal.at.After-keep e).In-loop-i) e.loop-i.t (e.args.from + e.loop-i.i) v (get_or e.args.depths.now e.loop-i.n 0) j

put : (e : After-keep) (j : ℕ) →
    depth_field (width (goal.at.After-keep e).In-loop-i) e.keep.new.t j ≡ field e (get_or (file (goal.at.After-keep e).Start) (e.loop-i.i + 1) 0) j
put e j = e.keep.ensures j ∙ ap (λ (v : ℕ). field e v j) e.wide.ensures.0

pub loop-i-preserved : goal.loop-i-preserved
loop-i-preserved c =
    let a = c.args in
    let fit = subst (λ (w : ℕ). DepthsFit w (file (goal.at.loop-i-preserved c).Start) a.depths.now) (sym c.loop-i.invariant.4) c.requires.readable.1 in (
      rows.from_next _ _ _ _ c.requires.readable.0 (class-here (goal.at.loop-i-preserved c).In-loop-i) c.after_class-i.ensures,
      written.kept_more (width (goal.at.loop-i-preserved c).In-loop-i) (file (goal.at.loop-i-preserved c).Start) a.from _ c.requires.readable.0 fit _ _ _ _ c.loop-i.invariant.0.stands (put (goal.at.loop-i-preserved c).After-keep) c.loop-i.invariant.1,
      λ j h. written.below_more (width (goal.at.loop-i-preserved c).In-loop-i) (file (goal.at.loop-i-preserved c).Start) a.from _ c.requires.readable.0 fit _ _ _ _ c.loop-i.invariant.0.stands (put (goal.at.loop-i-preserved c).After-keep) j h ∙ c.loop-i.invariant.2 j h,
      omega (arith, c.loop-i.invariant.3, c.keep.auto.t),
      c.loop-i.invariant.4,
    )

pub shape_of-t : goal.shape_of-t
shape_of-t c = c.loop-i.invariant.3

pub returns : goal.returns
returns c =
    let a = c.args in
    record {
      file_kept = subst (λ (w : ℕ). FileKept w (file (goal.at.returns c).Start) a.from a.depths.now c.loop-i.t) c.loop-i.invariant.4
          (written.kept_done _ _ _ a.depths.now _ _ _ c.requires.readable.0 c.loop-i.invariant.0.stands c.loop-i-test.false c.loop-i.invariant.1);
      by_index = subst (λ (w : ℕ). (j : ℕ) → j < a.from / 5 → depth_field w c.loop-i.t j ≡ depth_field w a.t.now j) c.loop-i.invariant.4 c.loop-i.invariant.2;
    }
