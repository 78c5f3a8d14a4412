-- `reader::members::skip_indexes` meets its contract: what is left of the list at the cursor decides of the whole. Assumes nothing.
use native.Mathlib.Omega.{arith}
use Prim.Native.Nat.{◌-◌}
use mathlib.Core.Path.{sym, ◌∙◌}
use Rattle.rules.specs.Package.{item}
use Rattle.cursor.proofs.Steps.{said_inside}
use Rattle.cursor.proofs.Counts.{loop_start, loop_next, loop_none, loop_done}
use Rattle.reader.proofs.Formats.{item_none, item_bad, item_stops}
use Rattle.reader.proofs.members.skip_indexes.Goals as goal

pub loop-init : goal.loop-init
loop-init c =
    (c.requires, λ ds e. loop_start (item ds) c.args.count _ (omega arith))

pub returns-in_err-index : goal.returns-in_err-index
returns-in_err-index c =
    λ ds e. rw c.from_residual.ensures (loop_none (item ds) (c.args.count - c.loop.counter) (c.loop.invariant.1 ds e) (omega arith)
    (item_none ds c.in_err-index.ensures))

pub returns-then-not-is_index : goal.returns-then-not-is_index
returns-then-not-is_index c =
    let bad = sym c.is_index.ensures ∙ c.if-not-is_index.true in
    λ ds e. loop_none (item ds) (c.args.count - c.loop.counter) (c.loop.invariant.1 ds e) (omega arith) (item_bad ds c.in_ok-index.ensures e bad)

pub loop-preserved : goal.loop-preserved
loop-preserved c =
    let good = sym c.is_index.ensures ∙ c.if-not-is_index.false in
    let left = c.args.count - c.loop.counter in (
      said_inside c.in_ok-index.ensures,
      λ ds e. loop_next (item ds) left (c.loop.invariant.1 ds e) _ (omega arith) (item_stops ds c.in_ok-index.ensures e good),
    )

pub returns : goal.returns
returns c =
    λ ds e. loop_done (item ds) (c.args.count - c.loop.counter) (c.loop.invariant.1 ds e) (omega arith) c.loop.invariant.0
