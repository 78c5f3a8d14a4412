-- `reader::skip_classes` meets its contract: what is left of the list at the cursor decides of the whole. Assumes nothing.
use native.Mathlib.Omega.{arith}
use Prim.Native.Nat.{◌-◌}
use mathlib.Core.Option.{none}
use Rattle.rules.specs.Package.{Format, format_of, most_classes, class}
use Rattle.cursor.specs.Limits.{limits_of}
use Rattle.cursor.proofs.Steps.{said_inside}
use Rattle.cursor.proofs.Counts.{count_none, count_many, count_leads, loop_start, loop_next, loop_none, loop_done}
use Rattle.reader.proofs.Formats.{inside_any}
use Rattle.reader.proofs.skip_classes.Goals as goal
use Rattle.reader.proofs.skip_classes.Goals.{Start}

-- the format of the file
abbrev format : Start → Format
format start = format_of (limits_of start.args.limits) start.args.f.now

pub returns-in_err-count : goal.returns-in_err-count
returns-in_err-count c =
    λ ds e. rw c.from_residual.ensures (count_none most_classes (class (format (goal.at.returns-in_err-count c).Start) ds) c.in_err-count.ensures)

pub returns-then-count-gt-MOST_CLASSES : goal.returns-then-count-gt-MOST_CLASSES
returns-then-count-gt-MOST_CLASSES c =
    λ ds e. count_many most_classes (class (format (goal.at.returns-then-count-gt-MOST_CLASSES c).Start) ds) c.in_ok-count.ensures (omega arith)

pub loop-init : goal.loop-init
loop-init c =
    (said_inside c.in_ok-count.ensures, λ ds e. loop_start (class (format (goal.at.loop-init c).Start) ds) c.in_ok-count.count _ (omega arith))

pub returns-in_err-c : goal.returns-in_err-c
returns-in_err-c c =
    let t = format (goal.at.returns-in_err-c c).Start in
    λ ds e. rw c.from_residual-in_err-c.ensures (
    let bad = loop_none (class t ds) (c.in_ok-count.count - c.loop.counter) (c.loop.invariant.1 ds e) (omega arith)
    (c.in_err-c.ensures ds e) in
    count_leads most_classes (class t ds) c.in_ok-count.ensures (omega arith) none bad)

pub loop-preserved : goal.loop-preserved
loop-preserved c =
    let t = format (goal.at.loop-preserved c).Start in (
      inside_any {r = class t} c.args.domains c.in_ok-c.ensures,
      λ ds e. loop_next (class t ds) (c.in_ok-count.count - c.loop.counter) (c.loop.invariant.1 ds e) _ (omega arith) (c.in_ok-c.ensures ds e),
    )

pub returns : goal.returns
returns c =
    let t = format (goal.at.returns c).Start in
    λ ds e.
    let done = loop_done (class t ds) (c.in_ok-count.count - c.loop.counter) (c.loop.invariant.1 ds e) (omega arith) c.loop.invariant.0 in
    count_leads most_classes (class t ds) c.in_ok-count.ensures (omega arith) _ done
