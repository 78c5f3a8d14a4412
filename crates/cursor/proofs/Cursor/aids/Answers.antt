-- `cursor::Cursor::aids` meets its contract: what is left of the list at the cursor decides of the whole. Assumes nothing.
use native.Mathlib.Omega.{arith}
use Rattle.std.specs.Prelude.{◌-◌}
use mathlib.Core.Option.{none, some}
use Rattle.rules.specs.Bytes.{aid}
use Rattle.cursor.proofs.Steps.{said_inside, stop_of, stop_none, none_said}
use Rattle.cursor.proofs.Counts.{count_none, count_many, count_leads, count_says, loop_start, loop_next, loop_none, loop_done}
use Rattle.cursor.proofs.Cursor.aids.Goals as goal

pub returns-in_err-count : goal.returns-in_err-count
returns-in_err-count c =
    rw c.from_residual.ensures (none_said (count_none c.args.most aid c.in_err-count.ensures))

pub returns-then-most-count : goal.returns-then-most-count
returns-then-most-count c = none_said (count_many c.args.most aid c.in_ok-count.ensures (omega arith))

pub loop-init : goal.loop-init
loop-init c = (said_inside c.in_ok-count.ensures, loop_start aid c.in_ok-count.count _ (omega arith))

pub returns-in_err-next : goal.returns-in_err-next
returns-in_err-next c =
    let left = c.in_ok-count.count - c.loop.counter in
    let bad = loop_none aid left c.loop.invariant.1 (omega arith) (stop_none c.in_err-next.ensures) in
    rw c.from_residual-in_err-next.ensures (none_said (count_leads c.args.most aid c.in_ok-count.ensures (omega arith) none bad))

pub loop-preserved : goal.loop-preserved
loop-preserved c =
    let left = c.in_ok-count.count - c.loop.counter in
    (said_inside c.in_ok-next.ensures, loop_next aid left c.loop.invariant.1 _ (omega arith) (stop_of c.in_ok-next.ensures))

pub returns : goal.returns
returns c =
    let left = c.in_ok-count.count - c.loop.counter in
    let done = loop_done aid left c.loop.invariant.1 (omega arith) c.loop.invariant.0 in
    count_says c.args.most aid c.in_ok-count.ensures (count_leads c.args.most aid c.in_ok-count.ensures (omega arith) (some c.loop.c.at.0) done)
