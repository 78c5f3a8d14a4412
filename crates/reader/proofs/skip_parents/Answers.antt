-- `reader::skip_parents` meets its contract: a parent takes two bytes. Assumes nothing.
use native.Mathlib.Omega.{arith}
use mathlib.Core.Option.{none}
use Rattle.rules.specs.Package.{class_number}
use Rattle.cursor.proofs.Steps.{said_inside}
use Rattle.cursor.proofs.Counts.{count_none, count_many, count_leads}
use Rattle.cursor.proofs.Widths.{wide_reads, wide_ends}
use Rattle.reader.proofs.Formats.{wide_number}
use Rattle.reader.proofs.skip_parents.Goals as goal

pub returns-in_err-count : goal.returns-in_err-count
returns-in_err-count c =
    rw c.from_residual.ensures (count_none c.args.most class_number c.in_err-count.ensures)

pub returns-then-most-count : goal.returns-then-most-count
returns-then-most-count c =
    count_many c.args.most class_number c.in_ok-count.ensures (omega arith)

pub overflow_sub-f : goal.overflow_sub-f
overflow_sub-f c =
    let inside = said_inside c.in_ok-count.ensures in
    omega arith

pub returns-then-f-at : goal.returns-then-f-at
returns-then-f-at c =
    let inside = said_inside c.in_ok-count.ensures in
    count_leads c.args.most class_number c.in_ok-count.ensures (omega arith) none
    (wide_ends (wide_number c.args.f.now) c.in_ok-count.count c.in_ok-count.first.at.0 inside (omega arith))

pub returns : goal.returns
returns c =
    let inside = said_inside c.in_ok-count.ensures in
    rw c.new.ensures (count_leads c.args.most class_number c.in_ok-count.ensures (omega arith) _
    (wide_reads (wide_number c.args.f.now) c.in_ok-count.count c.in_ok-count.first.at.0 (omega arith)))
