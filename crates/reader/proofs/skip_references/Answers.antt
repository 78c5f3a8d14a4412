-- `reader::skip_references` meets its contract: a reference takes four bytes. Assumes nothing.
use native.Mathlib.Omega.{arith}
use Rattle.rules.specs.Package.{most_references, reference}
use Rattle.cursor.proofs.Steps.{said_inside}
use Rattle.cursor.proofs.Counts.{count_none, count_many, count_leads}
use Rattle.reader.proofs.Formats.{wide_reference, wide_span}
use Rattle.reader.proofs.skip_references.Goals as goal

pub returns-in_err-count : goal.returns-in_err-count
returns-in_err-count c =
    rw c.from_residual.ensures (count_none most_references reference c.in_err-count.ensures)

pub returns-then-count-gt-MOST_REFERENCES : goal.returns-then-count-gt-MOST_REFERENCES
returns-then-count-gt-MOST_REFERENCES c =
    count_many most_references reference c.in_ok-count.ensures (omega arith)

pub skip-requires : goal.skip-requires
skip-requires c = said_inside c.in_ok-count.ensures

pub returns : goal.returns
returns c =
    let list = wide_span (wide_reference c.args.f.now) c.in_ok-count.count c.in_ok-count.first.at.0 (said_inside c.in_ok-count.ensures) _ c.skip.ensures in
    count_leads most_references reference c.in_ok-count.ensures (omega arith) _ list
