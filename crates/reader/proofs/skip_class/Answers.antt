-- `reader::skip_class` meets its contract: by each of its parts. Assumes nothing.
use native.Mathlib.Omega.{arith}
use Rattle.rules.specs.Package.{Format, format_of}
use Rattle.cursor.specs.Limits.{limits_of}
use Rattle.reader.proofs.Formats.{class_none, class_kind, class_parents_none, class_leads}
use Rattle.reader.proofs.skip_class.Goals as goal
use Rattle.reader.proofs.skip_class.Goals.{Start}

-- the format of the file
abbrev format : Start → Format
format start = format_of (limits_of start.args.limits) start.args.f.now

pub returns-in_err-kind : goal.returns-in_err-kind
returns-in_err-kind c =
    λ ds e. rw c.from_residual.ensures (class_none (format (goal.at.returns-in_err-kind c).Start) ds c.in_err-kind.ensures)

pub returns-then-kind-gt1 : goal.returns-then-kind-gt1
returns-then-kind-gt1 c =
    λ ds e. class_kind (format (goal.at.returns-then-kind-gt1 c).Start) ds c.in_ok-kind.ensures (omega arith)

pub returns-in_err-methods : goal.returns-in_err-methods
returns-in_err-methods c =
    let t = format (goal.at.returns-in_err-methods c).Start in
    λ ds e. rw c.from_residual-in_err-methods.ensures (class_parents_none t ds c.in_ok-kind.ensures (omega arith) c.in_err-methods.ensures)

pub returns : goal.returns
returns c =
    λ ds e. class_leads (format (goal.at.returns c).Start) ds c.in_ok-kind.ensures (omega arith) c.in_ok-methods.ensures _
    (c.skip_methods.ensures ds e)
