-- `reader::members::skip_handlers` meets its contract: in the second edition a handler takes six bytes. Assumes nothing.
use native.Mathlib.Omega.{arith}
use mathlib.Core.Path.{◌≡◌, ap, ◌∙◌}
use mathlib.Core.Option.{none}
use Rattle.rules.specs.Bytes.{u1, counted}
use Rattle.rules.specs.Package.{most_handlers, edition1, edition2, edition_of, handler, handlers_if}
use Rattle.fields.specs.Editions.{edition_if}
use Rattle.cursor.proofs.Steps.{Leads, said_inside}
use Rattle.cursor.proofs.Counts.{count_none, count_many, count_leads}
use Rattle.reader.proofs.Formats.{wide_handler, wide_span, handlers_absent, handlers_first, handlers_lead}
use Rattle.reader.proofs.members.skip_handlers.Goals as goal
use Rattle.reader.proofs.members.skip_handlers.Goals.{Else-not-is_second}

pub returns-then-not-implemented : goal.returns-then-not-implemented
returns-then-not-implemented c =
    handlers_absent (edition_of c.args.f.now) (c.if-not-implemented.true) c.requires

pub returns-then-not-is_second : goal.returns-then-not-is_second
returns-then-not-is_second c =
    let older : edition_of c.args.f.now ≡ edition1 = c.is_second.ensures ∙ ap edition_if (c.if-not-is_second.true) in
    handlers_first (c.if-not-implemented.false) older c.requires

-- behind both tests: what the counted list says is said of the handlers
counts : (c : Else-not-is_second) → (Leads
    (handlers_if (edition_of c.args.f.now) c.args.implemented) (counted most_handlers u1 handler) c.args.f.now
    c.args.from.at.0 c.args.from.at.0)
counts c =
    let edition : edition_of c.args.f.now ≡ edition2 = c.is_second.ensures ∙ ap edition_if c.if-not-is_second.false in
    handlers_lead c.if-not-implemented.false edition

pub returns-in_err-count : goal.returns-in_err-count
returns-in_err-count c =
    rw c.from_residual.ensures (counts (goal.at.returns-in_err-count c).Else-not-is_second none (count_none most_handlers handler c.in_err-count.ensures))

pub returns-then-count-gt-MOST_HANDLERS : goal.returns-then-count-gt-MOST_HANDLERS
returns-then-count-gt-MOST_HANDLERS c =
    counts (goal.at.returns-then-count-gt-MOST_HANDLERS c).Else-not-is_second none (count_many most_handlers handler c.in_ok-count.ensures (omega arith))

pub skip-requires : goal.skip-requires
skip-requires c =
    said_inside c.in_ok-count.ensures

pub returns : goal.returns
returns c =
    let list = wide_span (wide_handler c.args.f.now) c.in_ok-count.count c.in_ok-count.first.at.0 (said_inside c.in_ok-count.ensures) _ c.skip.ensures in
    counts (goal.at.returns c).Else-not-is_second _ (count_leads most_handlers handler c.in_ok-count.ensures (omega arith) _ list)
