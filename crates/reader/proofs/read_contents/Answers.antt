-- `reader::read_contents` meets its contract: by each of its parts. Assumes nothing.
use mathlib.Core.Option.{none}
use Rattle.rules.specs.Package.{Format, format_of}
use Rattle.cursor.specs.Limits.{limits_of}
use Rattle.cursor.proofs.Steps.{stop_of}
use Rattle.reader.proofs.Files.{named_none, domains_none, imports_none, references_none, contents_stop, contents_bad, contents_are}
use Rattle.reader.proofs.read_contents.Goals as goal
use Rattle.reader.proofs.read_contents.Goals.{Start}

-- the format of the file
abbrev format : Start → Format
format start = format_of (limits_of start.args.limits) start.args.f.now

pub returns-in_err-domains : goal.returns-in_err-domains
returns-in_err-domains c =
    rw c.from_residual.ensures (contents_bad (named_none (format (goal.at.returns-in_err-domains c).Start) c.in_err-domains.ensures))

pub returns-in_err-count : goal.returns-in_err-count
returns-in_err-count c =
    rw c.from_residual-in_err-count.ensures (contents_bad
    (domains_none (format (goal.at.returns-in_err-count c).Start) c.in_ok-domains.ensures c.in_err-count.ensures))

pub returns-in_err-references : goal.returns-in_err-references
returns-in_err-references c =
    let t = format (goal.at.returns-in_err-references c).Start in
    rw c.from_residual-in_err-references.ensures (contents_bad
    (imports_none t c.in_ok-domains.ensures c.in_ok-count.ensures c.in_err-references.ensures))

pub returns-in_err-classes : goal.returns-in_err-classes
returns-in_err-classes c =
    let t = format (goal.at.returns-in_err-classes c).Start in
    rw c.from_residual-in_err-classes.ensures (contents_bad
    (references_none t c.in_ok-domains.ensures c.in_ok-count.ensures c.in_ok-references.ensures c.in_err-classes.ensures))

pub returns-in_err-end : goal.returns-in_err-end
returns-in_err-end c =
    let t = format (goal.at.returns-in_err-end c).Start in
    rw c.from_residual-in_err-end.ensures (contents_bad
    (contents_stop t c.in_ok-domains.ensures c.in_ok-count.ensures c.in_ok-references.ensures c.in_ok-classes.ensures none c.in_err-end.ensures))

pub returns : goal.returns
returns c =
    let named = c.in_ok-domains.ensures in
    let domains = c.in_ok-count.ensures in
    let imports = c.in_ok-references.ensures in
    let references = c.in_ok-classes.ensures in
    contents_are _ (contents_stop (format (goal.at.returns c).Start) named domains imports references _ c.in_ok-end.ensures)
    (record { named = stop_of named; domains = stop_of domains; imports = stop_of imports; references = references })
