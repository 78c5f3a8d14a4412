-- `reader::read_layout` meets its contract: size, contents, and nothing left over. Assumes nothing.
use native.Mathlib.Omega.{arith}
use mathlib.Core.Option.{none}
use mathlib.Core.Path.{refl}
use Rattle.rules.specs.Package.{Format, format_of}
use Rattle.cursor.specs.Limits.{limits_of}
use Rattle.reader.proofs.Files.{size_none, size_other, size_leads, size_ends, file_none, file_left, file_reads, layout_none, layout_read}
use Rattle.reader.proofs.read_layout.Goals as goal
use Rattle.reader.proofs.read_layout.Goals.{Start}

-- the format of the file
abbrev format : Start → Format
format start = format_of (limits_of start.args.limits) start.args.f.now

pub returns-in_err-size : goal.returns-in_err-size
returns-in_err-size c =
    let t = format (goal.at.returns-in_err-size c).Start in
    rw c.from_residual.ensures (layout_none (file_none t.limits (size_none t (rw c.new.ensures at c.in_err-size.ensures))))

pub returns-then-size-f : goal.returns-then-size-f
returns-then-size-f c =
    let t = format (goal.at.returns-then-size-f c).Start in
    let size = rw c.new.ensures at c.in_ok-size.ensures in
    layout_none (file_none t.limits (size_other t size (λ z. omega arith)))

pub returns-in_err-places : goal.returns-in_err-places
returns-in_err-places c =
    let t = format (goal.at.returns-in_err-places c).Start in
    let size = rw c.new.ensures at c.in_ok-size.ensures in
    rw c.from_residual-in_err-places.ensures (layout_none (file_none t.limits (size_leads t size (omega arith) none c.in_err-places.ensures.stops)))

pub returns-then-end-f : goal.returns-then-end-f
returns-then-end-f c =
    let t = format (goal.at.returns-then-end-f c).Start in
    let size = rw c.new.ensures at c.in_ok-size.ensures in
    let contents = size_leads t size (omega arith) _ c.in_ok-places.ensures.stops in
    layout_none (file_left t.limits contents (omega arith))

pub returns : goal.returns
returns c =
    let t = format (goal.at.returns c).Start in
    let size = rw c.new.ensures at c.in_ok-size.ensures in
    let contents = size_leads t size (omega arith) _ c.in_ok-places.ensures.stops in
    let stand = c.in_ok-places.ensures.stand (c.in_ok-places.places, c.in_ok-places.end) refl in
    layout_read (file_reads t.limits contents (omega arith)) c.in_ok-places.places (rw (size_ends t size) at stand)
