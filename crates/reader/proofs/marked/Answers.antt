-- `reader::marked` meets its contract: the first five bytes are compared, if there are five. Assumes nothing.
use native.Mathlib.Omega.{arith}
use mathlib.Core.Path.{sym}
use lib.Seq.{length-take-le}
use Rattle.reader.proofs.Files.{mark_short, mark_first, mark_second}
use Rattle.reader.proofs.marked.Goals as goal

pub returns-then-f-lt5 : goal.returns-then-f-lt5
returns-then-f-lt5 c =
    mark_short c.args.f.now (omega arith)

pub slice_bounds-same_bytes-end : goal.slice_bounds-same_bytes-end
slice_bounds-same_bytes-end c =
    sym (length-take-le 5 c.args.f.now (omega arith))

pub returns-then-same_bytes : goal.returns-then-same_bytes
returns-then-same_bytes c =
    mark_first c.args.f.now c.same_bytes.ensures c.if-same_bytes.true

pub returns : goal.returns
returns c =
    mark_second c.args.f.now c.same_bytes.ensures c.if-same_bytes.false c.same_bytes-2.ensures
