-- `reader::read_package` meets its contract: the mark, then what follows it. Assumes nothing.
use mathlib.Core.Path.{sym, ◌∙◌}
use Rattle.reader.proofs.Files.{unmarked, package_read}
use Rattle.reader.proofs.read_package.Goals as goal

pub returns-then-not-marked : goal.returns-then-not-marked
returns-then-not-marked c =
    unmarked (sym c.marked.ensures ∙ c.if-not-marked.true)

pub returns : goal.returns
returns c =
    rw c.ok_or.ensures.value (package_read (sym c.marked.ensures ∙ c.if-not-marked.false) c.read_layout.result c.read_layout.ensures)
