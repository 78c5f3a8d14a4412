-- `references::kept::keep_meant` meets its contract: the mark of the declaration, and six numbers. Assumes nothing.
use mathlib.Core.Path.{◌∙◌, ap}
use Rattle.references.specs.Kept.{with_row}
use Rattle.references.proofs.kept.keep_meant.Goals as goal

pub keep_row-requires : goal.keep_row-requires
keep_row-requires c =
    (c.requires.0, c.requires.1, c.requires.2.home, c.requires.2.class, c.requires.2.method)

pub returns : goal.returns
returns c =
    let a = c.args in
    c.keep_row.ensures ∙ ap (with_row a.table.now _ a.x.home a.x.class a.x.method) c.mark_of.ensures.0
