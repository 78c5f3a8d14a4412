-- `coverage::lists_loading` meets its contract: by the bit, or by looking. Assumes nothing.
use mathlib.Core.Path.{sym, ◌∙◌}
use Rattle.coverage.proofs.Looked as looked
use Rattle.coverage.proofs.lists_loading.Goals as goal

pub returns-then-has_bit : goal.returns-then-has_bit
returns-then-has_bit c =
    let a = c.args in
    looked.loading_bit a.g.now a.other.now a.domain.now a.l a.x a.m a.row.now
    (sym c.has_bit.ensures ∙ c.if-has_bit.true)

pub lists_kept-requires : goal.lists_kept-requires
lists_kept-requires c = record { list_over = c.requires.list_over; has_places = c.requires.has_places }

pub returns : goal.returns
returns c =
    let a = c.args in
    looked.loading_looked a.g.now a.other.now a.domain.now a.l a.x a.m a.row.now c.lists_kept.ensures
