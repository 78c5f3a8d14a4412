-- `judge::contents::subset_ok` meets its contract: yes where 26 is not asked. Assumes nothing.
use mathlib.Core.Path.{sym, ap, ◌∙◌}
use mathlib.Core.Bool.{Bool, ◌||◌, not}
use Rattle.rules.specs.Subset.{code_without_int}
use Rattle.rules.specs.Questions.{all_codes}
use Rattle.judge.proofs.contents.subset_ok.Goals as goal

pub returns-then-not-asked : goal.returns-then-not-asked
returns-then-not-asked c =
    let a = c.args in
    λ l p e. sym (ap (λ (b : Bool). not b || all_codes code_without_int p) (c.if-not-asked.true))

pub file_keeps-requires : goal.file_keeps-requires
file_keeps-requires c =
    (c.requires, c.table-table.ensures)

pub returns : goal.returns
returns c =
    let a = c.args in
    λ l p e. c.file_keeps.ensures l p e ∙ sym (ap (λ (b : Bool). not b || all_codes code_without_int p) (c.if-not-asked.false))
