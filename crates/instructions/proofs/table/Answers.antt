-- `instructions::table` meets its contract: the rule is tested once over the whole table, by computation. Assumes nothing.
use mathlib.Core.Path.{refl}
use Rattle.rules.specs.Code.{length_of}
use Rattle.instructions.specs.Table.{switch_of, branch_bytes}
use Rattle.instructions.proofs.Rule.{right, right_form, is_plain, carried}
use Rattle.instructions.proofs.table.Goals as goal

pub returns : goal.returns
unfolding right right_form is_plain switch_of branch_bytes length_of
returns c = carried _ refl tt
