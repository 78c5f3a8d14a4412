-- `loader::loader_create_without_int` keeps its promise. Assumes nothing.
use mathlib.Core.Path.{◌∙◌}
use Rattle.loader.proofs.loader_create_without_int.Goals as goal

pub returns : goal.returns
returns c = record { value = c.number_told.ensures ∙ c.create_on.ensures.value; store_after = c.create_on.ensures.store_after }
