-- `loader::loader_fresh` keeps its promise. Assumes nothing.
use mathlib.Core.Path.{◌∙◌}
use Rattle.loader.proofs.loader_fresh.Goals as goal

pub returns : goal.returns
returns c = record { value = c.number_told.ensures ∙ c.fresh_on.ensures.value; store_after = c.fresh_on.ensures.store_after }
