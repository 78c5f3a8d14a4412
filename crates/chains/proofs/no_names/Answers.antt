-- `chains::no_names` meets its contract: no home of a stored class is kept. Assumes nothing.
use Rattle.homes.specs.declared.Home.{Home}
use mathlib.Core.Path.{refl, ap}
use Rattle.chains.proofs.no_names.Goals as goal

pub returns : goal.returns
returns c = (refl, ap (λ (b : Home). b.from) c.own_home.ensures)
