-- `slots::home_in` meets its contract: three numbers. Assumes nothing.
use Rattle.slots.proofs.Slots as laws
use Rattle.slots.proofs.home_in.Goals as goal

pub returns : goal.returns
returns c =
    laws.home_is _ _ c.from.ensures c.from-2.ensures c.from-3.ensures
