-- `bits::power` meets its contract. Assumes nothing.
use mathlib.Core.Path.{refl}
use Rattle.bits.specs.Bits.{power_of}
use Rattle.bits.proofs.Bits.{power_pos}
use Rattle.bits.proofs.power.Goals as goal

pub returns : goal.returns
unfolding power_of
returns c = (refl, power_pos c.args.k c.requires)
