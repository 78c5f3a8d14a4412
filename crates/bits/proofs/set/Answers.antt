-- `bits::set` meets its contract. Assumes nothing.
use Rattle.bits.proofs.Bits.{set_case}
use Rattle.bits.proofs.set.Goals as goal

pub returns : goal.returns
returns c =
    λ j. let a = c.args in set_case a.s.now a.i c.power-p.result c.power-p.ensures.0 c.requires j
