-- `instructions::subset::barred` meets its contract: the set is tested once over all 256 opcodes, by computation. Assumes nothing.
use mathlib.Core.Path.{refl}
use Rattle.rules.specs.Subset.{barred_opcode}
use Rattle.rules.specs.Table.{length_table}
use Rattle.bits.specs.Bits.{power_of, bit_at}
use Rattle.instructions.proofs.Barred.{right_bit, set_carried}
use Rattle.instructions.proofs.subset.barred.Goals as goal

pub returns : goal.returns
unfolding right_bit bit_at power_of barred_opcode length_table
returns c = (set_carried _ tt, refl)
