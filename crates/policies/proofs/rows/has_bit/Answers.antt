-- `policies::rows::has_bit` meets its contract. Assumes nothing.
use mathlib.Core.Path.{refl}
use Rattle.policies.specs.Rows.{has_bit}
use Rattle.policies.proofs.rows.has_bit.Goals as goal

pub returns : goal.returns
unfolding has_bit
returns c = refl
