-- `policies::slot` meets its contract: FE has a slot of its own. Assumes nothing.
use mathlib.Core.Path.{sym}
use Rattle.policies.proofs.Slots as slots
use Rattle.policies.proofs.slot.Goals as goal

pub returns-then-i-eq254 : goal.returns-then-i-eq254
returns-then-i-eq254 c = sym (slots.slot_own c.args.i c.if-i-eq254.true)

pub returns : goal.returns
returns c = sym (slots.slot_domain c.args.i c.if-i-eq254.false)
