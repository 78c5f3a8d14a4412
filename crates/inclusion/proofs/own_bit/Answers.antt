-- `inclusion::own_bit` meets its contract: the bit behind the domains only where both domains are the same. Assumes nothing.
use mathlib.Core.Path.{◌∙◌, sym}
use Rattle.inclusion.proofs.own_bit.Goals as goal

pub returns-then-same_bytes : goal.returns-then-same_bytes
returns-then-same_bytes c = let e = sym c.same_bytes.ensures ∙ c.if-same_bytes.true in rw e

pub returns : goal.returns
returns c = let e = sym c.same_bytes.ensures ∙ c.if-same_bytes.false in rw e
