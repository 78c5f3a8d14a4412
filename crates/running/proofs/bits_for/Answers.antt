-- `running::bits_for` meets its contract: they stay, or are cleared. Assumes nothing.
use mathlib.Core.Path.{refl, sym, subst}
use Rattle.running.specs.Walk.{BitsFor}
use Rattle.running.proofs.bits_for.Goals as goal

pub returns-then-alike : goal.returns-then-alike
returns-then-alike c = subst (BitsFor _ _ c.args.end) (sym c.if-alike.true) refl

pub returns : goal.returns
returns c =
    subst (BitsFor _ _ c.args.end) (sym c.if-alike.false) c.clear_to.ensures
