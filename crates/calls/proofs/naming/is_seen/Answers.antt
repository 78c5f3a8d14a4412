-- `calls::naming::is_seen` meets its contract. Assumes nothing.
use Rattle.calls.proofs.Forms as forms
use Rattle.calls.proofs.naming.is_seen.Goals as goal

pub returns-then-outside : goal.returns-then-outside
returns-then-outside c = forms.seen_outside c.if-outside.true c.is_visible.ensures

pub returns : goal.returns
returns c = forms.seen_own c.if-outside.false
