-- `instructions::numbers_from` meets its contract: the difference of the biased fields and one more, none where low is above high. Assumes nothing.
use native.Mathlib.Omega.{arith}
use mathlib.Core.Path.{◌≡◌, ap, ◌∙◌}
use mathlib.Core.Option.{some}
use Rattle.rules.proofs.Signed.{bias, numbers_some, numbers_none}
use Rattle.instructions.proofs.numbers_from.Goals as goal
use Rattle.instructions.proofs.numbers_from.Goals.{After-biased-l, Start}

pub overflow_add-result : goal.overflow_add-result
overflow_add-result c = omega arith

pub returns-then-l-h : goal.returns-then-l-h
unfolding bias
returns-then-l-h c =
    let a = c.args in
    let l : c.biased-l.result ≡ bias a.half a.low = c.biased-l.ensures.0 in
    let h : c.biased-h.result ≡ bias a.half a.high = c.biased-h.ensures.0 in (
      numbers_some a.half a.low a.high c.requires.0 c.requires.1 (omega arith) ∙ ap some (omega arith),
      omega arith,
    )

pub returns-else-l-h : goal.returns-else-l-h
unfolding bias
returns-else-l-h c =
    let a = c.args in
    let l : c.biased-l.result ≡ bias a.half a.low = c.biased-l.ensures.0 in
    let h : c.biased-h.result ≡ bias a.half a.high = c.biased-h.ensures.0 in
    (numbers_none a.half a.low a.high c.requires.0 c.requires.1 (omega arith), tt)
