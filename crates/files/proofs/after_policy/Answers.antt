-- `files::after_policy` meets its contract: FF stands alone, a count is followed by that many indexes. Assumes nothing.
use native.Mathlib.Omega.{arith}
use mathlib.Core.Path.{sym, ◌∙◌}
use Rattle.files.proofs.Steps as steps
use Rattle.files.proofs.after_policy.Goals as goal

pub bounds-s-at : goal.bounds-s-at
bounds-s-at c = omega (arith, steps.policy_in c.requires)

pub overflow_add-result : goal.overflow_add-result
overflow_add-result c =
    let pre = c.requires in
    omega (arith, steps.policy_in pre)

pub returns-then-n-eq255 : goal.returns-then-n-eq255
returns-then-n-eq255 c = steps.policy_every (sym c.wide-n.ensures.0 ∙ c.if-n-eq255.true)

pub overflow_add-result-2 : goal.overflow_add-result-2
overflow_add-result-2 c =
    let pre = c.requires in
    omega (arith, steps.policy_in pre)

pub overflow_add-result-3 : goal.overflow_add-result-3
overflow_add-result-3 c =
    let pre = c.requires in
    omega (arith, steps.policy_to (λ e. c.if-n-eq255.false (c.wide-n.ensures.0 ∙ e)) pre, c.wide-n.ensures.0)

pub returns : goal.returns
returns c = rw c.wide-n.ensures.0 (steps.policy_only (λ e. c.if-n-eq255.false (c.wide-n.ensures.0 ∙ e)))
