-- `files::after_aid` meets its contract: an AID ends that many bytes after its length. Assumes nothing.
use native.Mathlib.Omega.{arith}
use Rattle.files.proofs.Steps as steps
use Rattle.files.proofs.after_aid.Goals as goal

pub overflow_add-result : goal.overflow_add-result
overflow_add-result c = omega (arith, steps.aid_in c.requires)

pub bounds-s-at : goal.bounds-s-at
bounds-s-at c = omega (arith, steps.aid_in c.requires)

pub overflow_add-result-2 : goal.overflow_add-result-2
overflow_add-result-2 c =
    let pre = c.requires in
    omega (arith, steps.aid_in pre, c.wide.ensures.0)

pub returns : goal.returns
returns c = rw c.wide.ensures.0 steps.aid_next
