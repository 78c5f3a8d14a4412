-- `files::aid_bytes` meets its contract: the part between the length and the end. Assumes nothing.
use native.Mathlib.Omega.{arith}
use Rattle.files.proofs.Steps as steps
use Rattle.files.proofs.aid_bytes.Goals as goal

pub after_aid-e-requires : goal.after_aid-e-requires
after_aid-e-requires c = c.requires

pub overflow_add-result : goal.overflow_add-result
overflow_add-result c = omega (
  arith,
  (steps.aid_bytes c.after_aid-e.ensures c.requires.2).0,
  (steps.aid_bytes c.after_aid-e.ensures c.requires.2).1,
)

pub slice_bounds-result-count : goal.slice_bounds-result-count
slice_bounds-result-count c = omega (
  arith,
  (steps.aid_bytes c.after_aid-e.ensures c.requires.2).0,
  (steps.aid_bytes c.after_aid-e.ensures c.requires.2).1,
)

pub slice_bounds-result-start : goal.slice_bounds-result-start
slice_bounds-result-start c = omega (
  arith,
  (steps.aid_bytes c.after_aid-e.ensures c.requires.2).0,
  (steps.aid_bytes c.after_aid-e.ensures c.requires.2).1,
)

pub slice_bounds-result-end : goal.slice_bounds-result-end
slice_bounds-result-end c = omega (
  arith,
  (steps.aid_bytes c.after_aid-e.ensures c.requires.2).0,
  (steps.aid_bytes c.after_aid-e.ensures c.requires.2).1,
)

pub returns : goal.returns
returns c = λ a j p. (steps.aid_bytes c.after_aid-e.ensures p).2
