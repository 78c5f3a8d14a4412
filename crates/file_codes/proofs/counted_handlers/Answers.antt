-- `file_codes::counted_handlers` meets its contract: the part of six bytes for each that are counted. Assumes nothing.
use Prim.Native.Nat.{ℕ, ◌+◌, ◌-◌, ◌*◌}
use native.Mathlib.Omega.{arith}
use mathlib.Core.Path.{◌≡◌, ap}
use lib.ListN.{take, drop, get_or}
use Rattle.file_codes.proofs.counted_handlers.Goals as goal

pub bounds-f-at : goal.bounds-f-at
bounds-f-at c = omega (arith, c.requires.0)

pub overflow_mul-n : goal.overflow_mul-n
overflow_mul-n c = omega (arith, c.wide-n.ensures.1)

pub overflow_add-result : goal.overflow_add-result
overflow_add-result c = omega (arith, c.requires.0)

pub overflow_add-result-2 : goal.overflow_add-result-2
overflow_add-result-2 c = omega (arith, c.requires.0)

pub overflow_add-result-3 : goal.overflow_add-result-3
overflow_add-result-3 c = omega (arith, c.requires.1, c.wide-n.ensures.0)

pub slice_bounds-result-count : goal.slice_bounds-result-count
slice_bounds-result-count c = omega arith

pub slice_bounds-result-start : goal.slice_bounds-result-start
slice_bounds-result-start c = omega arith

pub slice_bounds-result-end : goal.slice_bounds-result-end
slice_bounds-result-end c = omega (arith, c.requires.1, c.wide-n.ensures.0)

pub returns : goal.returns
returns c =
    let s = c.args.f.now in
    let at = c.args.at in
    let n : at + 1 + 6 * c.wide-n.result - (at + 1) ≡ 6 * get_or s at 0 = omega (arith, c.wide-n.ensures.0) in
    ap (λ (k : ℕ). take k (drop (at + 1) s)) n
