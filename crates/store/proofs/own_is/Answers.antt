-- `store::own_is` compares the AID at place 8 of a file. Assumes nothing.
use Rattle.store.specs.Entries.{part}
use Rattle.rules.specs.Bytes.{same}
use Prim.Native.Nat.{ℕ, ◌+◌, ◌≤◌}
use lib.ListN.{length}
use mathlib.Core.Path.{ap, ◌∙◌}
use native.Mathlib.Omega.{arith}
use Rattle.store.proofs.own_is.Goals as goal
use Rattle.store.proofs.own_is.Goals.{After-wide-end}

ends : (k : After-wide-end) → 8 + k.wide-end.result ≤ length k.args.f.now
ends k = omega (arith, k.requires.1, k.wide-end.ensures.0)

pub bounds-f-7 : goal.bounds-f-7
bounds-f-7 c = c.requires.0

pub overflow_add-end : goal.overflow_add-end
overflow_add-end c = omega (arith, ends c)

pub slice_bounds-same_bytes-count : goal.slice_bounds-same_bytes-count
slice_bounds-same_bytes-count c = omega (arith, ends c)

pub slice_bounds-same_bytes-start : goal.slice_bounds-same_bytes-start
slice_bounds-same_bytes-start c = omega (arith, ends c)

pub slice_bounds-same_bytes-end : goal.slice_bounds-same_bytes-end
slice_bounds-same_bytes-end c = omega (arith, ends c)

pub returns : goal.returns
returns c =
    let a = c.args in
    c.same_bytes.ensures ∙ ap (λ (n : ℕ). same a.aid.now (part a.f.now 8 (8 + n))) c.wide-end.ensures.0
