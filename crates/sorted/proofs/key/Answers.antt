-- `sorted::key` cuts the AID out behind its length. Assumes nothing.
use Prim.Native.Nat.{ℕ}
use native.Mathlib.Omega.{arith}
use mathlib.Core.Path.{ap}
use lib.ListN.{get_or}
use Rattle.sorted.proofs.Table as table
use Rattle.sorted.proofs.key.Goals as goal
use Rattle.sorted.proofs.key.Goals.{After-key_place-at, Start}

pub bounds-s-at : goal.bounds-s-at
bounds-s-at c =
    omega (arith, c.key_place-at.ensures, c.requires.whole)

pub slice_bounds-result-end : goal.slice_bounds-result-end
slice_bounds-result-end c =
    omega (arith, c.key_place-at.ensures, c.requires.whole, ap (λ (i : ℕ). get_or c.args.s.now i 0) c.key_place-at.ensures, c.wide.ensures.0)

pub returns : goal.returns
returns c =
    table.key_part c.args.s.now c.args.p c.key_place-at.result c.wide.result c.key_place-at.ensures c.wide.ensures.0
