-- `store::openings::limits_at` meets its contract. Assumes nothing.
use native.Mathlib.Omega.{arith}
use Rattle.store.proofs.Opened as opened
use Rattle.store.proofs.openings.limits_at.Goals as goal

pub bounds-s-7 : goal.bounds-s-7
bounds-s-7 c = omega arith

pub bounds-s-8 : goal.bounds-s-8
bounds-s-8 c = omega arith

pub u2_at-requires : goal.u2_at-requires
u2_at-requires c = omega arith

pub returns : goal.returns
returns c =
    opened.limits_same c.wide.ensures.0 c.wide-2.ensures.0 c.u2_at.ensures.0
