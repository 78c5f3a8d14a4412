-- `slots::put_home` meets its contract: three numbers. Assumes nothing.
use native.Mathlib.Omega.{arith}
use lib.ListN.{length-set}
use Rattle.slots.proofs.put_home.Goals as goal

pub bounds-slots-at-2 : goal.bounds-slots-at-2
bounds-slots-at-2 c = simp length-set (omega arith)

pub bounds-slots-at-3 : goal.bounds-slots-at-3
bounds-slots-at-3 c = simp length-set (omega arith)
