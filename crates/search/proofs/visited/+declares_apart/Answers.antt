-- `search::visited::declares_apart` meets its contract, as `declares` does: it never calls itself, since no store is that long. Assumes nothing.
use native.Mathlib.Omega.{arith}
use Rattle.search.proofs.visited.+declares_apart.Goals as goal

pub declares_apart-requires : goal.declares_apart-requires
declares_apart-requires t c = absurd (omega (arith, c.if-s-gt65535.true, c.requires.1))
