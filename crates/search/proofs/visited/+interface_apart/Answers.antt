-- `search::visited::interface_apart` meets its contract, as `interface_at` does: it never calls itself, since no store is that long. Assumes nothing.
use native.Mathlib.Omega.{arith}
use Rattle.search.proofs.visited.+interface_apart.Goals as goal

pub interface_apart-w-requires : goal.interface_apart-w-requires
interface_apart-w-requires t c = absurd (omega (arith, c.if-s-gt65535.true, c.requires.spot_there.1))
