-- `search::visited::interface_apart` meets its contract, as `interface_at` does: it never calls itself, since no store is that long. Assumes nothing.
use Rattle.search.proofs.visited.+interface_apart.Given as goal

abbrev pub decreases-interface_apart : goal.decreases-interface_apart
decreases-interface_apart l = 0
