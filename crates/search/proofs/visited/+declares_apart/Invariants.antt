-- `search::visited::declares_apart` meets its contract, as `declares` does: it never calls itself, since no store is that long. Assumes nothing.
use Rattle.search.proofs.visited.+declares_apart.Given as goal

abbrev pub decreases-declares_apart : goal.decreases-declares_apart
decreases-declares_apart l = 0
