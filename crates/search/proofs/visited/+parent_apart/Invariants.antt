-- `search::visited::parent_apart` meets its contract: the package that the record names, which is never missing, and the class there. It never
-- calls itself, since no store is that long. Assumes nothing.
use Rattle.search.proofs.visited.+parent_apart.Given as goal

abbrev pub decreases-parent_apart : goal.decreases-parent_apart
decreases-parent_apart l = 0
