-- `running::visited::parent_apart` meets its contract, as `parent_visit` does: it never calls itself, since no store is that long. Assumes nothing.
use Rattle.running.proofs.visited.+parent_apart.Given as goal

abbrev pub decreases-parent_apart : goal.decreases-parent_apart
decreases-parent_apart l = 0
