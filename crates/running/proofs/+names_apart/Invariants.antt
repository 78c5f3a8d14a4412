-- `running::names_apart` meets its contract, as `chains::find_names` does: it never calls itself, since no store is that long. Assumes nothing.
use Rattle.running.proofs.+names_apart.Given as goal

abbrev pub decreases-names_apart : goal.decreases-names_apart
decreases-names_apart l = 0
