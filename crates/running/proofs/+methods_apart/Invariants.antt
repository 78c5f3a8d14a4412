-- `running::methods_apart` meets its contract, as `methods_pass` does: it never calls itself, since no store is that long. Assumes nothing.
use Rattle.running.proofs.+methods_apart.Given as goal

abbrev pub decreases-methods_apart : goal.decreases-methods_apart
decreases-methods_apart l = 0
