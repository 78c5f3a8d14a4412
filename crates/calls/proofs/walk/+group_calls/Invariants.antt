-- `calls::walk::group_calls` meets its contract: no number is known at the start; it never calls itself, since no store is that long. Assumes nothing.
use Rattle.calls.proofs.walk.+group_calls.Given as goal

abbrev pub decreases-group_calls : goal.decreases-group_calls
decreases-group_calls l = 0
