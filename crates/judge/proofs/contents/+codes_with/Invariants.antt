-- `judge::contents::codes_with` meets its contract: it never calls itself, since no store is that long. Assumes nothing.
use Rattle.judge.proofs.contents.+codes_with.Given as goal

abbrev pub decreases-codes_with : goal.decreases-codes_with
decreases-codes_with g l = 0
