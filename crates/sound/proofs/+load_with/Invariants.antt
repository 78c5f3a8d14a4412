-- `sound::load_with` meets its contract: it never calls itself, since no store is that long. Assumes nothing.
use Rattle.sound.proofs.+load_with.Given as goal

abbrev pub decreases-load_with : goal.decreases-load_with
decreases-load_with g l = 0
