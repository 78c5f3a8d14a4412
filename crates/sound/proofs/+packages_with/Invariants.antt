-- `sound::packages_with` meets its contract: it never calls itself, since no store is that long. Assumes nothing.
use Rattle.sound.proofs.+packages_with.Given as goal

abbrev pub decreases-packages_with : goal.decreases-packages_with
decreases-packages_with g l = 0
