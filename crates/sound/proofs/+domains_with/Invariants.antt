-- `sound::domains_with` meets its contract: it never calls itself, since no store is that long. Assumes nothing.
use Rattle.sound.proofs.+domains_with.Given as goal

abbrev pub decreases-domains_with : goal.decreases-domains_with
decreases-domains_with g l = 0
