-- `chains::linked::home_before` meets its contract: all links so far lie behind the place. Assumes nothing.
use Rattle.chains.proofs.Running as running
use Rattle.chains.proofs.linked.home_before.Given as goal

abbrev pub invariant-loop-k : goal.invariant-loop-k
invariant-loop-k l = running.Behind l.names l.i l.q l.k
