-- `chains::gathered::gather_class` meets its contract: the names that are not in the table are those of the methods still to be read. Assumes nothing.
use Prim.Native.Nat.{◌-◌}
use Rattle.chains.proofs.Gathering as gathering
use Rattle.chains.proofs.gathered.gather_class.Given as goal

abbrev pub invariant-loop : goal.invariant-loop
invariant-loop l = gathering.Gathering l.g l.t l.initial.names l.names l.start l.base l.a l.e (l.end - l.counter) l.m l.to
