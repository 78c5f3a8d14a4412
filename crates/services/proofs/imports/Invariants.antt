-- `services::imports` meets its contract: none of the imports passed is the AID. Assumes nothing.
use Prim.Native.Nat.{◌-◌}
use Rattle.services.proofs.Importers as importers
use Rattle.services.proofs.imports.Given as goal

abbrev pub invariant-loop : goal.invariant-loop
invariant-loop l = importers.Seeks l.aid l.g l.start (l.end - l.counter) l.c
