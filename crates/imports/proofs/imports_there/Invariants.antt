-- `imports::imports_there` meets its contract: the loop keeps the places of the imports passed. Assumes nothing.
use Rattle.imports.proofs.Table as table
use Rattle.imports.proofs.imports_there.Given as goal

abbrev pub invariant-loop-k : goal.invariant-loop-k
invariant-loop-k l = table.Filled l.f l.s l.end l.k l.places
