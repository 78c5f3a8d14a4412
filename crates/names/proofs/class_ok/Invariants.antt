-- `names::class_ok` meets its contract: the loop goes on while each method passed has its form and a name that is not in the table yet. Assumes nothing.
use mathlib.Core.Path.{◌≡◌}
use lib.ListN.{length}
use Rattle.names.proofs.Rules as rules
use Rattle.names.proofs.class_ok.Given as goal

abbrev pub invariant-loop-n : goal.invariant-loop-n
invariant-loop-n l = rules.NameLoop l.interface l.s l.start l.count l.n l.c l.top l.names × (length l.names ≡ length l.initial.names)
