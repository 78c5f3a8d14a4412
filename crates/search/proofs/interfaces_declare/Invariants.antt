-- `search::interfaces_declare` meets its contract: the walk goes on while no interface of a class passed declares the name. Assumes nothing.
use mathlib.Core.Path.{◌≡◌}
use lib.ListN.{length}
use Rattle.slots.specs.Slots.{SlotsTrue}
use Rattle.search.specs.Walk.{sought_spot, above, SeenNone}
use Rattle.search.proofs.Chain as chain
use Rattle.search.proofs.interfaces_declare.Given as goal

abbrev pub invariant-loop-at : goal.invariant-loop-at
invariant-loop-at l = record {
  walk : chain.AlongTo l.f l.s l.x.end (sought_spot l.x) l.x.name above l.at;
  slots_true : SlotsTrue l.f l.s l.slots;
  slots : length l.slots ≡ length l.initial.slots;
  seen_none : SeenNone l.f l.s l.x.end l.x.name l.seen;
  seen : length l.seen ≡ length l.initial.seen;
}

abbrev pub decreases-loop-at : goal.decreases-loop-at
decreases-loop-at l = chain.ahead l.at
