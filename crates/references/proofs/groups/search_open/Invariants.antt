-- `references::groups::search_open` meets its contract: the loop keeps a true table, in which none of the places passed is open if all are searched.
-- Assumes nothing.
use mathlib.Core.Path.{◌≡◌}
use mathlib.Core.Bool.{true}
use lib.ListN.{length}
use Rattle.slots.specs.Slots.{SlotsTrue}
use Rattle.references.specs.Kept.{KeptTrue}
use Rattle.references.proofs.Filled as filled
use Rattle.references.proofs.groups.search_open.Given as goal

abbrev pub invariant-loop-k : goal.invariant-loop-k
invariant-loop-k l = record {
  slots : length l.slots ≡ length l.initial.slots;
  seen : length l.seen ≡ length l.initial.seen;
  table : length l.table ≡ length l.initial.table;
  slots_true : SlotsTrue l.f l.s l.slots;
  kept : KeptTrue l.f l.s l.x.group l.table;
  told : l.x.all ≡ true → filled.ToldBelow l.k l.table;
}
