-- `references::groups::tell_group` meets its contract: the loop keeps what is told of the references passed. Assumes nothing.
use mathlib.Core.Path.{◌≡◌}
use lib.ListN.{length}
use Rattle.slots.specs.Slots.{SlotsTrue}
use Rattle.references.proofs.Filled as filled
use Rattle.references.proofs.groups.tell_group.Given as goal

abbrev pub invariant-loop-k : goal.invariant-loop-k
invariant-loop-k l = record {
  slots : length l.slots ≡ length l.initial.slots;
  table : length l.table ≡ length l.initial.table;
  slots_true : SlotsTrue l.f l.s l.slots;
  kept : filled.KeptBelow l.f l.s l.g l.k l.table;
}
