-- `slots::parents::place_of` meets its contract: the slot of the package is asked. Assumes nothing.
use Rattle.slots.proofs.Standing.{class_small}
use Rattle.slots.proofs.parents.place_of.Goals as goal

pub record_in-requires : goal.record_in-requires
record_in-requires c =
    record { class_there = (c.requires.class_there.0, c.slot_for-k.ensures); small_home = class_small _ _ _ _ c.requires.class_there.0 c.requires.class_there.1; slots_true = c.requires.slots_true }
