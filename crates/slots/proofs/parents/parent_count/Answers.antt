-- `slots::parents::parent_count` meets its contract: the second byte of the class record. Assumes nothing.
use Rattle.classes.proofs.Records as records
use Rattle.slots.proofs.parents.parent_count.Goals as goal

pub bounds-c-1 : goal.bounds-c-1
bounds-c-1 c = records.record_inside _ _ _ _ _ c.record_of-c.ensures.record_is c.requires.class_there.0

pub returns : goal.returns
returns c =
    record { count_is = (records.count_is _ _ _ _ _ c.record_of-c.ensures.record_is _ c.wide.ensures.0, records.count_few _ _ _ _ _ c.record_of-c.ensures.record_is _ c.wide.ensures.0 c.requires.class_there.0); slots_true_2 = c.record_of-c.ensures.slots_true_2 }
