-- `slots::record_in` meets its contract: the class that is there has its record. Assumes nothing.
use Rattle.std.specs.Prelude.{ℕ}
use Rattle.std.specs.Prelude.{Option as Optional}
use mathlib.Core.Path.{subst}
use Rattle.homes.specs.Homes.{ClassPlaced}
use Rattle.classes.proofs.Records as records
use Rattle.classes.proofs.Places as places
use Rattle.slots.proofs.record_in.Goals as goal
use Rattle.slots.proofs.record_in.Goals.{Start}

-- what was found is the place of the class's record
abbrev Placed : Start → Optional ℕ → Type 0
Placed b r = ClassPlaced b.args.f.now b.args.s.now b.args.x.home b.args.n r

pub class_in-requires : goal.class_in-requires
class_in-requires c =
    record { home_there = (records.home_there _ _ _ _ c.requires.class_there.0, c.requires.class_there.1); small_home = c.requires.small_home; slots_true = c.requires.slots_true }

pub returns-in-Some : goal.returns-in-Some
returns-in-Some c = record { record_at = subst (Placed (goal.at.returns-in-Some c).Start) c.in-Some.is c.class_in.ensures.class_placed; slots_true_2 = c.class_in.ensures.slots_true_2 }

pub returns-in-None : goal.returns-in-None
returns-in-None c =
    let none = subst (Placed (goal.at.returns-in-None c).Start) c.in-None.is c.class_in.ensures.class_placed in
    record { record_at = places.class_nowhere _ _ _ _ 0 none c.requires.class_there.0; slots_true_2 = c.class_in.ensures.slots_true_2 }
