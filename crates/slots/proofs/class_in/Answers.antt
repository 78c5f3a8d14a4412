-- `slots::class_in` meets its contract: the class is asked of the slot that stands for its package. Assumes nothing.
use native.Mathlib.Omega.{arith}
use Rattle.homes.proofs.Lookups as lookups
use Rattle.slots.specs.Slots.{SlotsTrue}
use Rattle.slots.proofs.Asked as laws
use Rattle.slots.proofs.class_in.Goals as goal
use Rattle.slots.proofs.class_in.Goals.{After-take_slot}

-- the slots are true where the slot is taken
slots-true : (k : After-take_slot) → SlotsTrue k.args.f.now k.args.s.now k.take_slot.new.slots
slots-true k = k.take_slot.ensures.true _ _ k.requires.slots_true

pub take_slot-requires : goal.take_slot-requires
take_slot-requires c = record { k_lt_slot_count = (c.requires.home_there.1, c.requires.slots_true.size); small_home = c.requires.small_home }

pub file_of-g-requires : goal.file_of-g-requires
file_of-g-requires c = lookups.there_bounds _ _ _ c.requires.home_there.0

pub overflow_mul-k : goal.overflow_mul-k
overflow_mul-k c = omega (arith, c.requires.home_there.1)

pub class_at-requires : goal.class_at-requires
class_at-requires c = (
  lookups.there_reads _ _ _ _ c.file_of-g.ensures c.requires.home_there.0,
  laws.slot_row _ _ _ _ _ (slots-true (goal.at.class_at-requires c).After-take_slot) c.requires.home_there.1 c.take_slot.ensures.home _ c.file_of-g.ensures,
)

pub returns : goal.returns
returns c =
    record { class_placed = lookups.class_placed_lem _ _ _ _ c.file_of-g.ensures _ c.class_at.result c.class_at.ensures.class_placed; slots_true_2 = laws.row_kept _ _ _ _ _ (slots-true (goal.at.returns c).After-take_slot) c.requires.home_there.1 c.take_slot.ensures.home _ c.file_of-g.ensures _ (omega arith) c.class_at.ensures.row_true.0 c.class_at.ensures.row_true.1 }
