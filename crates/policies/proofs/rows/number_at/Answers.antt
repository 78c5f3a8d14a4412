-- `policies::rows::number_at` meets its contract: a number found is put where the row had none. Assumes nothing.
use Prim.Native.Nat.{◌+◌, ◌<◌}
use native.Mathlib.Omega.{arith}
use lib.ListN.{length}
use Rattle.policies.proofs.Kept as kept
use Rattle.policies.proofs.rows.number_at.Goals as goal
use Rattle.policies.proofs.rows.number_at.Goals.{Start}

-- the slot has an entry
place : (b : Start) → b.args.l.base + b.args.k < length b.args.row.now
place b = kept.has_place b.args.l b.args.row.now b.requires.has_slot b.requires.has_places

pub overflow_add-l : goal.overflow_add-l
overflow_add-l c = omega (arith, place (goal.at.overflow_add-l c).Start)

pub bounds-row-l : goal.bounds-row-l
bounds-row-l c = place (goal.at.bounds-row-l c).Start

pub returns-then-known-ne255 : goal.returns-then-known-ne255
returns-then-known-ne255 c =
    let a = c.args in
    record {
      number_kept = kept.number_known a.f.now a.domain.now a.g.now a.other.now a.l a.k a.row.now (place (goal.at.returns-then-known-ne255 c).Start) c.wide-known.result c.if-known-ne255.true
          c.wide-known.ensures.0;
      upper_bound = c.wide-known.ensures.1;
    }

pub slot_aid-requires : goal.slot_aid-requires
slot_aid-requires c = c.requires.has_slot

pub number_of-n-requires : goal.number_of-n-requires
number_of-n-requires c = c.requires.domains_there

pub overflow_cast-row : goal.overflow_cast-row
overflow_cast-row c = omega (arith, c.number_of-n.ensures.upper_bound)

pub overflow_add-row : goal.overflow_add-row
overflow_add-row c = omega (arith, place (goal.at.overflow_add-row c).Start)

pub bounds-row-l-2 : goal.bounds-row-l-2
bounds-row-l-2 c = place (goal.at.bounds-row-l-2 c).Start

pub returns : goal.returns
returns c =
    let a = c.args in
    let is = kept.slot_number a.f.now a.domain.now a.other.now a.l a.k c.slot_aid.ensures c.number_of-n.ensures.number_is in record {
      number_kept = kept.number_put a.f.now a.domain.now a.g.now a.other.now a.l a.k a.row.now (place (goal.at.returns c).Start) c.number_of-n.result c.requires.domains_there
          c.requires.has_slot is;
      upper_bound = omega (arith, c.number_of-n.ensures.upper_bound);
    }
