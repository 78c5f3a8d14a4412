-- `search::visited::named_in` meets its contract: the pair of bytes that names the parent. Assumes nothing.
use Prim.Native.Nat.{◌+◌, ◌*◌, ◌<◌}
use native.Mathlib.Omega.{arith}
use lib.ListN.{length}
use Rattle.classes.proofs.Records as records
use Rattle.search.proofs.Visits as visits
use Rattle.search.proofs.visited.named_in.Goals as goal
use Rattle.search.proofs.visited.named_in.Goals.{After-record_of-c}

-- the pair stands inside the record
inside : (k : After-record_of-c) → (k.args.i < 8) × (3 + 2 * k.args.i < length k.record_of-c.result.now)
inside k = records.pair_inside _ _ _ _ _ k.record_of-c.ensures _ (visits.parent_inside _ _ _ _ k.requires)

pub record_of-c-requires : goal.record_of-c-requires
record_of-c-requires c = c.requires.placed

pub overflow_mul-i : goal.overflow_mul-i
overflow_mul-i c = omega (arith, (inside c).0)

pub overflow_add-i : goal.overflow_add-i
overflow_add-i c = omega (arith, (inside c).0)

pub bounds-c-i : goal.bounds-c-i
bounds-c-i c = omega (arith, (inside (goal.at.bounds-c-i c).After-record_of-c).1)

pub overflow_mul-i-2 : goal.overflow_mul-i-2
overflow_mul-i-2 c = omega (arith, (inside (goal.at.overflow_mul-i-2 c).After-record_of-c).0)

pub overflow_add-i-2 : goal.overflow_add-i-2
overflow_add-i-2 c = omega (arith, (inside (goal.at.overflow_add-i-2 c).After-record_of-c).0)

pub bounds-c-i-2 : goal.bounds-c-i-2
bounds-c-i-2 c = omega (arith, (inside (goal.at.bounds-c-i-2 c).After-record_of-c).1)

pub returns : goal.returns
returns c =
    record { bytes = _; is = c.record_of-c.ensures; pack = c.from.ensures; number = c.from-2.ensures; small = omega (arith, c.from-2.ensures) }
