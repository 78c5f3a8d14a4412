-- `slots::parents::parent_at` meets its contract: the pair of bytes that names the parent, and the package of that number,
-- which is never missing. Assumes nothing.
use native.Mathlib.Omega.{arith}
use mathlib.Core.Path.{subst}
use Rattle.homes.specs.Homes.{NumberedIs}
use Rattle.classes.proofs.Records as records
use Rattle.classes.proofs.Parents as parents
use Rattle.slots.proofs.Standing as standing
use Rattle.slots.proofs.parents.parent_at.Goals as goal

pub overflow_mul-i : goal.overflow_mul-i
overflow_mul-i c = omega (arith, (records.pair_inside _ _ _ _ _ c.record_of-c.ensures.record_is _ c.requires.parent_there.0).0)

pub overflow_add-i : goal.overflow_add-i
overflow_add-i c = omega (arith, (records.pair_inside _ _ _ _ _ c.record_of-c.ensures.record_is _ c.requires.parent_there.0).0)

pub bounds-c-i : goal.bounds-c-i
bounds-c-i c = omega (arith, (records.pair_inside _ _ _ _ _ c.record_of-c.ensures.record_is _ c.requires.parent_there.0).1)

pub overflow_mul-i-2 : goal.overflow_mul-i-2
overflow_mul-i-2 c = omega (arith, (records.pair_inside _ _ _ _ _ c.record_of-c.ensures.record_is _ c.requires.parent_there.0).0)

pub overflow_add-i-2 : goal.overflow_add-i-2
overflow_add-i-2 c = omega (arith, (records.pair_inside _ _ _ _ _ c.record_of-c.ensures.record_is _ c.requires.parent_there.0).0)

pub bounds-c-i-2 : goal.bounds-c-i-2
bounds-c-i-2 c = omega (arith, (records.pair_inside _ _ _ _ _ c.record_of-c.ensures.record_is _ c.requires.parent_there.0).1)

pub import_in-requires : goal.import_in-requires
import_in-requires c =
    let small = standing.class_small _ _ _ _ c.requires.parent_there.0.class c.requires.parent_there.1 in
    record { home_there = (records.home_there _ _ _ _ c.requires.parent_there.0.class, c.slot_for-k.ensures); indexed = c.requires.indexed; small_home = (small, c.requires.parent_there.1); slots_true = c.record_of-c.ensures.slots_true_2 }

pub returns-in-Some : goal.returns-in-Some
returns-in-Some c =
    let a = c.args in
    let found = subst (NumberedIs a.f.now a.s.now a.x.home c.wide-p.result) c.in-Some.is c.import_in.ensures.numbered_is in
    record { parent_is = parents.parent_is _ _ _ _ a.i _ c.record_of-c.ensures.record_is _ _ c.wide-p.ensures.0 c.wide-number.ensures.0 _ c.wide-number.ensures.1 found; slots_true_2 = c.import_in.ensures.slots_true_2 }

pub returns-in-None : goal.returns-in-None
returns-in-None c =
    let a = c.args in
    let missing = subst (NumberedIs a.f.now a.s.now a.x.home c.wide-p.result) c.in-None.is c.import_in.ensures.numbered_is in
    absurd
    (parents.parent_none _ _ _ _ a.i _ c.record_of-c.ensures.record_is _ _ c.wide-p.ensures.0 c.wide-number.ensures.0 c.requires.parent_there.0 missing)
