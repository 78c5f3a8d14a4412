-- `slots::parents::is_kind0` meets its contract: the first byte of the class record. Assumes nothing.
use native.Mathlib.Omega.{arith}
use mathlib.Core.Bool.{Bool, true, false, not}
use mathlib.Core.Path.{◌≡◌, refl}
use lib.Dec.{eqb}
use lib.ListN.{get_or}
use borrow.Author.Tests.{eqb-true}
use Rattle.std.proofs.lemmas.Bool.{eqb-false}
use Rattle.classes.specs.Say.{Kind0Is}
use Rattle.classes.proofs.Records as records
use Rattle.slots.proofs.parents.is_kind0.Goals as goal

pub bounds-c-0 : goal.bounds-c-0
bounds-c-0 c = omega (arith, records.record_inside _ _ _ _ _ c.record_of-c.ensures.record_is c.requires.class_there.0)

pub returns-clause-kind0is : goal.returns-clause-kind0is
returns-clause-kind0is c = go (eqb (get_or c.record_of-c.result.now 0 0) 1) refl
  where
    go : (b : Bool) → eqb (get_or c.record_of-c.result.now 0 0) 1 ≡ b → Kind0Is c.args.f.now c.args.s.now c.args.x.home c.args.x.number (not b)
    go true e = records.kind_one _ _ _ _ _ c.record_of-c.ensures.record_is _ refl (eqb-true _ _ e)
    go false e = records.kind_zero _ _ _ _ _ c.record_of-c.ensures.record_is _ refl (eqb-false _ _ e)
