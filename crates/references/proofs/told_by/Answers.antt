-- `references::told_by` meets its contract: the class named, and what it declares itself by the name. Assumes nothing.
use Rattle.std.specs.Prelude.{Some}
use Rattle.std.specs.Prelude.{Option as Optional}
use mathlib.Core.Path.{subst}
use Rattle.references.specs.Named.{ClassIs}
use Rattle.references.specs.declared.ClassRecord.{ClassRecord}
use Rattle.references.proofs.Lookups as look
use Rattle.references.proofs.Telling as telling
use Rattle.references.proofs.told_by.Goals as goal
use Rattle.references.proofs.told_by.Goals.{In-Some, Start}

-- r is the class
abbrev Class : Start → Optional ClassRecord → Type 0
Class b r = let a = b.args in ClassIs a.f.now a.s.now a.end a.x.pack a.x.class r

class : (k : In-Some) → Class (goal.at.In-Some k).Start (Some k.in-Some.c)
class k = subst (Class (goal.at.In-Some k).Start) k.in-Some.is k.class_named.ensures.class_is

pub own_declared-requires : goal.own_declared-requires
own_declared-requires c = (c.requires.judged.0, class (goal.at.own_declared-requires c).In-Some)

pub returns-in-Some : goal.returns-in-Some
returns-in-Some c =
    let x = c.args.x in
    let told = telling.numbers_tell x.pack x.class x.name c.in-Some.c.home c.in-Some.c.place (class (goal.at.returns-in-Some c).In-Some) c.own_declared.result c.own_declared.ensures in
    record { numbers_tell = told; slots_true_2 = c.class_named.ensures.slots_true_2 }

pub returns-in-None : goal.returns-in-None
returns-in-None c =
    let x = c.args.x in
    let none = subst (Class (goal.at.returns-in-None c).Start) c.in-None.is c.class_named.ensures.class_is in
    record { numbers_tell = look.numbers_missing x.pack x.class x.name none; slots_true_2 = c.class_named.ensures.slots_true_2 }
