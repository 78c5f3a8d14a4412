-- `references::tell_reference` meets its contract: the numbers and the name of the reference, and what is told of these. Assumes nothing.
use Rattle.std.specs.Prelude.{Option as Optional}
use Rattle.files.specs.declared.Reference.{Reference as Naming}
use mathlib.Core.Path.{subst}
use Rattle.files.specs.Say.{ReferenceNth}
use Rattle.files.proofs.Walks.{references_there}
use Rattle.references.proofs.Lookups as look
use Rattle.references.proofs.Telling as telling
use Rattle.references.proofs.tell_reference.Goals as goal
use Rattle.references.proofs.tell_reference.Goals.{Start}

-- r is the reference
abbrev Nth : Start → Optional Naming → Type 0
Nth b r = ReferenceNth b.args.f.now b.args.g.at b.args.k r

pub reference_at-requires : goal.reference_at-requires
reference_at-requires c = references_there c.requires.judged.1.stand (look.judged_reads c.requires.judged.0)

pub told_by-requires : goal.told_by-requires
told_by-requires c = record { judged = (c.requires.judged.0, c.requires.import_places.0, c.requires.import_places.1); slots_true = c.requires.slots_true }

pub returns-in-Some : goal.returns-in-Some
returns-in-Some c =
    let r = subst (Nth (goal.at.returns-in-Some c).Start) c.in-Some.is c.reference_at.ensures in
    record { told_is = telling.reference_told _ _ _ _ _ c.requires.judged.1.stand _ _ _ r c.told_by.result c.told_by.ensures.numbers_tell; slots_true_2 = c.told_by.ensures.slots_true_2 }

pub returns-in-None : goal.returns-in-None
returns-in-None c =
    let r = subst (Nth (goal.at.returns-in-None c).Start) c.in-None.is c.reference_at.ensures in
    record { told_is = look.reference_none _ _ c.requires.judged.1.stand r; slots_true_2 = c.requires.slots_true }
