-- `references::search_reference` meets its contract: the numbers and the name of the reference, and what is found from the class named Assumes nothing.
use Rattle.std.specs.Prelude.{Some}
use Rattle.std.specs.Prelude.{Option as Optional}
use Rattle.files.specs.declared.Reference.{Reference as Naming}
use mathlib.Core.Path.{subst}
use Rattle.files.specs.Say.{ReferenceNth}
use Rattle.files.proofs.Walks.{references_there}
use Rattle.references.specs.Named.{ClassIs}
use Rattle.references.proofs.Lookups as look
use Rattle.references.proofs.Telling as telling
use Rattle.references.proofs.search_reference.Goals as goal
use Rattle.references.proofs.search_reference.Goals.{In_ok-named, Start}

-- r is the reference
abbrev Nth : Start → Optional Naming → Type 0
Nth b r = ReferenceNth b.args.f.now b.args.g.at b.args.x.number r

-- the class that its numbers name
class : (k : In_ok-named) →
    let a = k.args in
    ClassIs a.f.now a.s.now a.g.end k.in_ok-named.named.pack k.in_ok-named.named.class (Some (record { home = a.x.home; place = a.x.place }))
class k =
    let a = k.args in
    let r = subst (Nth (goal.at.In_ok-named k).Start) k.in_ok-named.was k.reference_at.ensures in
    telling.open_record _ _ _ a.g.at a.x.number k.requires.judged.1.stand _ _ _ r a.x.home a.x.place k.requires.judged.2

pub reference_at-requires : goal.reference_at-requires
reference_at-requires c = references_there c.requires.judged.1.stand (look.judged_reads c.requires.judged.0)

pub found_from-requires : goal.found_from-requires
found_from-requires c =
    record { judged = (c.requires.judged.0, class (goal.at.found_from-requires c).In_ok-named); lent = c.requires.lent; slots_true = c.requires.slots_true }

pub returns : goal.returns
returns c =
    let a = c.args in
    let r = subst (Nth (goal.at.returns c).Start) c.in_ok-named.was c.reference_at.ensures in
    let numbers = look.numbers_named _ _ _ a.x.home a.x.place (class (goal.at.returns c).In_ok-named) c.found_from.result c.found_from.ensures.meant_is in
    record { reference_is = look.reference_named_lem a.g.at a.x.number c.requires.judged.1.stand _ _ _ r c.found_from.result numbers; slots_true_2 = c.found_from.ensures.slots_true_2 }

pub returns-in_err-named : goal.returns-in_err-named
returns-in_err-named c =
    let a = c.args in
    let r = subst (Nth (goal.at.returns-in_err-named c).Start) c.in_err-named.was c.reference_at.ensures in
    absurd (telling.open_there _ _ _ a.g.at a.x.number c.requires.judged.1.stand r a.x.home a.x.place c.requires.judged.0 c.requires.judged.2)
