-- `store::subset::keeps_subset` tells whether a domain is of kind 3: none of the entries passed is such a domain. Assumes nothing.
use Rattle.store.proofs.Walk.{Walk, walk_start, place_any}
use Rattle.rules.specs.Bytes.{is_some}
use Rattle.store.proofs.Asked as asked
use Rattle.store.specs.Answers.{PartAt}
use Rattle.store.specs.declared.EntryPart.TheVariants.{Domain, Package}
use Rattle.std.specs.Prelude.{Some}
use Rattle.store.proofs.Find as found
use mathlib.Core.Path.{refl, sym, ap, ◌∙◌, subst}
use native.Mathlib.Omega.{arith}
use Rattle.store.proofs.subset.keeps_subset.Goals as goal
use Rattle.store.proofs.subset.keeps_subset.Goals.{After-entry_at, At-loop-part, In-Domain, In-Domain-2, In-Package}

-- the turn's entry is a domain's, or a package's
is_domain_lem : (k : In-Domain) →
    PartAt k.args.s.now k.loop-part.at k.args.end (Some (Domain k.in-Domain.from k.in-Domain.next))
is_domain_lem k = found.part_told k.in-Some.is k.in-Domain.is k.entry_at.ensures

is_package_lem : (k : In-Package) →
    PartAt k.args.s.now k.loop-part.at k.args.end (Some (Package k.in-Package.from k.in-Package.file k.in-Package.next))
is_package_lem k = found.part_told k.in-Some.is k.in-Package.is k.entry_at.ensures

-- the domain's places
domain_in : (k : In-Domain) →
    found.DomainIn k.args.s.now k.args.end k.loop-part.at k.in-Domain.from k.in-Domain.next
domain_in k = found.domain_in k.loop-part.invariant k.requires (is_domain_lem k)

pub loop-part-init : goal.loop-part-init
loop-part-init c = λ es r. subst (Walk _ _ es _) (sym c.first_entry-at.ensures) (walk_start r)

pub entry_at-requires : goal.entry_at-requires
entry_at-requires c = found.walks_from c.loop-part.invariant c.requires

pub is_without_int-requires : goal.is_without_int-requires
is_without_int-requires c =
    let x = domain_in c in
    (omega (arith, x.1, x.2), x.0, x.1)

pub returns-then-is_without_int : goal.returns-then-is_without_int
returns-then-is_without_int c =
    let a = c.args in
    let here = found.found_domain c.loop-part.invariant (is_domain_lem (goal.at.returns-then-is_without_int c).In-Domain) (sym c.is_without_int.ensures ∙ c.if-is_without_int.true) in
    λ es r. sym (asked.subset_any a.aid.now es ∙ sym (place_any _ _ es) ∙ ap is_some (here es r))

pub loop-part-smaller-in-Domain : goal.loop-part-smaller-in-Domain
loop-part-smaller-in-Domain c = omega (arith, domain_in (goal.at.loop-part-smaller-in-Domain c).In-Domain)

pub loop-part-preserved-in-Domain : goal.loop-part-preserved-in-Domain
loop-part-preserved-in-Domain c =
    found.walks_domain c.loop-part.invariant (is_domain_lem (goal.at.loop-part-preserved-in-Domain c).In-Domain) (sym c.is_without_int.ensures ∙ c.if-is_without_int.false)

pub loop-part-smaller : goal.loop-part-smaller
loop-part-smaller c =
    omega (arith, found.package_in c.loop-part.invariant c.requires (is_package_lem c))

pub loop-part-preserved : goal.loop-part-preserved
loop-part-preserved c = found.walks_package c.loop-part.invariant (is_package_lem c) refl

pub returns : goal.returns
returns c =
    let none = found.found_none c.loop-part.invariant (found.none_told c.in_default.is c.entry_at.ensures) in
    λ es r. sym (asked.subset_any c.args.aid.now es ∙ none es r)
