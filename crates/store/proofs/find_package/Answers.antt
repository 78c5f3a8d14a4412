-- `store::find_package` tells where a package stands: none of the entries passed is the package's. Assumes nothing.
use Rattle.store.proofs.Walk.{Walk, walk_start}
use Rattle.store.specs.Entries.{StandFrom, part}
use Rattle.store.specs.Answers.{PartAt}
use Rattle.store.specs.declared.EntryPart.TheVariants.{Domain, Package}
use Rattle.std.specs.Prelude.{Some}
use Rattle.store.proofs.Own.{own_by}
use Rattle.store.proofs.Asked as asked
use Rattle.store.proofs.Find as found
use mathlib.Core.Path.{refl, sym, ◌∙◌, subst}
use native.Mathlib.Omega.{arith}
use Rattle.rules.specs.Store.{first_entry}
use Rattle.store.proofs.find_package.Goals as goal
use Rattle.store.proofs.find_package.Goals.{After-entry_at, At-loop-part, In-Domain, In-Package, In-Package-2, Start}

-- the entries stand
stand : (b : Start) → StandFrom b.args.s.now (first_entry b.args.s.now) b.args.end
stand b = (b.requires.0, b.requires.1)

-- the turn's entry is a domain's
is_domain_lem : (k : In-Domain) →
    PartAt k.args.s.now k.loop-part.at k.args.end (Some (Domain k.in-Domain.from k.in-Domain.next))
is_domain_lem k = found.part_told k.in-Some.is k.in-Domain.is k.entry_at.ensures

-- the turn's entry is a package's, and its places
is_package_lem : (k : In-Package) →
    PartAt k.args.s.now k.loop-part.at k.args.end (Some (Package k.in-Package.from k.in-Package.file k.in-Package.next))
is_package_lem k = found.part_told k.in-Some.is k.in-Package.is k.entry_at.ensures

package_in : (k : In-Package) →
    found.PackageIn k.args.s.now k.args.end k.loop-part.at k.in-Package.from k.in-Package.file k.in-Package.next
package_in k = found.package_in k.loop-part.invariant (stand (goal.at.In-Package k).Start) (is_package_lem k)

pub loop-part-init : goal.loop-part-init
loop-part-init c = λ es r. subst (Walk _ _ es _) (sym c.first_entry-at.ensures) (walk_start r)

pub entry_at-requires : goal.entry_at-requires
entry_at-requires c = found.walks_from c.loop-part.invariant (stand (goal.at.entry_at-requires c).Start)

pub loop-part-smaller-in-Domain : goal.loop-part-smaller-in-Domain
loop-part-smaller-in-Domain c =
    omega (arith, found.domain_in c.loop-part.invariant (stand (goal.at.loop-part-smaller-in-Domain c).Start) (is_domain_lem c))

pub loop-part-preserved-in-Domain : goal.loop-part-preserved-in-Domain
loop-part-preserved-in-Domain c = found.walks_domain c.loop-part.invariant (is_domain_lem c) refl

pub slice_bounds-own_is-count : goal.slice_bounds-own_is-count
slice_bounds-own_is-count c = omega (arith, package_in c)

pub slice_bounds-own_is-start : goal.slice_bounds-own_is-start
slice_bounds-own_is-start c = omega (arith, package_in c)

pub slice_bounds-own_is-end : goal.slice_bounds-own_is-end
slice_bounds-own_is-end c = omega (arith, package_in c)

pub own_is-requires : goal.own_is-requires
own_is-requires c =
    let y = found.package_reads c.loop-part.invariant (is_package_lem (goal.at.own_is-requires c).In-Package) c.requires.0 c.requires.1 c.requires.2 in
    let x = own_by _ (part c.args.s.now c.in-Package.file c.in-Package.next) y.0 y.1 in
    (x.inside, x.to)

pub returns-then-own_is : goal.returns-then-own_is
returns-then-own_is c =
    let is = found.found_package c.loop-part.invariant (is_package_lem (goal.at.returns-then-own_is c).In-Package) (sym c.own_is.ensures ∙ c.if-own_is.true) in
    λ es r h. asked.package_found r h (is es r) (package_in (goal.at.returns-then-own_is c).In-Package).1 (package_in (goal.at.returns-then-own_is c).In-Package).2 (found.package_entry c.loop-part.invariant (is_package_lem (goal.at.returns-then-own_is c).In-Package) es r)

pub loop-part-smaller : goal.loop-part-smaller
loop-part-smaller c = omega (arith, package_in (goal.at.loop-part-smaller c).In-Package)

pub loop-part-preserved : goal.loop-part-preserved
loop-part-preserved c =
    found.walks_package c.loop-part.invariant (is_package_lem (goal.at.loop-part-preserved c).In-Package) (sym c.own_is.ensures ∙ c.if-own_is.false)

pub returns : goal.returns
returns c =
    let none = found.none_told c.in_default.is c.entry_at.ensures in
    λ es r h. asked.package_none c.args.s.now es c.args.aid.now h (found.found_none c.loop-part.invariant none es r)
