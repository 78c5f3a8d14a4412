-- `store::domain_in_use` tells whether a package lies in a domain: none of those passed does. Assumes nothing.
use Rattle.store.proofs.Walk.{Walk, walk_start, place_any}
use Rattle.rules.specs.Bytes.{is_some}
use Rattle.rules.specs.Store.{store_limits}
use Rattle.store.proofs.Asked as asked
use Rattle.store.specs.Answers.{PartAt}
use Rattle.store.specs.declared.EntryPart.TheVariants.{Domain, Package}
use Rattle.std.specs.Prelude.{Some}
use Rattle.store.proofs.Find as found
use mathlib.Core.Path.{refl, sym, ap, ◌∙◌, subst}
use native.Mathlib.Omega.{arith}
use Rattle.store.proofs.domain_in_use.Goals as goal
use Rattle.store.proofs.domain_in_use.Goals.{After-entry_at, At-loop-part, In-Domain, In-Package, In-Package-2}

-- the turn's entry is a domain's, or a package's
is_domain_lem : (k : In-Domain) →
    PartAt k.args.s.now k.loop-part.at k.args.end (Some (Domain k.in-Domain.from k.in-Domain.next))
is_domain_lem k = found.part_told k.in-Some.is k.in-Domain.is k.entry_at.ensures

is_package_lem : (k : In-Package) →
    PartAt k.args.s.now k.loop-part.at k.args.end (Some (Package k.in-Package.from k.in-Package.file k.in-Package.next))
is_package_lem k = found.part_told k.in-Some.is k.in-Package.is k.entry_at.ensures

-- the package's places
package_in : (k : In-Package) →
    found.PackageIn k.args.s.now k.args.end k.loop-part.at k.in-Package.from k.in-Package.file k.in-Package.next
package_in k = found.package_in k.loop-part.invariant k.requires (is_package_lem k)

pub loop-part-init : goal.loop-part-init
loop-part-init c = λ es r. subst (Walk _ _ es _) (sym c.first_entry-at.ensures) (walk_start r)

pub entry_at-requires : goal.entry_at-requires
entry_at-requires c = found.walks_from c.loop-part.invariant c.requires

pub loop-part-smaller-in-Domain : goal.loop-part-smaller-in-Domain
loop-part-smaller-in-Domain c =
    omega (arith, found.domain_in c.loop-part.invariant c.requires (is_domain_lem c))

pub loop-part-preserved-in-Domain : goal.loop-part-preserved-in-Domain
loop-part-preserved-in-Domain c = found.walks_domain c.loop-part.invariant (is_domain_lem c) refl

pub slice_bounds-same_bytes-count : goal.slice_bounds-same_bytes-count
slice_bounds-same_bytes-count c = omega (arith, package_in c)

pub slice_bounds-same_bytes-start : goal.slice_bounds-same_bytes-start
slice_bounds-same_bytes-start c = omega (arith, package_in c)

pub slice_bounds-same_bytes-end : goal.slice_bounds-same_bytes-end
slice_bounds-same_bytes-end c = omega (arith, package_in c)

pub returns-then-same_bytes : goal.returns-then-same_bytes
returns-then-same_bytes c =
    let a = c.args in
    let here = found.found_package c.loop-part.invariant (is_package_lem (goal.at.returns-then-same_bytes c).In-Package) (sym c.same_bytes.ensures ∙ c.if-same_bytes.true) in
    λ es r h. sym (asked.in_use (store_limits a.s.now) es a.aid.now h ∙ sym (place_any _ _ es) ∙ ap is_some (here es r))

pub loop-part-smaller : goal.loop-part-smaller
loop-part-smaller c = omega (arith, package_in (goal.at.loop-part-smaller c).In-Package)

pub loop-part-preserved : goal.loop-part-preserved
loop-part-preserved c =
    found.walks_package c.loop-part.invariant (is_package_lem (goal.at.loop-part-preserved c).In-Package) (sym c.same_bytes.ensures ∙ c.if-same_bytes.false)

pub returns : goal.returns
returns c =
    let a = c.args in
    let none = found.found_none c.loop-part.invariant (found.none_told c.in_default.is c.entry_at.ensures) in
    λ es r h. sym (asked.in_use (store_limits a.s.now) es a.aid.now h ∙ none es r)
