-- `services::imported` meets its contract: none of the entries passed imports the AID. Assumes nothing.
use Rattle.rules.specs.Bytes.{Bytes}
use Rattle.rules.specs.Store.{loaded, first_entry, store_limits}
use Rattle.store.proofs.Find as found
use Rattle.store.proofs.Walk.{Walk, walk_start}
use Rattle.store.specs.Entries.{StandFrom, FileReads, part}
use Rattle.store.specs.Answers.{PartAt}
use Rattle.store.specs.declared.EntryPart.TheVariants.{Domain, Package}
use Rattle.std.specs.Prelude.{Some}
use Rattle.services.specs.Answers.{OtherSays, importer}
use Rattle.services.proofs.Importers as importers
use mathlib.Core.Path.{◌≡◌, refl, sym, subst}
use mathlib.Core.Bool.{Bool, true, false}
use native.Mathlib.Omega.{arith}
use Rattle.services.proofs.imported.Goals as goal
use Rattle.services.proofs.imported.Goals.{After-other_imports, In-Domain, In-Package, Start}

-- the entries stand
stand : (b : Start) → StandFrom b.args.s.now (first_entry b.args.s.now) b.args.end
stand b = (b.requires.0, b.requires.1)

-- the turn's entry is a domain's
is_domain_lem : (k : In-Domain) →
    PartAt k.args.s.now k.loop-part.at k.args.end (Some (Domain k.in-Domain.from k.in-Domain.next))
is_domain_lem k = found.part_told k.in-Some.is k.in-Domain.is k.entry_at.ensures

-- the turn's entry is a package's, and its places
is_package_lem : (k : In-Package) →
    PartAt k.args.s.now k.loop-part.at k.args.end (Some (Package k.in-Package.from k.in-Package.file k.in-Package.next))
is_package_lem k = found.part_told k.in-Some.is k.in-Package.is k.entry_at.ensures

package_in : (k : In-Package) →
    found.PackageIn k.args.s.now k.args.end k.loop-part.at k.in-Package.from k.in-Package.file k.in-Package.next
package_in k = found.package_in k.loop-part.invariant (stand (goal.at.In-Package k).Start) (is_package_lem k)

-- the package's domain and file
abbrev domain : In-Package → Bytes
domain k = part k.args.s.now k.in-Package.from k.in-Package.file

abbrev file : In-Package → Bytes
file k = part k.args.s.now k.in-Package.file k.in-Package.next

-- the package's file reads
reads : (k : In-Package) → FileReads (store_limits k.args.s.now) (loaded (domain k) (file k))
reads k =
    found.package_reads k.loop-part.invariant (is_package_lem k) k.requires.0 k.requires.1 k.requires.2

-- the package imports the AID, or does not
importer_is : (k : After-other_imports) (b : Bool) → k.other_imports.result ≡ b →
    let a = k.args in
    importer (store_limits a.s.now) a.aid.now (loaded (domain (goal.at.After-other_imports k).In-Package) (file (goal.at.After-other_imports k).In-Package)) ≡ b
importer_is k b e =
    let aid = k.args.aid.now in
    importers.importer_is _ aid (domain (goal.at.After-other_imports k).In-Package) (file (goal.at.After-other_imports k).In-Package) b (reads (goal.at.After-other_imports k).In-Package).0 (reads (goal.at.After-other_imports k).In-Package).1 (subst (OtherSays (file (goal.at.After-other_imports k).In-Package) aid) e k.other_imports.ensures)

pub loop-part-init : goal.loop-part-init
loop-part-init c = λ es r. subst (Walk _ _ es _) (sym c.first_entry-at.ensures) (walk_start r)

pub entry_at-requires : goal.entry_at-requires
entry_at-requires c = found.walks_from c.loop-part.invariant (stand (goal.at.entry_at-requires c).Start)

pub loop-part-smaller-in-Domain : goal.loop-part-smaller-in-Domain
loop-part-smaller-in-Domain c =
    omega (arith, found.domain_in c.loop-part.invariant (stand (goal.at.loop-part-smaller-in-Domain c).Start) (is_domain_lem c))

pub loop-part-preserved-in-Domain : goal.loop-part-preserved-in-Domain
loop-part-preserved-in-Domain c = found.walks_domain c.loop-part.invariant (is_domain_lem c) refl

pub slice_bounds-other_imports-count : goal.slice_bounds-other_imports-count
slice_bounds-other_imports-count c = omega (arith, package_in c)

pub slice_bounds-other_imports-start : goal.slice_bounds-other_imports-start
slice_bounds-other_imports-start c = omega (arith, package_in c)

pub slice_bounds-other_imports-end : goal.slice_bounds-other_imports-end
slice_bounds-other_imports-end c = omega (arith, package_in c)

pub other_imports-requires : goal.other_imports-requires
other_imports-requires c =
    (store_limits c.args.s.now, (reads (goal.at.other_imports-requires c).In-Package).0, (reads (goal.at.other_imports-requires c).In-Package).1)

pub returns-then-other_imports : goal.returns-then-other_imports
returns-then-other_imports c =
    importers.imported_yes _ _ _ _ c.loop-part.invariant _ _ _ (is_package_lem (goal.at.returns-then-other_imports c).In-Package) (importer_is (goal.at.returns-then-other_imports c).After-other_imports true c.if-other_imports.true)

pub loop-part-smaller : goal.loop-part-smaller
loop-part-smaller c = omega (arith, package_in (goal.at.loop-part-smaller c).In-Package)

pub loop-part-preserved : goal.loop-part-preserved
loop-part-preserved c =
    found.walks_package c.loop-part.invariant (is_package_lem (goal.at.loop-part-preserved c).In-Package) (importer_is (goal.at.loop-part-preserved c).After-other_imports false c.if-other_imports.false)

pub returns : goal.returns
returns c =
    let none = found.none_told c.in_default.is c.entry_at.ensures in
    importers.imported_no c.args.aid.now c.args.s.now c.args.end c.loop-part.at c.loop-part.invariant none
