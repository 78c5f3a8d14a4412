-- `pages::put_lines` meets its contract: what is put and counted, with what is left, is all. Assumes nothing.
use native.Mathlib.Omega.{arith}
use Prim.Native.Nat.{◌≤◌}
use mathlib.Core.Path.{refl, ◌∙◌}
use lib.ListN.{length}
use Rattle.store.specs.Answers.{PartAt}
use Rattle.std.specs.Prelude.{Some}
use Rattle.store.specs.declared.EntryPart.TheVariants as parts
use Rattle.store.proofs.Find.{part_told, none_told}
use Rattle.store.proofs.Sound.{small}
use Rattle.store.proofs.Stand.{entries_to}
use Rattle.rules.specs.Store.{store_limits}
use Rattle.pages.proofs.Left.{PackageIn, left_stand, left_start, domain_in, package_in, left_domain, left_package, left_end}
use Rattle.pages.proofs.put_lines.Goals as goal
use Rattle.pages.proofs.put_lines.Goals.{At-loop-part, In-Domain, In-Package}

-- the store has at most 65,535 bytes
short : (t : At-loop-part) → length t.args.s.now ≤ 65535
short t = small t.args.s.now t.args.used t.requires.0

-- its entries end within it
used-in : (t : At-loop-part) → t.args.used ≤ 65535
used-in t =
    omega (arith, short t, entries_to t.args.s.now t.loop-part.i t.loop-part.invariant.0.rest t.args.used t.loop-part.invariant.0.stand)

-- the turn's place
below : (t : At-loop-part) → t.loop-part.i ≤ 65535
below t =
    omega (arith, used-in t, entries_to t.args.s.now t.loop-part.i t.loop-part.invariant.0.rest t.args.used t.loop-part.invariant.0.stand)

-- the turn's entry is a domain's
is_domain_lem : (k : In-Domain) →
    PartAt k.args.s.now k.loop-part.i k.args.used (Some (parts.Domain k.in-Domain.from k.in-Domain.next))
is_domain_lem k = part_told k.in-Some.is k.in-Domain.is k.entry_at.ensures

-- the turn's entry is a package's, and its places
is_package_lem : (k : In-Package) →
    PartAt k.args.s.now k.loop-part.i k.args.used (Some (parts.Package k.in-Package.from k.in-Package.file k.in-Package.next))
is_package_lem k = part_told k.in-Some.is k.in-Package.is k.entry_at.ensures

inside : (k : In-Package) →
    PackageIn k.args.s.now k.args.used k.loop-part.i k.in-Package.from k.in-Package.file k.in-Package.next
inside k = package_in k.loop-part.invariant.0 (is_package_lem k)

pub loop-part-init : goal.loop-part-init
loop-part-init c =
    (left_start c.args.s.now c.args.used _ _ c.requires.0 c.first_entry-i.ensures, refl)

pub entry_at-requires : goal.entry_at-requires
entry_at-requires c = left_stand c.loop-part.invariant.0

pub loop-part-smaller-in-Domain : goal.loop-part-smaller-in-Domain
loop-part-smaller-in-Domain c = omega (arith, domain_in c.loop-part.invariant.0 (is_domain_lem c))

pub loop-part-preserved-in-Domain : goal.loop-part-preserved-in-Domain
loop-part-preserved-in-Domain c =
    (left_domain c.loop-part.invariant.0 (is_domain_lem c), c.loop-part.invariant.1)

pub slice_bounds-methods_in-count : goal.slice_bounds-methods_in-count
slice_bounds-methods_in-count c = (inside c).to

pub slice_bounds-methods_in-start : goal.slice_bounds-methods_in-start
slice_bounds-methods_in-start c = let x = inside c in omega (arith, x.to, x.end, x.inside)

pub slice_bounds-methods_in-end : goal.slice_bounds-methods_in-end
slice_bounds-methods_in-end c = let x = inside c in omega (arith, x.to, x.end, x.inside)

pub methods_in-n-requires : goal.methods_in-n-requires
methods_in-n-requires c =
    let x = inside (goal.at.methods_in-n-requires c).In-Package in
    (store_limits c.args.s.now, x.pack, x.reads)

pub slice_bounds-put_line-count : goal.slice_bounds-put_line-count
slice_bounds-put_line-count c = (inside (goal.at.slice_bounds-put_line-count c).In-Package).from

pub slice_bounds-put_line-start : goal.slice_bounds-put_line-start
slice_bounds-put_line-start c = let x = inside (goal.at.slice_bounds-put_line-start c).In-Package in omega (arith, x.from, x.to, x.end, x.inside)

pub slice_bounds-put_line-end : goal.slice_bounds-put_line-end
slice_bounds-put_line-end c = let x = inside (goal.at.slice_bounds-put_line-end c).In-Package in omega (arith, x.from, x.to, x.end, x.inside)

pub slice_bounds-put_line-count-in-Package : goal.slice_bounds-put_line-count-in-Package
slice_bounds-put_line-count-in-Package c = (inside (goal.at.slice_bounds-put_line-count-in-Package c).In-Package).to

pub slice_bounds-put_line-start-in-Package : goal.slice_bounds-put_line-start-in-Package
slice_bounds-put_line-start-in-Package c = let x = inside (goal.at.slice_bounds-put_line-start-in-Package c).In-Package in omega (arith, x.to, x.end, x.inside)

pub slice_bounds-put_line-end-in-Package : goal.slice_bounds-put_line-end-in-Package
slice_bounds-put_line-end-in-Package c = let x = inside (goal.at.slice_bounds-put_line-end-in-Package c).In-Package in omega (arith, x.to, x.end, x.inside)

pub put_line-at-requires : goal.put_line-at-requires
put_line-at-requires c =
    let x = inside (goal.at.put_line-at-requires c).In-Package in
    record { readable = ((store_limits c.args.s.now, x.pack, x.reads), omega (arith, x.size, x.end, used-in (goal.at.put_line-at-requires c).At-loop-part), c.methods_in-n.ensures.1); file_in_bounds = omega (arith, c.loop-part.invariant.0.room, c.loop-part.invariant.1, x.size, x.end, used-in (goal.at.put_line-at-requires c).At-loop-part, c.requires.1) }

pub overflow_add-packages : goal.overflow_add-packages
overflow_add-packages c =
    omega (arith, c.loop-part.invariant.0.few.0, below (goal.at.overflow_add-packages c).At-loop-part)

pub overflow_sub-bytes : goal.overflow_sub-bytes
overflow_sub-bytes c = (inside (goal.at.overflow_sub-bytes c).In-Package).to

pub overflow_add-bytes : goal.overflow_add-bytes
overflow_add-bytes c =
    omega (arith, c.loop-part.invariant.0.few.1, (inside (goal.at.overflow_add-bytes c).In-Package).end, below (goal.at.overflow_add-bytes c).At-loop-part, used-in (goal.at.overflow_add-bytes c).At-loop-part)

pub overflow_add-methods : goal.overflow_add-methods
overflow_add-methods c =
    omega (arith, c.loop-part.invariant.0.few.2, c.methods_in-n.ensures.1, below (goal.at.overflow_add-methods c).At-loop-part)

pub loop-part-smaller : goal.loop-part-smaller
loop-part-smaller c = let x = inside (goal.at.loop-part-smaller c).In-Package in omega (arith, x.size, x.end)

pub loop-part-preserved : goal.loop-part-preserved
loop-part-preserved c = (
  left_package c.loop-part.invariant.0 (used-in (goal.at.loop-part-preserved c).At-loop-part) (is_package_lem (goal.at.loop-part-preserved c).In-Package) c.methods_in-n.ensures c.put_line-at.ensures,
  (c.put_line-at.ensures (store_limits c.args.s.now) (inside (goal.at.loop-part-preserved c).In-Package).pack (inside (goal.at.loop-part-preserved c).In-Package).reads).kept ∙ c.loop-part.invariant.1,
)

pub shape_of-out : goal.shape_of-out
shape_of-out c = c.loop-part.invariant.1

pub returns : goal.returns
returns c =
    left_end _ c.loop-part.invariant.0 (used-in (goal.at.returns c).At-loop-part) (none_told c.in_default.is c.entry_at.ensures)
