-- A file that reads has 18 bytes or more, and the entry of a package 27. Assumes nothing.
use Prim.Native.Nat.{ℕ, ◌+◌, ◌≤◌}
use native.Mathlib.Omega.{arith}
use mathlib.Core.Path.{◌≡◌}
use mathlib.Core.Option.{some}
use lib.ListN.{length, length-append}
use Rattle.rules.specs.Bytes.{Bytes, Aid, aid}
use Rattle.rules.specs.Package.{Limits, format_of, most_domains, most_imports, most_references, most_classes, Package, reference, class, read_file}
use Rattle.rules.specs.Store.{loaded}
use Rattle.places.proofs.Steady.{steady_aid, steady_reference, steady_class}
use Rattle.places.proofs.Inverse.{counted_one, counted_two}
use Rattle.places.proofs.Parts.{aid_part, file_parts}
use Rattle.store.specs.Entries.{EntryAt}
use Rattle.store.proofs.Stand.{entry_next}

-- mark, version, size, an AID of 5 bytes with its length, and four counts
pub file_least : (l : Limits) (f : Bytes) (p : Package) → read_file l f ≡ some p → 18 ≤ length f
file_least l f p r =
    let t = file_parts l f p r in
    let a = aid_part f 7 p.aid t.domains_at t.named in
    let d = counted_one most_domains aid steady_aid f t.domains_at p.domains t.imports_at t.domains in
    let i = counted_one most_imports aid steady_aid f t.imports_at p.imports t.references_at t.imports in
    let e = counted_two most_references reference steady_reference f t.references_at p.references t.classes_at t.references in
    let c = counted_one most_classes (class (format_of l f) p.domains) (steady_class (format_of l f) p.domains) f t.classes_at p.classes
    (length f) t.classes in
    omega (arith, a.next, a.low)

-- kind, body length and the length of the domain's AID, the domain's AID, the file
pub package_least : (l : Limits) (s : Bytes) (at next : ℕ) (d : Aid) (f : Bytes) (p : Package) → EntryAt s at (loaded d f) next → 5 ≤ length d →
    read_file l f ≡ some p → at + 27 ≤ next
package_least l s at next d f p t h r = omega (arith, entry_next s at (loaded d f) next t, length-append d f, file_least l f p r)
