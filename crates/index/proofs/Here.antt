-- The package's entry at a place: where its file stands, and that its own AID is the one that the entry is sorted by. Assumes nothing.
use Prim.Native.Nat.{ℕ, ◌+◌, ◌-◌, ◌≤◌, ◌<◌}
use native.Mathlib.Omega.{arith}
use mathlib.Core.Path.{◌≡◌, refl, sym, ◌∙◌, ap}
use mathlib.Core.Option.{some}
use lib.ListN.{length, get_or, take, drop}
use lib.Seq.{get_or-take, get_or-drop}
use Rattle.rules.specs.Bytes.{Bytes}
use Rattle.rules.specs.Package.{Limits, Package, read_file}
use Rattle.rules.specs.Store.{loaded, first_entry}
use Rattle.rules.proofs.Limits.{first_entry_lem}
use Rattle.store.specs.Entries.{part, EntryAt, own_aid}
use Rattle.store.proofs.Stand.{EntryBy, KindBy, domain_by, loaded_by, kind_by, entry_by}
use Rattle.store.proofs.Parts.{part_length, part_drop, part_take}
use Rattle.store.proofs.Own.{OwnBy, own_by}
use Rattle.sorted.specs.Sorted.{key_place, key_at, Keyed}
use Rattle.sorted.proofs.Table.{key_place_package, key_part}
use Rattle.index.specs.Index.{file_from, entry_to}

-- a file's own AID, by its place in the buffer
pub record OwnHere (s : Bytes) (m j : ℕ) : Type 0 where
  pub inside : m + 7 < length s
  pub to : m + 8 + get_or s (m + 7) 0 ≤ j
  pub is : own_aid (part s m j) ≡ part s (m + 8) (m + 8 + get_or s (m + 7) 0)

pub own_here : (l : Limits) (s : Bytes) (m j : ℕ) (x : Package) → m ≤ j → j ≤ length s → read_file l (part s m j) ≡ some x → OwnHere s m j
own_here l s m j x h k r = record {
  inside = omega (arith, o.inside, part_length s m j k);
  to = omega (arith, o.to, byte, part_length s m j k);
  is = go (get_or s (m + 7) 0) byte (omega (arith, o.to, byte, part_length s m j k));
}
  where
    o : OwnBy (part s m j) x
    o = own_by l (part s m j) x r

    byte : get_or (part s m j) 7 0 ≡ get_or s (m + 7) 0
    byte = get_or-take (j - m) (drop m s) 7 0 (omega (arith, o.inside, part_length s m j k)) ∙ get_or-drop m s 7 0

    go : (n : ℕ) → get_or (part s m j) 7 0 ≡ n → m + 8 + n ≤ j → own_aid (part s m j) ≡ part s (m + 8) (m + 8 + n)
    go n e k =
        let z : 8 + n - 8 ≡ n = omega arith in
        ap (λ (v : ℕ). part (part s m j) 8 (8 + v)) e
        ∙ ap (λ (v : ℕ). take v (drop 8 (part s m j))) z
        ∙ ap (take n) (part_drop s m j 8)
        ∙ part_take s (m + 8) j n k

-- a package's entry by its bytes
pub record PackageBy (s : Bytes) (p : ℕ) (d f : Bytes) (j : ℕ) : Type 0 where
  pub kind : get_or s p 0 ≡ 2
  pub head : p + 3 < j
  pub inside : file_from s p ≤ j
  pub to : entry_to s p ≡ j
  pub domain : d ≡ part s (p + 4) (file_from s p)
  pub file : f ≡ part s (file_from s p) j

pub package_by : (s : Bytes) (p : ℕ) (d f : Bytes) (j : ℕ) → EntryAt s p (loaded d f) j → PackageBy s p d f j
package_by s p d f j t = go (kind_by s p (loaded d f) j b)
  where
    b : EntryBy s p (loaded d f) j
    b = entry_by s p (loaded d f) j t

    go : KindBy s p (loaded d f) j → PackageBy s p d f j
    go (domain_by x) = let e = x.is in let z : ◌≡◌ {A = ℕ} 0 1 = cc in absurd (omega arith)
    go (loaded_by x) =
        record { kind = x.kind; head = omega (arith, x.length); inside = x.inside; to = b.next; domain = let e = x.is in cc; file = let e = x.is in cc }

-- the own AID of a package's file is the one that its entry is sorted by
module _ (l : Limits) (s : Bytes) (p : ℕ) (d f : Bytes) (j : ℕ) (x : Package) (t : EntryAt s p (loaded d f) j) (r : read_file l f ≡ some x) where
  by : PackageBy s p d f j
  by = package_by s p d f j t

  own : OwnHere s (file_from s p) j
  own = own_here l s (file_from s p) j x by.inside t.to (ap (read_file l) (sym by.file) ∙ r)

  place : key_place s p ≡ file_from s p + 7
  place = key_place_package s p by.kind ∙ (omega arith)

  pub package_key_lem : key_at s p ≡ own_aid f
  package_key_lem =
      let e : file_from s p + 7 + 1 ≡ file_from s p + 8 = omega arith in
      sym (key_part s p (file_from s p + 7) (get_or s (file_from s p + 7) 0) (sym place) refl)
      ∙ ap (λ (i : ℕ). part s i (i + get_or s (file_from s p + 7) 0)) e
      ∙ sym own.is
      ∙ ap own_aid (sym by.file)

  pub package_keyed : (first_entry s) ≤ p → Keyed s p
  package_keyed h =
      record { real = omega (arith, (first_entry_lem s).0); head = omega (arith, by.head, t.to); whole = omega (arith, place, ap (λ (i : ℕ). get_or s i 0) place, own.to, t.to) }
