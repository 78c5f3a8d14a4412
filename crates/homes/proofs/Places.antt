-- A package's home by the place of its entry. Assumes nothing.
use Prim.Native.Nat.{ℕ, ◌+◌, ◌≤◌, ◌<◌}
use native.Mathlib.Omega.{arith}
use mathlib.Core.Path.{◌≡◌, sym, ◌∙◌, ap}
use mathlib.Core.List.{List}
use lib.ListN.{length}
use Rattle.rules.specs.Bytes.{Bytes, Aid}
use Rattle.rules.specs.Store.{Entry, loaded}
use Rattle.rules.specs.Classes.{Installed}
use Rattle.store.specs.Entries.{part, EntryAt}
use Rattle.store.proofs.Parts.{part_length}
use Rattle.index.specs.Index.{file_from, entry_to}
use Rattle.index.proofs.Here.{package_by}
use Rattle.homes.specs.Homes.{PackageFrom, home_of, Stored}
use Rattle.homes.specs.declared.Home.{Home}

-- its head lies within the buffer
pub package_head : (s : Bytes) (p : ℕ) → PackageFrom s p → p + 3 < length s
package_head s p t = let b = package_by s p t.0 t.1 t.2 t.3 in omega (arith, b.head, t.3.to)

-- a home by its three places
pub home_is : (s : Bytes) (p m j : ℕ) → m ≡ file_from s p → j ≡ entry_to s p → ◌≡◌ {A = Home} (record { from = m; to = j; before = p }) (home_of s p)
home_is s p m j e f = rw (e, f)

-- an entry's file lies at the home of its place
pub record HomeBy (s : Bytes) (p : ℕ) (f : Bytes) (j : ℕ) : Type 0 where
  pub file : f ≡ part s (home_of s p).from (home_of s p).to
  pub to : (home_of s p).to ≡ j
  pub inside : p < (home_of s p).from
  pub order : (home_of s p).from ≤ (home_of s p).to

pub home_by : (s : Bytes) (p : ℕ) (d f : Bytes) (j : ℕ) → EntryAt s p (loaded d f) j → HomeBy s p f j
home_by s p d f j t =
    let b = package_by s p d f j t in
    record { file = b.file ∙ ap (part s (file_from s p)) (sym b.to); to = b.to; inside = omega arith; order = omega (arith, b.inside, b.to) }

-- a file that stands as a part of an entry lies at the home of the entry's place
pub entry_home : (s : Bytes) (i j k : ℕ) (d : Aid) → EntryAt s i (loaded d (part s j k)) k → j ≤ k →
    ◌≡◌ {A = Home} (record { from = j; to = k; before = i }) (home_of s i)
entry_home s i j k d t order =
    let b = home_by s i d (part s j k) k t in
    let m = part_length s j k t.to in
    let n = part_length s (home_of s i).from (home_of s i).to (omega (arith, b.to, t.to)) in
    home_is s i j k (omega (arith, ap length b.file, m, n, b.to, b.order, order)) (sym b.to)

-- a stored package's home is that of its entry's place
pub stored_home : {s : Bytes} {es : List Entry} {h : Home} {x : Installed} → Stored s es h x → h ≡ home_of s h.before
stored_home {s} {es} {h} {x} t = entry_home s h.before h.from h.to x.domain t.entry t.order
