-- Packages found by their AIDs: by an index, and a file's imports once, their places kept in a table. Assumes nothing.
--
-- Indexed s end index  == an index of the entries that end at a place, whose files read
-- places_length         == a place for each import
-- home_at s t k         == the home of the package whose entry stands at the place that the table t has for import k, counted from 0
-- placed_home s t k     == that home, if the table has a place for import k; home_numbered s end t p == so of package number p, 0 being the own file
-- ImportPlaces f s end t == for each import of the file being judged the table has the place of the package with its AID (request 6), which is the
--                         one that its number stands for, and 0 behind these
-- PlacesStand s t      == at each place that the table has a package's entry stands
use Rattle.std.specs.Prelude.{ℕ, zero, suc, ◌<◌, ◌≤◌, ◌≡◌, List, eqb, length, get_or}
use Rattle.std.specs.Prelude.{Some, None}
use Rattle.std.specs.Prelude.{Option as Optional}
use Rattle.std.proofs.Math.Option.{some}
use Rattle.rules.specs.Bytes.{Bytes, Aid, pick, at}
use Rattle.rules.specs.Store.{Entry, store_limits, store_opening}
use Rattle.rules.specs.Classes.{Installed, installed, package_numbered}
use Rattle.rules.specs.Places.{package_place}
use Rattle.store.specs.Entries.{FilesStand}
use Rattle.index.specs.Index.{IndexIs}
use Rattle.homes.specs.Homes.{Imports, own_home, home_of, PackageFrom, FoundIs}
use Rattle.homes.specs.declared.Home.{Home}

-- an index of the entries that end at a place, whose files read
pub record Indexed (s : Bytes) (end : ℕ) (index : List ℕ) : Type 0 where
  pub files : FilesStand s end
  pub is : IndexIs s end index

abbrev pub places_length : ℕ
places_length = 15

-- the home of the package at the place for import k
abbrev pub home_at : Bytes → List ℕ → ℕ → Home
home_at s t k = home_of s (get_or t k 0)

-- that home, if there is a place
abbrev pub placed_home : Bytes → List ℕ → ℕ → Optional Home
placed_home s t k = pick (eqb (get_or t k 0) 0) None (Some (home_at s t k))

-- the home of the package that a number stands for in the file being judged
abbrev pub home_numbered : Bytes → ℕ → List ℕ → ℕ → Optional Home
home_numbered s end t zero = Some (own_home end)
home_numbered s end t (suc k) = placed_home s t k

pub record ImportPlaces (f s : Bytes) (end : ℕ) (t : List ℕ) : Type 0 where
  pub size : length t ≡ places_length
  pub places : (es : List Entry) (self : Installed) → Imports f s end es self → (k : ℕ) (a : Aid) → at self.pack.imports k ≡ some a →
      package_place (store_opening s) es a ≡ some (get_or t k 0)
  pub found : (es : List Entry) (self : Installed) → Imports f s end es self → (k : ℕ) → k < length self.pack.imports →
      FoundIs f s end es self (own_home end) (package_numbered (installed (store_limits s) es) self (suc k)) (Some (home_at s t k))
  pub past : (es : List Entry) (self : Installed) → Imports f s end es self → (k : ℕ) → length self.pack.imports ≤ k → get_or t k 0 ≡ 0

-- where the table has a place a package's entry stands
abbrev pub PlacesStand : Bytes → List ℕ → Type 0
PlacesStand s t = (k : ℕ) → (get_or t k 0 ≡ 0 → ⊥) → PackageFrom s (get_or t k 0)
