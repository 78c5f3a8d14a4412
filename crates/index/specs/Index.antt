-- The packages of a store by their AIDs: a table of the places of their entries, sorted by AID. Assumes nothing.
--
-- file_from s p          == where the file of the package's entry at place p begins
-- entry_to s p           == where the entry at place p ends
-- Stood s end p e j     == the entry e stands from place p up to place j, behind others and not past place end
-- KeyedOf key s end p   == an entry stands from place p on, likewise, that has an AID under a key: the one that it is sorted by
-- TableOf key s end l   == the table l has the places of the entries that end at place end and have an AID under a key, and no others
-- package_key e          == a package's own AID
-- least_package          == the bytes of a package's entry at least: 4, a domain's AID of 5, a file of 18
-- IndexIs s end index   == the packages of the entries that end at place end have been entered, and nothing else
-- PackageStands s p i j == a package's entry that may be entered: it stands from place p up to place j, its file from place i on
use Rattle.std.specs.Prelude.{ℕ, ◌+◌, ◌*◌, ◌≤◌, ◌≡◌, true, List, length, get_or}
use Rattle.std.proofs.Math.Option.{Option, none, some}
use Rattle.rules.specs.Bytes.{Bytes, Aid, least_aid}
use Rattle.rules.specs.Code.{u2_at}
use Rattle.rules.specs.Package.{Package, read_file}
use Rattle.rules.specs.Store.{Entry, domain, loaded, first_entry, store_limits}
use Rattle.rules.specs.Classes.{installed}
use Rattle.rules.specs.Questions.{q12_new}
use Rattle.store.specs.Entries.{part, EntryAt, Entries, StandFrom, AllRead, own_aid}
use Rattle.sorted.specs.Sorted.{key_at, count, Has, Sorted}

-- behind kind, body length and the loading domain's AID with its length
abbrev pub file_from : Bytes → ℕ → ℕ
file_from s p = p + 4 + get_or s (p + 3) 0

-- behind kind, body length and body
abbrev pub entry_to : Bytes → ℕ → ℕ
entry_to s p = p + 3 + u2_at s (p + 1)

-- the entry e stands from place p up to place j, behind others and not past place end
pub record Stood (s : Bytes) (end p : ℕ) (e : Entry) (j : ℕ) : Type 0 where
  pub behind : StandFrom s (first_entry s) p
  pub stands : EntryAt s p e j
  pub to : j ≤ end

-- an entry stands from place p on that has an AID under a key, the one it is sorted by
pub record KeyedOf (key : Entry → Option Aid) (s : Bytes) (end p : ℕ) : Type 0 where
  pub one : Entry
  pub next : ℕ
  pub stood : Stood s end p one next
  pub named : key one ≡ some (key_at s p)

-- the entries that end at a place and have an AID under a key have been entered, and nothing else
pub record TableOf (key : Entry → Option Aid) (s : Bytes) (end : ℕ) (l : List ℕ) : Type 0 where
  pub behind : StandFrom s (first_entry s) end
  pub sorted : Sorted s l
  pub only : (p : ℕ) → Has l p → KeyedOf key s end p
  pub all : (p : ℕ) (e : Entry) (j : ℕ) (a : Aid) → Stood s end p e j → key e ≡ some a → Has l p

-- a package's own AID
abbrev pub package_key : Entry → Option Aid
package_key (domain k a) = none
package_key (loaded d f) = some (own_aid f)

abbrev pub least_package : ℕ
least_package = 27

-- the packages of the entries that end at a place have been entered, and nothing else; there is room for every package of the buffer
pub record IndexIs (s : Bytes) (end : ℕ) (index : List ℕ) : Type 0 where
  pub table : TableOf package_key s end index
  pub room : length s ≤ least_package * length index
  pub few : least_package * count index + (first_entry s) ≤ end

-- a package's entry stands from place p up to place j, its file from place i on: the file reads, the domain's AID has 5 bytes or more,
-- and question 12 answers yes
pub record PackageStands (s : Bytes) (p i j : ℕ) : Type 0 where
  pub home : Aid
  pub pack : Package
  pub stands : EntryAt s p (loaded home (part s i j)) j
  pub from : i ≤ j
  pub long : least_aid ≤ length home
  pub reads : read_file (store_limits s) (part s i j) ≡ some pack
  pub new : (es : List Entry) → Entries s (first_entry s) es p → AllRead (store_limits s) es → q12_new (installed (store_limits s) es) pack ≡ true
