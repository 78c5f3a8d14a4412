-- The entries of a buffer at their places. Assumes nothing.
--
-- part s i j          == the bytes from place i up to place j
-- kind_of b, kind_at s i == the kind of domains that a kind byte stands for, and the one at place i
-- EntryAt s i e j     == the entry e stands from place i up to place j
-- Entries s i es j    == the entries es stand back to back from place i up to place j
-- StandFrom s i j     == entries stand from place i up to place j
-- Holds s es          == the buffer s is the layout of es
-- Laid s u            == s is the layout of entries that end at place u
-- place_of q i es      == of entries that stand from place i: from where up to where the first one stands that the test finds
-- AllRead l es        == the file of each loaded entry reads within the limits l
-- own_aid f            == a file's own AID, by its place
-- lies_in a e          == e is a package that lies in the domain a
-- is_without_int a e    == e is a kind-3 domain with the AID a
use Rattle.std.specs.Prelude.{ℕ, ◌+◌, ◌-◌, ◌≤◌, ◌<◌, ◌≡◌, Bool, false, List, [], ◌∷◌, eqb, length, take, drop, get_or}
use Rattle.std.proofs.Math.Option.{Option, none, some}
use Rattle.rules.specs.Bytes.{Bytes, Aid, pick, same}
use Rattle.rules.specs.Package.{Limits, Package, read_file}
use Rattle.rules.specs.Store.{DomainKind, full, without_int, Entry, domain, loaded, entry_bytes, used, write, entry, entries_of, first_entry, store_limits, store_opening}
use Rattle.rules.specs.Classes.{Installed, installed, by_aid}
use Rattle.rules.specs.Operations.{is_package}

-- the bytes from place i up to place j
abbrev pub part : Bytes → ℕ → ℕ → Bytes
part s i j = take (j - i) (drop i s)

-- the kind of domains that a kind byte other than 2 stands for, and the one at a place
unfoldable pub kind_of : ℕ → DomainKind
kind_of b = pick (eqb b 3) without_int full

abbrev pub kind_at : Bytes → ℕ → DomainKind
kind_at s i = kind_of (get_or s i 0)

-- the entry e stands from place i up to place j
pub record EntryAt (s : Bytes) (i : ℕ) (e : Entry) (j : ℕ) : Type 0 where
  pub is : entry (drop i s) ≡ some (e, drop j s)
  pub to : j ≤ length s

-- the entries stand back to back from place i up to place j
pub data Entries (s : Bytes) : ℕ → List Entry → ℕ → Type 0 where
  over : {i : ℕ} → i ≤ length s → Entries s i [] i
  more : {i j k : ℕ} {e : Entry} {es : List Entry} → EntryAt s i e j → Entries s j es k → Entries s i (e ∷ es) k

-- entries stand from place i up to place j
abbrev pub StandFrom : Bytes → ℕ → ℕ → Type 0
StandFrom s i j = (es : List Entry) × Entries s i es j

-- e is the first of the entries es from place i on; it ends at place j, and the others end at place k
pub record FirstIs (s : Bytes) (i : ℕ) (e : Entry) (j k : ℕ) (es : List Entry) : Type 0 where
  pub rest : List Entry
  pub are : es ≡ e ∷ rest
  pub stands : EntryAt s i e j
  pub after : Entries s j rest k

-- the buffer s is the layout of the entries es
pub record Holds (s : Bytes) (es : List Entry) : Type 0 where
  pub reads : entries_of s ≡ some es
  pub bytes : s ≡ write (store_opening s) (length s) es
  pub stand : Entries s (first_entry s) es (used (store_opening s) es)

-- s is the layout of entries that end at place u
abbrev pub Laid : Bytes → ℕ → Type 0
Laid s u = (es : List Entry) × Holds s es × (u ≡ used (store_opening s) es)

-- of entries that stand from place i: from where up to where the first one stands that the test finds
abbrev pub place_of : (Entry → Bool) → ℕ → List Entry → Option (ℕ × ℕ)
place_of q i [] = none
place_of q i (e ∷ es) = pick (q e) (some (i, i + length (entry_bytes e))) (place_of q (i + length (entry_bytes e)) es)

-- the file of a loaded entry reads
abbrev pub FileReads : Limits → Entry → Type 0
FileReads l (domain k a) = Unit {0}
FileReads l (loaded d f) = (p : Package) × (read_file l f ≡ some p)

-- the file of each loaded entry reads
abbrev pub AllRead : Limits → List Entry → Type 0
AllRead l [] = Unit {0}
AllRead l (e ∷ es) = FileReads l e × AllRead l es

-- entries whose files read stand from the opening bytes up to place k
abbrev pub FilesStand : Bytes → ℕ → Type 0
FilesStand s k = (es : List Entry) × Entries s (first_entry s) es k × AllRead (store_limits s) es

-- a file's own AID, by its place
abbrev pub own_aid : Bytes → Aid
own_aid f = part f 8 (8 + get_or f 7 0)

-- a package that lies in the domain a
abbrev pub lies_in : Aid → Entry → Bool
lies_in a (domain k b) = false
lies_in a (loaded d f) = same a d

-- a kind-3 domain with the AID a
abbrev pub is_without_int : Aid → Entry → Bool
is_without_int a (domain full b) = false
is_without_int a (domain without_int b) = same a b
is_without_int a (loaded d f) = false

-- the package of an AID: its entry stands from place i, its file from place j up to place k
pub record PackageAt (s : Bytes) (es : List Entry) (a : Aid) (i j k : ℕ) : Type 0 where
  pub place : place_of (is_package (store_limits s) a) (first_entry s) es ≡ some (i, k)
  pub home : Installed
  pub stands : EntryAt s i (loaded home.domain (part s j k)) k
  pub inside : i < j
  pub is : by_aid (installed (store_limits s) es) a ≡ some home
  pub reads : read_file (store_limits s) (part s j k) ≡ some home.pack
  pub from : j ≤ k
  pub to : k ≤ length s
