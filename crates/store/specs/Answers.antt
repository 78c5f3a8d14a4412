-- What the answers of the functions over a store say. Assumes nothing.
--
-- LayoutSays s r            == the used value of the entries that s is written from
-- NextSays s i k r          == where the entry at place i ends, which is not after place k
-- FillSays s i k r          == whether entries stand back to back exactly from place i up to place k
-- PartAt s i k r            == the first entry of those that stand from place i up to place k
-- SpotAt q s k r            == where the first entry stands that the test finds, of those that end at place k
-- FileAt s k a r            == the package of an AID, among the entries that end at place k
-- InUse s k a r             == whether a package lies in the domain, among the entries that end at place k
-- Fits s u e r              == question 21, of whatever entries end at place u
-- SubsetSays s k a r        == whether the domain is of kind 3, among the entries that end at place k
use Rattle.std.specs.Prelude.{ℕ, ◌≤◌, ◌≡◌, Bool, true, false, not, List, [], length, Some, None}
use Rattle.std.specs.Prelude.{Option as Optional}
use Rattle.std.proofs.Math.Option.{Option, none, some}
use Rattle.rules.specs.Bytes.{Bytes, Aid, ◌and_then◌}
use Rattle.rules.specs.Store.{Entry, domain, loaded, used, first_entry, store_limits, entries_of, store_opening}
use Rattle.rules.specs.Classes.{installed, by_aid}
use Rattle.rules.specs.Questions.{q6_empty, keeps_subset, q21_fits}
use Rattle.rules.specs.Operations.{is_package}
use Rattle.fields.specs.Told.{told}
use Rattle.store.specs.Entries.{part, kind_at, Holds, EntryAt, Entries, FirstIs, place_of, AllRead, PackageAt}
use Rattle.store.specs.declared.EntryPart.{EntryPart}
use Rattle.store.specs.declared.EntryPart.TheVariants.{Domain, Package}
use Rattle.store.specs.declared.EntryPlace.{EntryPlace}
use Rattle.store.specs.declared.FileBounds.{FileBounds}

-- the used value of the entries that s is written from, if any
abbrev pub LayoutSays : Bytes → Optional ℕ → Type 0
LayoutSays s r = (told r ≡ (entries_of s and_then λ es. some (used (store_opening s) es))) × ((es : List Entry) → entries_of s ≡ some es → Holds s es)

-- where the entry at place i ends, which is not after place k
abbrev pub NextSays : Bytes → ℕ → ℕ → Optional ℕ → Type 0
NextSays s i k (Some j) = (e : Entry) × EntryAt s i e j × (j ≤ k)
NextSays s i k None = (e : Entry) (j : ℕ) → EntryAt s i e j → j ≤ k → ⊥

-- entries stand back to back exactly from place i up to place k, or none do
abbrev pub FillSays : Bytes → ℕ → ℕ → Bool → Type 0
FillSays s i k true = (es : List Entry) × Entries s i es k
FillSays s i k false = (es : List Entry) → Entries s i es k → ⊥

-- the first entry of those that stand from place i up to place k
abbrev pub PartSays : Bytes → ℕ → ℕ → List Entry → Optional EntryPart → Type 0
PartSays s i k es (Some (Domain a j)) = (a ≤ j) × FirstIs s i (domain (kind_at s i) (part s a j)) j k es
PartSays s i k es (Some (Package a f j)) = (a ≤ f) × (f ≤ j) × FirstIs s i (loaded (part s a f) (part s f j)) j k es
PartSays s i k es None = (es ≡ []) × (i ≡ k)

-- whatever entries stand from place i up to place k
abbrev pub PartAt : Bytes → ℕ → ℕ → Optional EntryPart → Type 0
PartAt s i k r = (es : List Entry) → Entries s i es k → PartSays s i k es r

-- from where up to where an entry stands
abbrev pub spot : Optional EntryPlace → Option (ℕ × ℕ)
spot (Some p) = some (p.at, p.next)
spot None = none

-- where the first entry stands that the test finds, of whatever entries end at place k
abbrev pub SpotAt : (Entry → Bool) → Bytes → ℕ → Optional EntryPlace → Type 0
SpotAt q s k r = (es : List Entry) → Entries s (first_entry s) es k → spot r ≡ place_of q (first_entry s) es

-- the package of an AID
abbrev pub FileSays : Bytes → List Entry → Aid → Optional FileBounds → Type 0
FileSays s es a (Some b) = PackageAt s es a b.at b.from b.to
FileSays s es a None = (place_of (is_package (store_limits s) a) (first_entry s) es ≡ none) × (by_aid (installed (store_limits s) es) a ≡ none)

-- the package of an AID, among whatever entries whose files read end at place k
abbrev pub FileAt : Bytes → ℕ → Aid → Optional FileBounds → Type 0
FileAt s k a r = (es : List Entry) → Entries s (first_entry s) es k → AllRead (store_limits s) es → FileSays s es a r

-- a package lies in the domain, among whatever entries whose files read end at place k
abbrev pub InUse : Bytes → ℕ → Aid → Bool → Type 0
InUse s k a r = (es : List Entry) → Entries s (first_entry s) es k → AllRead (store_limits s) es → r ≡ not (q6_empty (installed (store_limits s) es) a)

-- 21, of whatever entries end at place u
abbrev pub Fits : Bytes → ℕ → Entry → Bool → Type 0
Fits s u e r = (es : List Entry) → used (store_opening s) es ≡ u → r ≡ q21_fits (store_opening s) (length s) es e

-- the domain is of kind 3, among whatever entries end at place k
abbrev pub SubsetSays : Bytes → ℕ → Aid → Bool → Type 0
SubsetSays s k a r = (es : List Entry) → Entries s (first_entry s) es k → r ≡ keeps_subset es a
