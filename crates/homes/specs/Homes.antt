-- A package being judged over the entries before it, and where each package's file lies. Assumes nothing.
--
-- f, s, end             == the file being judged, the buffer, the place where the earlier entries end
-- Setting f s end es self == es are these entries, sound, and self is the file's package with its domain
-- Imports               == a setting in which question 13 was answered yes; Parents == and each parent exists, an own one with a smaller number
-- own_home end, home_of s p == the home of the file being judged; of the package whose entry stands at place p
-- file_of f s h          == the file at home h
-- format_at s g          == what a file g is read by in the store s
-- HomeIs f s end es self h x == the file of the installed package x, or of self, is the one at home h
-- aid_at s i             == the AID that stands at place i of the store, its length before it
-- DomainAt s d self     == the domain of the package being judged stands at place d
-- domain_place h d       == where the domain of the package at home h stands, if that of the file being judged stands at d
-- HomeThere, OfHome     == what a function over a home requires, and how it ensures
-- NumberedIs f s h k r  == r is the home of the package that number k stands for in the file at h
-- ClassPlaced, RecordIs == the record of a class, by its place and as a part of its file
use Rattle.std.specs.Prelude.{ℕ, zero, suc, ◌+◌, ◌<◌, ◌≤◌, ◌≡◌, List, [], ◌∷◌, ◌++◌, T, eqb, take, drop, get_or}
use Rattle.std.specs.Prelude.{Some, None}
use Rattle.std.specs.Prelude.{Option as Optional}
use Rattle.fields.specs.Told.{told}
use Rattle.std.proofs.Math.Option.{Option, none, some}
use Rattle.rules.specs.Bytes.{Bytes, Aid, pick, all, all_from, at, aid}
use Rattle.rules.specs.Package.{Limits, Format, format_of, Package, class, read_file}
use Rattle.rules.specs.Store.{Entry, loaded, first_entry, store_limits, store_opening}
use Rattle.rules.specs.Classes.{Installed, installed, by_aid, package_numbered}
use Rattle.rules.specs.Questions.{q13_imports, parent_exists}
use Rattle.rules.specs.Operations.{accepted_all}
use Rattle.store.specs.Entries.{part, EntryAt, Entries, AllRead, PackageAt}
use Rattle.index.specs.Index.{file_from, entry_to}
use Rattle.places.specs.Reads.{Ends, Placed}
use Rattle.homes.specs.declared.Home.{Home}

-- the file being judged, over sound entries that end at a place
pub record Setting (f s : Bytes) (end : ℕ) (es : List Entry) (self : Installed) : Type 0 where
  pub stand : Entries s (first_entry s) es end
  pub size : ℕ
  pub sound : T (accepted_all (store_opening s) size [] es)
  pub reads : read_file (store_limits s) f ≡ some self.pack

-- each import is installed
pub record Imports (f s : Bytes) (end : ℕ) (es : List Entry) (self : Installed) : Type 0 where
  pub setting : Setting f s end es self
  pub imports : T (q13_imports (installed (store_limits s) es) self.pack)

-- each parent exists, an own one with a smaller number
pub record Parents (f s : Bytes) (end : ℕ) (es : List Entry) (self : Installed) : Type 0 where
  pub imported : Imports f s end es self
  pub exist : T (all_from (λ i k. all (parent_exists (installed (store_limits s) es) self i) k.parents) 0 self.pack.classes)

-- the bytes of a file from a place on
abbrev pub record_from : Bytes → Optional ℕ → Bytes
record_from g (Some i) = drop i g
record_from g None = []

-- the home of the file being judged
abbrev pub own_home : ℕ → Home
own_home end = record { from = 0; to = 0; before = end }

-- a package's entry stands from a place on
abbrev pub PackageFrom : Bytes → ℕ → Type 0
PackageFrom s p = (d : Aid) × (f : Bytes) × (j : ℕ) × EntryAt s p (loaded d f) j

-- the home of the package whose entry stands at a place
abbrev pub home_of : Bytes → ℕ → Home
home_of s p = record { from = file_from s p; to = entry_to s p; before = p }

-- the file at a home
abbrev pub file_of : Bytes → Bytes → Home → Bytes
file_of f s h = pick (eqb h.from 0) f (part s h.from h.to)

abbrev pub format_at : Bytes → Bytes → Format
format_at s g = format_of (store_limits s) g

-- an entry's file lies at a home
pub record Stored (s : Bytes) (es : List Entry) (h : Home) (x : Installed) : Type 0 where
  pub pre : List Entry
  pub post : List Entry
  pub are : es ≡ pre ++ loaded x.domain (part s h.from h.to) ∷ post
  pub stand : Entries s (first_entry s) pre h.before
  pub entry : EntryAt s h.before (loaded x.domain (part s h.from h.to)) h.to
  pub reads : read_file (store_limits s) (part s h.from h.to) ≡ some x.pack
  pub inside : h.before < h.from
  pub order : h.from ≤ h.to

pub data HomeIs (f s : Bytes) (end : ℕ) (es : List Entry) (self : Installed) : Home → Installed → Type 0 where
  own : HomeIs f s end es self (own_home end) self
  stored : {h : Home} {x : Installed} → Stored s es h x → HomeIs f s end es self h x

-- the AID that stands at a place, its length before it
abbrev pub aid_at : Bytes → ℕ → Aid
aid_at s i = take (get_or s i 0) (drop (i + 1) s)

-- the domain of the package being judged stands at a place
pub record DomainAt (s : Bytes) (d : ℕ) (self : Installed) : Type 0 where
  pub there : Ends aid s d
  pub is : self.domain ≡ aid_at s d

-- where the domain of the package at a home stands: behind kind and body length of its entry, or for the file being judged at d
abbrev pub domain_place : Home → ℕ → ℕ
domain_place h d = pick (eqb h.from 0) d (h.before + 3)

-- a package being judged, and a package at a home, whose file lies in it
abbrev pub HomeThere : Bytes → Bytes → Home → Type 0
HomeThere f s h = (end : ℕ) × (es : List Entry) × (self : Installed) × Imports f s end es self × (x : Installed) × HomeIs f s end es self h x

-- a fact of every such setting, and of the package at the home there
abbrev pub OfHome : Bytes → Bytes → Home → ((end : ℕ) (es : List Entry) (self : Installed) → Installed → Type 0) → Type 0
OfHome f s h q = (end : ℕ) (es : List Entry) (self : Installed) → Imports f s end es self → (x : Installed) → HomeIs f s end es self h x → q end es self x

-- the package told, if one is told, lies at its home, whose entry stands before that of home h
abbrev pub FoundIs : Bytes → Bytes → ℕ → List Entry → Installed → Home → Option Installed → Optional Home → Type 0
FoundIs f s end es self h o (Some g) = (y : Installed) × (o ≡ some y) × HomeIs f s end es self g y × (g.before < h.before)
FoundIs f s end es self h o None = o ≡ none

-- the package of an AID among the entries that end at a place lies at the home told, if one is told
abbrev pub HomeSays : Bytes → List Entry → Aid → Optional Home → Type 0
HomeSays s es a (Some h) = PackageAt s es a h.before h.from h.to
HomeSays s es a None = by_aid (installed (store_limits s) es) a ≡ none

abbrev pub ByAid : Bytes → ℕ → Aid → Optional Home → Type 0
ByAid s end a r = (es : List Entry) → Entries s (first_entry s) es end → AllRead (store_limits s) es → HomeSays s es a r

-- the package that a package number stands for in the file at home h: 0 the same home, else an earlier one
abbrev pub NumberedIs : Bytes → Bytes → Home → ℕ → Optional Home → Type 0
NumberedIs f s h zero r = r ≡ Some h
NumberedIs f s h (suc k) r = OfHome f s h λ end es self x. FoundIs f s end es self h (package_numbered (installed (store_limits s) es) x (suc k)) r

-- the place of import k of a file
abbrev pub ImportPlaced : Bytes → ℕ → Optional ℕ → Type 0
ImportPlaced g k r = (l : Limits) (p : Package) → read_file l g ≡ some p → Placed aid g (at p.imports k) (told r)

-- the place of the record of class n in the file at home h
abbrev pub ClassPlaced : Bytes → Bytes → Home → ℕ → Optional ℕ → Type 0
ClassPlaced f s h n r = OfHome f s h λ end es self x. Placed (class (format_at s (file_of f s h)) x.pack.domains) (file_of f s h)
    (at x.pack.classes n) (told r)

-- the record of class n, as a part of the file at home h; no bytes where it has no such class
abbrev pub RecordIs : Bytes → Bytes → Home → ℕ → Bytes → Type 0
RecordIs f s h n r = OfHome f s h λ end es self x. (c : Optional ℕ) × Placed (class (format_at s (file_of f s h)) x.pack.domains) (file_of f s h)
    (at x.pack.classes n)
    (told c) × (r ≡ record_from (file_of f s h) c)
