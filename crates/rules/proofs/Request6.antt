-- REQUEST 6, import places: each import is found by its AID before the walk over a file's code, and the walk goes by the places found. A place is
-- where an entry stands, counted from the store's first byte. Assumes nothing.
--   Over a sound list of entries, where question 13 says yes, each import has a place, and this is the place of the one installed package with the
--   import's AID: an entry with such a package stands there, and no other entry has one (OnlyAt: specs/Places.antt).
--   In a sound list of entries a place is found for an AID exactly where that is so.
--   The package at such a place is that of the entry there, and a search by the AID finds the same one.
--   Given the places of its imports, each package number of a file stands for the package that it stands for by AIDs.
--   Given these places, where question 12 says yes, each call of the file names and means what it does with a search by AID at every reference; the
--   search of request 3 goes by these places too. So questions 18 and 19 have the same answers.
--   Other places give other answers: a sound store holds two packages, the AID of one beginning that of the other. With the two places exchanged,
--   question 18 answers otherwise for a file that imports both. So does question 19 for a file with a class below an imported one: a call that
--   names this class then means a declaration of the other package.
use Prim.Native.Nat.{ℕ}
use mathlib.Core.Path.{◌≡◌}
use mathlib.Core.Bool.{true, false}
use mathlib.Core.List.{List, [], ◌∷◌, ◌++◌}
use mathlib.Core.Option.{Option, some}
use lib.Dec.{T}
use Rattle.rules.specs.Bytes.{Bytes, Aid, at}
use Rattle.rules.specs.Code.{Call}
use Rattle.rules.specs.Package.{standard, Package, read_file}
use Rattle.rules.specs.Store.{Opening, version1, opening_limits, Entry}
use Rattle.rules.specs.Classes.{Installed, installed, by_aid, package_numbered}
use Rattle.rules.specs.Questions.{Named, own, call_names, q12_new, q13_imports, q18_calls, q19_allowed}
use Rattle.rules.specs.Operations.{sound_entries}
use Rattle.rules.specs.Places.{package_place, import_places, package_at, OnlyAt, number_placed, call_placed, calls_placed, allowed_placed}
use Rattle.rules.specs.CasesFiles.{P1}
use Rattle.rules.specs.CasesPlaces.{P1-more, prefixed, sevens, inherits}
use Rattle.rules.proofs.PlacedOnce.{place_only, only_place, only_package, import_only}
use Rattle.rules.proofs.PlacedCalls.{number_placed_lem, call_placed_lem, q18_placed, q19_placed}
use Rattle.rules.proofs.WitnessPlaces as witness

pub request6_places : (v : Opening) (n : ℕ) (es : List Entry) → T (sound_entries v n es) → (p : Package) → T (q13_imports (installed (opening_limits v) es) p) →
    (k : ℕ) (a : Aid) → at p.imports k ≡ some a → (place : ℕ) × (at (import_places v es p) k ≡ some (some place)) × OnlyAt v es a place
request6_places = import_only

pub request6_exactly : (v : Opening) (n : ℕ) (es : List Entry) → T (sound_entries v n es) → (a : Aid) (place : ℕ) →
    (package_place v es a ≡ some place → OnlyAt v es a place) × (OnlyAt v es a place → package_place v es a ≡ some place)
request6_exactly v n es h a place = (place_only v n es h a place, only_place v es a place)

pub request6_package : (v : Opening) (es : List Entry) (a : Aid) (place : ℕ) (o : OnlyAt v es a place) →
    (package_at v es place ≡ some (record { domain = o.domain; pack = o.holds.pack }))
    × (by_aid (installed (opening_limits v) es) a ≡ some (record { domain = o.domain; pack = o.holds.pack }))
request6_package = only_package

pub request6_numbers : (v : Opening) (es : List Entry) (self : Installed) (k : ℕ) →
    number_placed v es (import_places v es self.pack) self k ≡ package_numbered (installed (opening_limits v) es) self k
request6_numbers = number_placed_lem

pub request6_calls : (v : Opening) (es : List Entry) (self : Installed) → T (q12_new (installed (opening_limits v) es) self.pack) → (c : Call) →
    call_placed v es (import_places v es self.pack) self c ≡ call_names (opening_limits v) (installed (opening_limits v) es) self c
request6_calls = call_placed_lem

pub request6_walk : (v : Opening) (es : List Entry) (self : Installed) → T (q12_new (installed (opening_limits v) es) self.pack) →
    (calls_placed v es (import_places v es self.pack) self ≡ q18_calls (opening_limits v) (installed (opening_limits v) es) self)
    × (allowed_placed v es (import_places v es self.pack) self ≡ q19_allowed (opening_limits v) (installed (opening_limits v) es) self)
request6_walk v es self q12 = (q18_placed v es self q12, q19_placed v es self q12)

-- a file that passes questions 12 and 13 over the two packages, and the places of its imports
pub record Importer (file : Bytes) : Type 0 where
  pub self : Installed
  pub reads : read_file standard file ≡ some self.pack
  pub new : T (q12_new (installed standard prefixed) self.pack)
  pub imported : T (q13_imports (installed standard prefixed) self.pack)
  pub imports : self.pack.imports ≡ P1 ∷ P1-more ∷ []
  pub places : import_places version1 prefixed self.pack ≡ some 15 ∷ some 59 ∷ []

-- by places, a call names the file's own class 0 and means a declaration of the package with an AID
abbrev Inherits : Installed → Call → List (Option ℕ) → Aid → Type 0
Inherits self c places a = (x : Named) × (call_placed version1 prefixed places self c ≡ some x) × (x.class ≡ own self 0)
    × (x.means.class.home.pack.aid ≡ a)

pub record Witness : Type 0 where
  pub begins : P1-more ≡ P1 ++ 0x01 ∷ []
  pub sound : T (sound_entries version1 256 prefixed)
  pub caller : Importer sevens
  pub passes : calls_placed version1 prefixed (some 15 ∷ some 59 ∷ []) caller.self ≡ true
  pub exchanged : calls_placed version1 prefixed (some 59 ∷ some 15 ∷ []) caller.self ≡ false
  pub heir : Importer inherits
  pub call : Call
  pub means : Inherits heir.self call (some 15 ∷ some 59 ∷ []) P1
  pub means_other : Inherits heir.self call (some 59 ∷ some 15 ∷ []) P1-more
  pub allowed : allowed_placed version1 prefixed (some 15 ∷ some 59 ∷ []) heir.self ≡ true
  pub refused : allowed_placed version1 prefixed (some 59 ∷ some 15 ∷ []) heir.self ≡ false

pub request6_witness : Witness
request6_witness = record {
  begins = witness.aid_begins;
  sound = witness.prefixed_sound;
  caller = record {
    self = witness.caller;
    reads = (witness.both_read).0;
    new = (witness.both_asked).0.0;
    imported = (witness.both_asked).0.1;
    imports = (witness.both_import).0;
    places = (witness.both_places).0;
  };
  passes = (witness.calls_exchanged).0;
  exchanged = (witness.calls_exchanged).1;
  heir = record {
    self = witness.heir;
    reads = (witness.both_read).1;
    new = (witness.both_asked).1.0;
    imported = (witness.both_asked).1.1;
    imports = (witness.both_import).1;
    places = (witness.both_places).1;
  };
  call = witness.by_static;
  means = witness.inherits_placed;
  means_other = witness.inherits_exchanged;
  allowed = (witness.allowed_exchanged).0;
  refused = (witness.allowed_exchanged).1;
}
