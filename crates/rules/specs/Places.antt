-- Where the imports of a file lie, and what its calls name by these places (document 02, request 6). Assumes nothing.
--
-- v, es, self          == the store's opening, its entries, the package of the file with the domain that loads it
-- place_from l a i es   == of entries that stand from place i on, the place of the one that holds the package with AID a
-- package_place v es a  == its place in a store, counted from the store's first byte
-- import_places v es p  == the places of a package's imports, in listed order
-- package_from l p i es == of entries that stand from place i on, the package of the one at place p; package_at v es p == so in a store
-- PackageFile l a f    == f is the file of a package with AID a
-- OnlyAt v es a p      == at place p stands an entry that holds a package with AID a, and no other entry holds one
-- number_placed         == the package that a package number of the file stands for, by the places given
-- class_placed          == the class that a class number of the file names, by the places
-- own_parents           == the parents of a class of the file, by the places
-- parents_placed        == a class's parents: those of a class of the file by the places, those of any other class by AIDs
-- reference_placed, call_placed == what a reference or a call of the file names, by the places
-- calls_placed, allowed_placed  == questions 18 and 19, asked of what the calls name by the places
use Rattle.std.specs.Prelude.{ℕ, zero, suc, ◌+◌, ◌≡◌, Bool, List, [], ◌∷◌, ◌++◌, map, eqb, length}
use Rattle.std.proofs.Math.Option.{Option, none, some}
use Rattle.rules.specs.Bytes.{Bytes, Aid, pick, at, ◌and_then◌, list_of, flat}
use Rattle.rules.specs.Code.{Call}
use Rattle.rules.specs.Package.{Limits, ClassNumber, Reference, Package, read_file}
use Rattle.rules.specs.Store.{Opening, opening_limits, opening_length, Entry, loaded, entry_bytes, used}
use Rattle.rules.specs.Classes.{Installed, installed_by, installed, has_aid, ClassAt, record_of, parents_of}
use Rattle.rules.specs.Search.{search_by}
use Rattle.rules.specs.Questions.{Named, calls_named_by, calls_allowed_by}
use Rattle.rules.specs.Operations.{is_package}

-- of entries that stand from place i on, the place of the one that holds the package with an AID
abbrev pub place_from : Limits → Aid → ℕ → List Entry → Option ℕ
place_from l a i [] = none
place_from l a i (e ∷ es) = pick (is_package l a e) (some i) (place_from l a (i + length (entry_bytes e)) es)

-- its place in a store, counted from the store's first byte
abbrev pub package_place : Opening → List Entry → Aid → Option ℕ
package_place v es a = place_from (opening_limits v) a (opening_length v) es

-- the places of a package's imports, in listed order
abbrev pub import_places : Opening → List Entry → Package → List (Option ℕ)
import_places v es p = map (package_place v es) p.imports

-- of entries that stand from place i on, the package of the one at place p
abbrev pub package_from : Limits → ℕ → ℕ → List Entry → Option Installed
package_from l p i [] = none
package_from l p i (e ∷ es) = pick (eqb p i) (at (installed_by l e) 0) (package_from l p (i + length (entry_bytes e)) es)

-- the package whose entry stands at a place of a store
abbrev pub package_at : Opening → List Entry → ℕ → Option Installed
package_at v es p = package_from (opening_limits v) p (opening_length v) es

-- a file is that of a package with an AID
pub record PackageFile (l : Limits) (a : Aid) (f : Bytes) : Type 0 where
  pub pack : Package
  pub reads : read_file l f ≡ some pack
  pub named : pack.aid ≡ a

-- at a place stands an entry that holds a package with an AID, and no other entry holds one
pub record OnlyAt (v : Opening) (es : List Entry) (a : Aid) (place : ℕ) : Type 0 where
  pub domain : Aid
  pub file : Bytes
  pub before : List Entry
  pub behind : List Entry
  pub entry : es ≡ before ++ loaded domain file ∷ behind
  pub place_is : place ≡ used v before
  pub holds : PackageFile (opening_limits v) a file
  pub only : (d : Aid) (f : Bytes) (pre post : List Entry) → es ≡ pre ++ loaded d f ∷ post → PackageFile (opening_limits v) a f → pre ≡ before

-- what the file's numbers, references and calls name by places given for its imports, in listed order
module _ (v : Opening) (es : List Entry) (places : List (Option ℕ)) (self : Installed) where
  -- number 0 is the file's own package, each further one that at the place of the import
  abbrev pub number_placed : ℕ → Option Installed
  number_placed zero = some self
  number_placed (suc k) = at places k and_then λ o. o and_then package_at v es

  -- the class that a class number names
  abbrev pub class_placed : ClassNumber → Option ClassAt
  class_placed x = number_placed x.pack and_then λ i. some (record { home = i; number = x.class })

  -- the parents of a class of the file that have a package
  abbrev pub own_parents : ClassAt → List ClassAt
  own_parents c = list_of (record_of c) λ k. flat (λ x. list_of (class_placed x) (λ d. d ∷ [])) k.parents

  -- those of any class; a class of the file is one whose package has the file's AID
  abbrev pub parents_placed : ClassAt → List ClassAt
  parents_placed c = pick (has_aid self.pack.aid c.home) (own_parents c) (parents_of (installed (opening_limits v) es) c)

  -- what a reference names: the class, and the declaration that the search finds
  abbrev pub reference_placed : Reference → Option Named
  reference_placed r = class_placed r.class and_then λ c. search_by parents_placed (opening_limits v).depth c r.name and_then λ m.
      some (record { class = c; means = m })

  -- what a call names
  abbrev pub call_placed : Call → Option Named
  call_placed c = at self.pack.references c.index and_then reference_placed

  -- question 18 by the places
  abbrev pub calls_placed : Bool
  calls_placed = calls_named_by call_placed self

  -- question 19 by the places
  abbrev pub allowed_placed : Bool
  allowed_placed = calls_allowed_by call_placed self
