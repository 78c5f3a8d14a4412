-- The parts of a package file at their places: each reader taken apart into bytes and smaller readers. Assumes nothing.
--
-- AidPart, ClassNumberPart, ReferencePart, ItemPart == the small formats from place i up to place j, by their bytes
-- item_at ds i         == the item that index i stands for; IsIndex ds i == it is FE, or below the domain count
-- PolicyPart          == FF alone, or a count and that many items
-- CodePart            == a code length and the code
-- handlers_at n s i    == n handlers at a place, by their bytes; handlers_in bs == those that bytes are; HandlersPart == a count and that many handlers
-- MethodPart, ClassPart == a method or a class, with the places where its lists stand
-- FilePart l f p      == a file and the package that it reads as, with the places where the package's lists stand
use Rattle.std.specs.Prelude.{ℕ, zero, suc, ◌+◌, ◌*◌, ◌/◌, ◌≤◌, ◌<◌, ◌≡◌, List, [], ◌∷◌, ◌⊎◌, eqb, length, take, drop, get_or}
use Rattle.rules.specs.Bytes.{Bytes, Aid, pick, least_aid, most_aid, u1, u2, many, aid, counted}
use Rattle.rules.specs.Code.{u2_at, Handler}
use Rattle.rules.specs.Package.{Limits, Format, format_of, most_domains, most_imports, most_references, most_classes, most_methods, most_allowed, most_handlers, Item, listed, own_domain, Policy, every, only, ClassNumber, Reference, Method, Class, Package, class_number, reference, own_index, item, policy, code_if, handlers_if, bit, method, class}
use Rattle.places.specs.Reads.{Reads}

-- an AID with its length
pub record AidPart (s : Bytes) (i : ℕ) (a : Aid) (j : ℕ) : Type 0 where
  pub inside : i < length s
  pub low : least_aid ≤ get_or s i 0
  pub high : get_or s i 0 ≤ most_aid
  pub bytes : take (get_or s i 0) (drop (i + 1) s) ≡ a
  pub next : i + 1 + get_or s i 0 ≡ j
  pub to : j ≤ length s

-- a package number and a class number
pub record ClassNumberPart (s : Bytes) (i : ℕ) (x : ClassNumber) (j : ℕ) : Type 0 where
  pub pack : get_or s i 0 ≡ x.pack
  pub class : get_or s (i + 1) 0 ≡ x.class
  pub next : i + 2 ≡ j
  pub to : j ≤ length s

pub record ReferencePart (s : Bytes) (i : ℕ) (x : Reference) (j : ℕ) : Type 0 where
  pub pack : get_or s i 0 ≡ x.class.pack
  pub class : get_or s (i + 1) 0 ≡ x.class.class
  pub name : u2_at s (i + 2) ≡ x.name
  pub next : i + 4 ≡ j
  pub to : j ≤ length s

-- what an index stands for
abbrev pub item_at : List Aid → ℕ → Item
item_at ds i = pick (eqb i own_index) own_domain (listed (get_or ds i []))

-- FE, or below the domain count
abbrev pub IsIndex : List Aid → ℕ → Type 0
IsIndex ds i = (i ≡ own_index) ⊎ ((i ≡ own_index → ⊥) × (i < length ds))

-- an index of a list
pub record ItemPart (ds : List Aid) (s : Bytes) (i : ℕ) (x : Item) (j : ℕ) : Type 0 where
  pub inside : i < length s
  pub index : IsIndex ds (get_or s i 0)
  pub stands : item_at ds (get_or s i 0) ≡ x
  pub next : i + 1 ≡ j

-- FF alone
pub record EveryPart (s : Bytes) (i : ℕ) (p : Policy) (j : ℕ) : Type 0 where
  pub inside : i < length s
  pub mark : get_or s i 0 ≡ 0xFF
  pub is : every ≡ p
  pub next : i + 1 ≡ j

-- a count and that many items
pub record OnlyPart (ds : List Aid) (s : Bytes) (i : ℕ) (p : Policy) (j : ℕ) : Type 0 where
  pub inside : i < length s
  pub few : get_or s i 0 ≤ most_allowed
  pub listed : List Item
  pub list : Reads (many (get_or s i 0) (item ds)) s (i + 1) listed j
  pub is : only listed ≡ p

abbrev pub PolicyPart : List Aid → Bytes → ℕ → Policy → ℕ → Type 0
PolicyPart ds s i p j = EveryPart s i p j ⊎ OnlyPart ds s i p j

-- a code length and the code
pub record CodePart (l : Limits) (s : Bytes) (i : ℕ) (c : Bytes) (j : ℕ) : Type 0 where
  pub inside : i + 1 < length s
  pub least : 1 ≤ u2_at s i
  pub most : u2_at s i ≤ l.code
  pub bytes : take (u2_at s i) (drop (i + 2) s) ≡ c
  pub next : i + 2 + u2_at s i ≡ j
  pub to : j ≤ length s

-- the handler whose three fields stand at a place
abbrev pub handler_at : Bytes → ℕ → Handler
handler_at s i = record { start = u2_at s i; end = u2_at s (i + 2); target = u2_at s (i + 4) }

-- so many of them, one behind the other
unfoldable pub handlers_at : ℕ → Bytes → ℕ → List Handler
handlers_at zero s i = []
handlers_at (suc n) s i = handler_at s i ∷ handlers_at n s (i + 6)

-- the handlers that bytes are, six each
abbrev pub handlers_in : Bytes → List Handler
handlers_in bs = handlers_at (length bs / 6) bs 0

-- a count and that many handlers
pub record HandlersPart (s : Bytes) (i : ℕ) (hs : List Handler) (j : ℕ) : Type 0 where
  pub inside : i < length s
  pub few : get_or s i 0 ≤ most_handlers
  pub are : handlers_at (get_or s i 0) s (i + 1) ≡ hs
  pub next : i + 1 + 6 * get_or s i 0 ≡ j
  pub to : j ≤ length s

-- the policy stands at i + 3, the code, if there is one, at `middle`, its handlers, if there are, at `behind`
pub record MethodPart (t : Format) (ds : List Aid) (s : Bytes) (i : ℕ) (m : Method) (j : ℕ) : Type 0 where
  pub inside : i + 3 ≤ length s
  pub visible : bit 0x80 (get_or s i 0) ≡ m.visible
  pub implemented : bit 0x40 (get_or s i 0) ≡ m.implemented
  pub static : bit 0x20 (get_or s i 0) ≡ m.static
  pub name : u2_at s (i + 1) ≡ m.name
  pub middle : ℕ
  pub policy : Reads (policy ds) s (i + 3) m.policy middle
  pub behind : ℕ
  pub code : Reads (code_if t.limits m.implemented) s middle m.code behind
  pub handlers : Reads (handlers_if t.edition m.implemented) s behind m.handlers j

-- the parents stand at i + 1, the methods at `middle`
pub record ClassPart (t : Format) (ds : List Aid) (s : Bytes) (i : ℕ) (k : Class) (j : ℕ) : Type 0 where
  pub inside : i < length s
  pub kind : get_or s i 0 ≤ 1
  pub interface : eqb (get_or s i 0) 1 ≡ k.interface
  pub middle : ℕ
  pub parents : Reads (counted t.limits.parents u1 class_number) s (i + 1) k.parents middle
  pub methods : Reads (counted most_methods u1 (method t ds)) s middle k.methods j

-- a file and the package that it reads as: where the package's lists stand
pub record FilePart (l : Limits) (f : Bytes) (p : Package) : Type 0 where
  pub size : u2_at f 5 ≡ length f
  pub domains_at : ℕ
  pub imports_at : ℕ
  pub references_at : ℕ
  pub classes_at : ℕ
  pub named : Reads aid f 7 p.aid domains_at
  pub domains : Reads (counted most_domains u1 aid) f domains_at p.domains imports_at
  pub imports : Reads (counted most_imports u1 aid) f imports_at p.imports references_at
  pub references : Reads (counted most_references u2 reference) f references_at p.references classes_at
  pub classes : Reads (counted most_classes u1 (class (format_of l f) p.domains)) f classes_at p.classes (length f)
