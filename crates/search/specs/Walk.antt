-- The walk of the search over a chain of classes and their interfaces, each interface visited once. Assumes nothing.
--
-- class_code c, spot_in x   == a class as one number, which is not 0; the class that a number tells; class_in == that, or none for 0
-- SpotThere f s end c     == a class is there, over the entries that end at a place
-- visit_spot v             == the class that is visited; VisitPlaced f s v == it is there, its record stands at the place told, its parents are counted
-- VisitOf f s end n c v   == v is the visit of class c for the name n
-- above is k n c          == what the interfaces of a class declare by the name n, in the order of the search; whole == the class itself first
-- along_up g is k n c      == the first that g gives for a class and its kind-0 parents upwards; itself == what a class itself declares;
--                            searched == what is sought from a class on
-- MeantAt, MeantIs        == what is sought is the declaration of the class told, or there is none
-- DeclaredHere            == the declaration of a class itself; DeclaresIs == whether there is one
-- ParentInside f s v i    == the class that is visited has a parent with number i; NamedBy f s v i r == its record names it by these numbers
-- InterfaceIs f s v c w n == w is the visit of the class told by c, an interface, for the name that v seeks; n is 0 where it is of kind 0
-- SeenNone f s end n seen == there is a bit for each class, and where it is set neither the class nor an interface of it declares the name
use Rattle.std.specs.Prelude.{ℕ, zero, suc, ◌+◌, ◌*◌, ◌/◌, ◌%◌, ◌≤◌, ◌<◌, ◌≡◌, Bool, true, false, List, length, get_or}
use Rattle.std.specs.Prelude.{Option as Optional}
use Rattle.std.proofs.Math.Option.{Option, none, some}
use Rattle.rules.specs.Bytes.{Bytes, at, is_some, first_of, or_else}
use Rattle.rules.specs.Package.{Class}
use Rattle.rules.specs.Store.{Entry, store_limits}
use Rattle.rules.specs.Classes.{Installed, installed, ClassAt, MethodAt, declared_at}
use Rattle.rules.specs.Search.{chain_up_to, interfaces_up_to, search_up_to}
use Rattle.bits.specs.Bits.{bit_at}
use Rattle.homes.specs.Homes.{HomeIs, RecordIs}
use Rattle.homes.specs.Found.{Indexed}
use Rattle.classes.specs.Say.{Judged, ClassIn, OfClass, AtClass, RecordAt, CountIs, Kind0Is}
use Rattle.classes.specs.Keys.{key, seen_length}
use Rattle.classes.specs.declared.ClassSpot.{ClassSpot}
use Rattle.search.specs.Search.{SoughtThere, DeclaredIs}
use Rattle.search.specs.declared.Sought.{Sought}
use Rattle.search.specs.declared.Declaration.{Declaration}
use Rattle.search.specs.declared.visited.Visit.{Visit}
use Rattle.search.specs.declared.visited.Named.{Named}

-- a class as one number: 1, then the places of its home in two bytes each, then its number in one
abbrev pub class_code : ClassSpot → ℕ
class_code c = (((65536 + c.home.from) * 65536 + c.home.to) * 65536 + c.home.before) * 256 + c.number

unfoldable pub spot_in : ℕ → ClassSpot
spot_in x = record {
  home = record { from = x / 256 / 65536 / 65536 % 65536; to = x / 256 / 65536 % 65536; before = x / 256 % 65536 };
  number = x % 256;
}

abbrev pub class_in : ℕ → Option ClassSpot
class_in zero = none
class_in (suc x) = some (spot_in (suc x))

-- a class that is there
abbrev pub SpotThere : Bytes → Bytes → ℕ → ClassSpot → Type 0
SpotThere f s end c = ClassIn (Judged f s end) f s end c.home c.number

-- the class that is visited
abbrev pub visit_spot : Visit → ClassSpot
visit_spot v = spot_in v.class

-- it is there, and so is its record
pub record VisitPlaced (f s : Bytes) (v : Visit) : Type 0 where
  pub there : SpotThere f s v.end (visit_spot v)
  pub told : 0 < v.class
  pub place : RecordAt f s (visit_spot v).home (visit_spot v).number v.place
  pub count : CountIs f s (visit_spot v).home (visit_spot v).number v.parents

-- the visit of a class
pub record VisitOf (f s : Bytes) (end n : ℕ) (c : ClassSpot) (v : Visit) : Type 0 where
  pub is : visit_spot v ≡ c
  pub end_is : v.end ≡ end
  pub name_is : v.name ≡ n
  pub placed : VisitPlaced f s v

-- the class from which a name is sought
abbrev pub sought_spot : Sought → ClassSpot
sought_spot x = record { home = x.home; number = x.number }

pub record SoughtFrom (f s : Bytes) (index : List ℕ) (x : Sought) : Type 0 where
  pub there : SoughtThere f s x
  pub small : length s ≤ 65535
  pub indexed : Indexed s x.end index

-- what is sought from a class on
abbrev pub Seeking : Type 0
Seeking = List Installed → ℕ → ℕ → ClassAt → Option MethodAt

abbrev pub above : Seeking
above is k n c = first_of (declared_at n) (interfaces_up_to is k c)

abbrev pub whole : Seeking
whole is k n c = or_else (declared_at n c) (above is k n c)

abbrev pub along_up : Seeking → Seeking
along_up g is k n c = first_of (g is k n) (chain_up_to is k c)

abbrev pub itself : Seeking
itself is k n c = declared_at n c

abbrev pub searched : Seeking
searched is k n c = search_up_to is k c n

-- it is what the class told declares, or there is none
abbrev pub MeantAt : Bytes → Bytes → ℕ → List Entry → Installed → ℕ → Option MethodAt → Option ClassSpot → Type 0
MeantAt f s end es self n o (some d) = (y : Installed) × HomeIs f s end es self d.home y × (k : Class) × (at y.pack.classes d.number ≡ some k) ×
    (m : MethodAt) × (o ≡ some m) × (declared_at n (record { home = y; number = d.number }) ≡ some m)
MeantAt f s end es self n o none = o ≡ none

abbrev pub MeantIs : Bytes → Bytes → ℕ → ClassSpot → ℕ → Seeking → Option ClassSpot → Type 0
MeantIs f s end c n g r = OfClass (Judged f s end) f s end c.home c.number λ es self x k. MeantAt f s end es self n
    (g (installed (store_limits s) es) (store_limits s).depth n (record { home = x; number = c.number })) r

-- the declaration of a class itself
abbrev pub DeclaredHere : Bytes → Bytes → ClassSpot → ℕ → Optional Declaration → Type 0
DeclaredHere f s c n r = AtClass f s c.home c.number λ end es self x k. DeclaredIs f s end es self
    (declared_at n (record { home = x; number = c.number })) r

abbrev pub DeclaresIs : Bytes → Bytes → ClassSpot → ℕ → Bool → Type 0
DeclaresIs f s c n r = AtClass f s c.home c.number λ end es self x k. r ≡ is_some (declared_at n (record { home = x; number = c.number }))

-- parent i
pub record ParentInside (f s : Bytes) (v : Visit) (i : ℕ) : Type 0 where
  pub placed : VisitPlaced f s v
  pub inside : i < length placed.there.class.parents

pub record NamedBy (f s : Bytes) (v : Visit) (i : ℕ) (r : Named) : Type 0 where
  pub bytes : Bytes
  pub is : RecordIs f s (visit_spot v).home (visit_spot v).number bytes
  pub pack : r.pack ≡ get_or bytes (2 + 2 * i) 0
  pub number : r.number ≡ get_or bytes (3 + 2 * i) 0
  pub small : r.number < 256

-- the visit of an interface
abbrev pub InterfaceIs : Bytes → Bytes → Visit → ℕ → Visit → ℕ → Type 0
InterfaceIs f s v c w zero = Kind0Is f s (spot_in c).home (spot_in c).number true
InterfaceIs f s v c w (suc n) = Kind0Is f s (spot_in c).home (spot_in c).number false × VisitOf f s v.end v.name (spot_in c) w

-- where a bit is set there is nothing to be found
pub record SeenNone (f s : Bytes) (end n : ℕ) (seen : Bytes) : Type 0 where
  pub room : seen_length s ≤ length seen
  pub hold : (c : ClassSpot) → bit_at seen (key c.home c.number) ≡ true → MeantIs f s end c n whole none
