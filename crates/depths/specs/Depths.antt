-- Question 14 of a file over the entries that end at a place, and the table of the depths of stored classes. Assumes nothing.
--
-- ParentsThere, OfParents       == a setting in which each parent exists: what a function requires, and how it ensures
-- ImportCount f n               == the file has n imports
-- OwnClass, OfOwnClass          == an own class, before its parents are known to exist
-- ExistsIs, AllExist, ParentsExist == question 14's first part, of a parent, of a class, of the file
-- ClassIs f s end h n es self x k == k is class n of the package x at home h, where each parent exists
-- ClassThere, OfClass           == what a function over a class requires, and how it ensures
-- Kind0Is, Kind0Count, KindsIs  == question 14's second part
-- ParentAt, ParentIs            == parent i of a class is the class with number m at home g
-- OwnIs f s end n r             == r is the depth of own class n, if it has the right kinds of parents
-- capped most d                 == a number, or the limit where it is more
-- depth_of s es c                == the depth of a class, told up to one more than the limit
-- DepthIs, DeepestIs            == the depth of a class; the greatest of its parents'
-- width_for most, depth_width s   == the bits of a depth in the table, which holds one less: enough for a depth limit, for that of s
-- depth_field w t j              == field j, of w bits, of the table; depths_length s == how many bytes it takes
-- DepthsKept s end t            == field (place of its record in s) / 5 of t is one less than the depth, for each class with a parent of the entries before end
-- told_depth w own t from i c n  == the depth of class c with n parents whose record stands at i: by the own depths where from is 0, else by the table
-- OwnTo f s end n own           == the depths of the own classes below n are these; OwnDepths == of all own classes
-- kept_field, DepthsFit          == what a write does to the fields; the depths that a file may have
-- FileKept w g from depths t    == the table has the depths of the classes of the file g that have a parent; FileKeptTo == below class n
-- ParentedIs                    == question 14 and the depth figure; LaterParts == its second and third part
use Rattle.std.specs.Prelude.{ℕ, suc, ◌+◌, ◌-◌, ◌*◌, ◌/◌, ◌^◌, ◌≤◌, ◌<◌, ◌≡◌, Bool, true, false, ◌&&◌, List, [], T, leb, eqb, length, get_or, Some, None}
use Rattle.std.specs.Prelude.{Option as Optional}
use Rattle.std.proofs.Math.Option.{some}
use Rattle.rules.specs.Bytes.{Bytes, pick, all, all_from, at, count}
use Rattle.rules.specs.Package.{Limits, most_classes, ClassNumber, Class, Package, read_file}
use Rattle.rules.specs.Store.{Entry, first_entry, store_limits, store_opening}
use Rattle.rules.specs.Classes.{Installed, installed, ClassAt, class_named, parents_named, greatest, depth_up_to}
use Rattle.rules.specs.Questions.{own, parent_exists, parent_is_kind0, parent_kinds, depth_within, q14_parents}
use Rattle.rules.specs.Operations.{accepted_all, deepest_from}
use Rattle.bits.specs.Bits.{field_at, with_field}
use Rattle.store.specs.Entries.{part, Entries}
use Rattle.homes.specs.Homes.{Imports, Parents, own_home, Stored, HomeIs}
use Rattle.homes.specs.declared.Home.{Home}
use Rattle.named.specs.Named.{OfJudged, Stands}

-- each parent exists
abbrev pub ParentsThere : Bytes → Bytes → ℕ → Type 0
ParentsThere f s end = (es : List Entry) × (self : Installed) × Parents f s end es self

abbrev pub OfParents : Bytes → Bytes → ℕ → (List Entry → Installed → Type 0) → Type 0
OfParents f s end q = (es : List Entry) (self : Installed) → Parents f s end es self → q es self

-- so many imports
abbrev pub ImportCount : Bytes → ℕ → Type 0
ImportCount f n = (l : Limits) (p : Package) → read_file l f ≡ some p → n ≡ length p.imports

-- an own class
abbrev pub OwnClass : Bytes → Bytes → ℕ → ℕ → Type 0
OwnClass f s end n = (es : List Entry) × (self : Installed) × Imports f s end es self × (k : Class) × (at self.pack.classes n ≡ some k)

abbrev pub OfOwnClass : Bytes → Bytes → ℕ → ℕ → (List Entry → Installed → Class → Type 0) → Type 0
OfOwnClass f s end n q = (es : List Entry) (self : Installed) → Imports f s end es self → (k : Class) → at self.pack.classes n ≡ some k → q es self k

-- a parent of own class n exists, an own one with a smaller number
abbrev pub ExistsIs : Bytes → Bytes → ℕ → ℕ → ClassNumber → Bool → Type 0
ExistsIs f s end n p r = OfJudged f s end λ es self. r ≡ parent_exists (installed (store_limits s) es) self n p

-- all parents of own class n do
abbrev pub AllExist : Bytes → Bytes → ℕ → ℕ → Bool → Type 0
AllExist f s end n r = OfOwnClass f s end n λ es self k. r ≡ all (parent_exists (installed (store_limits s) es) self n) k.parents

-- all parents of all own classes do
abbrev pub ParentsExist : Bytes → Bytes → ℕ → Bool → Type 0
ParentsExist f s end r = OfJudged f s end λ es self. r ≡ all_from (λ i k. all (parent_exists (installed (store_limits s) es) self i) k.parents) 0
    self.pack.classes

-- class n of the package at home h, where each parent exists
pub record ClassIs (f s : Bytes) (end : ℕ) (h : Home) (n : ℕ) (es : List Entry) (self x : Installed) (k : Class) : Type 0 where
  pub parents : Parents f s end es self
  pub home : HomeIs f s end es self h x
  pub is : at x.pack.classes n ≡ some k

abbrev pub ClassThere : Bytes → Bytes → ℕ → Home → ℕ → Type 0
ClassThere f s end h n = (es : List Entry) × (self : Installed) × (x : Installed) × (k : Class) × ClassIs f s end h n es self x k

abbrev pub OfClass : Bytes → Bytes → ℕ → Home → ℕ → (List Entry → Installed → Installed → Class → Type 0) → Type 0
OfClass f s end h n q = (es : List Entry) (self x : Installed) (k : Class) → ClassIs f s end h n es self x k → q es self x k

-- 1 where the class is of kind 0, else 0
abbrev pub Kind0Is : Bytes → Bytes → ℕ → Home → ℕ → ℕ → Type 0
Kind0Is f s end h n r = OfClass f s end h n λ es self x k. r ≡ pick k.interface 0 1

-- how many kind-0 parents it has, counted by places
abbrev pub Kind0Count : Bytes → Bytes → ℕ → Home → ℕ → ℕ → Type 0
Kind0Count f s end h n r = OfClass f s end h n λ es self x k. r ≡ count (parent_is_kind0 (installed (store_limits s) es) x) k.parents

-- its parents are of the kinds that question 14 asks for
abbrev pub KindsIs : Bytes → Bytes → ℕ → Home → ℕ → Bool → Type 0
KindsIs f s end h n r = OfClass f s end h n λ es self x k. r ≡ parent_kinds (installed (store_limits s) es) x k

-- a parent with a class number of a package at a home
pub record ParentAt (f s : Bytes) (end : ℕ) (es : List Entry) (self x : Installed) (k : Class) (i : ℕ) (g : Home) (m : ℕ) : Type 0 where
  pub number : ClassNumber
  pub listed : at k.parents i ≡ some number
  pub home : Installed
  pub named : class_named (installed (store_limits s) es) x number ≡ some (own home m)
  pub class : Class
  pub there : ClassIs f s end g m es self home class

-- parent i of own class n
abbrev pub ParentIs : Bytes → Bytes → ℕ → ℕ → ℕ → Home → ℕ → Type 0
ParentIs f s end n i g m = OfClass f s end (own_home end) n λ es self x k. ParentAt f s end es self x k i g m

-- a number, or the limit where it is more
abbrev pub capped : ℕ → ℕ → ℕ
capped most d = pick (leb d most) d most

-- the depth of a class, told up to one more than the limit
abbrev pub depth_of : Bytes → List Entry → ClassAt → ℕ
depth_of s es c = depth_up_to (installed (store_limits s) es) (suc (store_limits s).depth) c

abbrev pub DepthIs : Bytes → Bytes → ℕ → Home → ℕ → ℕ → Type 0
DepthIs f s end h n r = OfClass f s end h n λ es self x k. r ≡ depth_of s es (own x n)

-- the greatest depth of its parents
abbrev pub DeepestIs : Bytes → Bytes → ℕ → Home → ℕ → ℕ → Type 0
DeepestIs f s end h n r = OfClass f s end h n λ es self x k. r ≡ greatest (depth_of s es) (parents_named (installed (store_limits s) es) x k.parents)

-- the bits of a depth in the table: three hold 1 to 8, four 1 to 16
abbrev pub width_for : ℕ → ℕ
width_for most = pick (leb most 8) 3 4

abbrev pub depth_width : Bytes → ℕ
depth_width s = width_for (store_limits s).depth

-- the field with a number
abbrev pub depth_field : ℕ → List ℕ → ℕ → ℕ
depth_field w t j = field_at w t j

-- how many bytes the table takes: a field for each five bytes of the store, and a byte to read two from any place
abbrev pub depths_length : Bytes → ℕ
depths_length s = length s / 5 * depth_width s / 8 + 2

-- the table of the depths of the classes of sound entries that end at a place
pub record DepthsKept (s : Bytes) (end : ℕ) (t : List ℕ) : Type 0 where
  pub room : depths_length s ≤ length t
  pub told : (es : List Entry) (size : ℕ) → Entries s (first_entry s) es end → T (accepted_all (store_opening s) size [] es) →
      (h : Home) (x : Installed) → Stored s es h x → (n : ℕ) (k : Class) (i : ℕ) → at x.pack.classes n ≡ some k → 0 < length k.parents →
      Stands (part s h.from h.to) n i → depth_field (depth_width s) t ((h.from + i) / 5) + 1 ≡ depth_of s es (own x n)

-- the depth that is told of a class
abbrev pub told_depth : ℕ → List ℕ → List ℕ → ℕ → ℕ → ℕ → ℕ → ℕ
told_depth w own t from i c n = pick (eqb from 0) (get_or own c 0) (pick (eqb n 0) 1 (depth_field w t ((from + i) / 5) + 1))

-- the depths of the own classes below n
pub record OwnTo (f s : Bytes) (end n : ℕ) (depths : List ℕ) : Type 0 where
  pub size : length depths ≡ most_classes
  pub told : (m : ℕ) → m < n → DepthIs f s end (own_home end) m (get_or depths m 0)

-- own class n: its depth, if its parents are of the right kinds
abbrev pub OwnIs : Bytes → Bytes → ℕ → ℕ → Optional ℕ → Type 0
OwnIs f s end n None = KindsIs f s end (own_home end) n false
OwnIs f s end n (Some d) = KindsIs f s end (own_home end) n true × DepthIs f s end (own_home end) n d

-- of all own classes
abbrev pub OwnDepths : Bytes → Bytes → ℕ → List ℕ → Type 0
OwnDepths f s end depths = (m : ℕ) → DepthIs f s end (own_home end) m (get_or depths m 0)

-- the second and the third part of 14
abbrev pub later_parts : Bytes → List Entry → Installed → Bool
later_parts s es self =
    all (parent_kinds (installed (store_limits s) es) self) self.pack.classes
    && all_from (λ i k. depth_within (store_limits s) (installed (store_limits s) es) self i) 0 self.pack.classes

abbrev pub LaterParts : Bytes → Bytes → ℕ → List ℕ → Optional ℕ → Type 0
LaterParts f s end depths None = OfParents f s end λ es self. later_parts s es self ≡ false
LaterParts f s end depths (Some d) = (OfParents f s end λ es self. (later_parts s es self ≡ true) ×
    (d ≡ deepest_from (store_limits s) (installed (store_limits s) es) self 0 self.pack.classes)) × OwnDepths f s end depths

-- 14, and the depth figure
abbrev pub ParentedIs : Bytes → Bytes → ℕ → Optional ℕ → Type 0
ParentedIs f s end None = OfJudged f s end λ es self. q14_parents (store_limits s) (installed (store_limits s) es) self ≡ false
ParentedIs f s end (Some d) = OfJudged f s end λ es self. (q14_parents (store_limits s) (installed (store_limits s) es) self ≡ true) ×
    (d ≡ deepest_from (store_limits s) (installed (store_limits s) es) self 0 self.pack.classes)

-- with a yes, the depths of all own classes
abbrev pub OwnTold : Bytes → Bytes → ℕ → List ℕ → Optional ℕ → Type 0
OwnTold f s end depths None = Unit {0}
OwnTold f s end depths (Some d) = OwnDepths f s end depths

-- field j after the depth of a class was written, where it has parents
abbrev pub kept_field : ℕ → List ℕ → ℕ → ℕ → ℕ → ℕ → ℕ
kept_field w t place parents depth j = pick (eqb parents 0) (depth_field w t j) (with_field (depth_field w t) (place / 5) (depth - 1) j)

-- of each class of a file that has a parent, a depth that the table can hold; and one for each class
pub record DepthsFit (w : ℕ) (g : Bytes) (depths : List ℕ) : Type 0 where
  pub size : length depths ≡ most_classes
  pub fit : (n i : ℕ) → Stands g n i → 0 < get_or g (i + 1) 0 → (1 ≤ get_or depths n 0) × (get_or depths n 0 ≤ 2 ^ w)

-- the table has the depths of the classes of a file that have a parent, below class n; the file starts at a place of the store
abbrev pub FileKeptTo : ℕ → Bytes → ℕ → List ℕ → List ℕ → ℕ → Type 0
FileKeptTo w g from depths t n = (m i : ℕ) → m < n → Stands g m i → 0 < get_or g (i + 1) 0 → depth_field w t ((from + i) / 5) + 1 ≡ get_or depths m 0

-- of all its classes
abbrev pub FileKept : ℕ → Bytes → ℕ → List ℕ → List ℕ → Type 0
FileKept w g from depths t = (m i : ℕ) → Stands g m i → 0 < get_or g (i + 1) 0 → depth_field w t ((from + i) / 5) + 1 ≡ get_or depths m 0
