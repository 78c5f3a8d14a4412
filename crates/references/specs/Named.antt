-- What a reference names, and where that stands. Assumes nothing.
--
-- GroupTrue f g          == g tells where the file's references stand and how many they are
-- Lent s end packages seen == what is lent: the index of the earlier entries, and room for a bit of each class
-- ClassIs f s end p c r  == r is the class that package number p and class number c name in the file being judged, if they name one
-- RecordThere f s x r    == r is the record of the class from which x is sought, which is named in the file being judged
-- MeantAt                == the declaration stands at the places told, and what else is told of what is named is true
-- NamedIs                == an answer tells what is named, if anything is
-- MeantIs, NumbersName, ReferenceIs == so of a class and a name, of a package number, a class number and a name, of reference k of the file
-- OpenFrom f s end k h i == reference k of the file names a class of the package at home h, whose record stands at place i of the file there
-- ToldOf q o r           == q holds of what r tells, or o of the class that it tells where it is open; OwnMeant, NumbersTell, ToldIs == so of
--                           MeantIs, NumbersName, ReferenceIs
use Rattle.std.specs.Prelude.{Some, None}
use Rattle.std.specs.Prelude.{Option as Optional}
use Rattle.std.specs.Prelude.{ℕ, ◌<◌, ◌≤◌, ◌≡◌, List, length}
use Rattle.std.proofs.Math.Option.{Option, none, some}
use Rattle.rules.specs.Bytes.{Bytes, at, ◌and_then◌}
use Rattle.rules.specs.Package.{Limits, Reference, Class, class}
use Rattle.rules.specs.Store.{Entry, store_limits}
use Rattle.rules.specs.Classes.{Installed, installed, package_numbered, ClassAt, record_of, class_named, is_kind0}
use Rattle.rules.specs.Search.{search_up_to}
use Rattle.rules.specs.Questions.{Named, reference_names}
use Rattle.places.specs.Reads.{Reads}
use Rattle.rules.specs.Code.{u2_at}
use Rattle.files.specs.Say.{ReferencesAt}
use Rattle.homes.specs.Homes.{file_of, format_at, HomeIs}
use Rattle.homes.specs.Found.{Indexed}
use Rattle.homes.specs.declared.Home.{Home}
use Rattle.classes.specs.Keys.{seen_length}
use Rattle.search.specs.Search.{DeclaredThere}
use Rattle.search.specs.declared.Sought.{Sought}
use Rattle.references.specs.Setting.{OfJudged}
use Rattle.references.specs.declared.Group.{Group}
use Rattle.references.specs.declared.Meant.{Meant}
use Rattle.files.specs.declared.Reference.{Reference as Naming}
use Rattle.references.specs.declared.Told.{Told}
use Rattle.references.specs.declared.Told.TheVariants as told
use Rattle.references.specs.declared.ClassRecord.{ClassRecord}
use Rattle.references.specs.declared.NamedRecord.{NamedRecord}

pub record GroupTrue (f : Bytes) (g : Group) : Type 0 where
  pub stand : ReferencesAt f g.at
  pub count : g.count ≡ u2_at f g.at
  pub first : g.first ≤ 65535

pub record Lent (s : Bytes) (end : ℕ) (packages seen : List ℕ) : Type 0 where
  pub indexed : Indexed s end packages
  pub room : seen_length s ≤ length seen
  pub small : length s ≤ 65535

-- a package number and a class number name class c of the package y at home h, whose record stands at place i of the file there
pub record ClassThere (f s : Bytes) (end : ℕ) (es : List Entry) (self : Installed) (p c : ℕ) (h : Home) (i : ℕ) : Type 0 where
  pub pack : Installed
  pub numbered : package_numbered (installed (store_limits s) es) self p ≡ some pack
  pub lies : HomeIs f s end es self h pack
  pub known : Class
  pub is : at pack.pack.classes c ≡ some known
  pub to : ℕ
  pub reads : Reads (class (format_at s (file_of f s h)) pack.pack.domains) (file_of f s h) i known to

-- the class record that they name, if they name one
abbrev pub record_named : List Installed → Installed → ℕ → ℕ → Option Class
record_named is self p c = class_named is self (record { pack = p; class = c }) and_then record_of

abbrev pub ClassNamedIs : Bytes → Bytes → ℕ → List Entry → Installed → ℕ → ℕ → Optional ClassRecord → Type 0
ClassNamedIs f s end es self p c (Some r) = ClassThere f s end es self p c r.home r.place
ClassNamedIs f s end es self p c None = record_named (installed (store_limits s) es) self p c ≡ none

abbrev pub ClassIs : Bytes → Bytes → ℕ → ℕ → ℕ → Optional ClassRecord → Type 0
ClassIs f s end p c r = OfJudged f s end λ es self. ClassNamedIs f s end es self p c r

-- the record of the class from which x is sought
abbrev pub RecordThere : Bytes → Bytes → Sought → NamedRecord → Type 0
RecordThere f s x r = OfJudged f s x.end λ es self. ClassThere f s x.end es self r.pack x.number x.home r.place

-- the declaration x of what is named: a number below 16 is that of its package
pub record MeantAt (f s : Bytes) (end : ℕ) (es : List Entry) (self : Installed) (x : Meant) (y : Named) : Type 0 where
  pub declared : DeclaredThere f s end es self x.home x.class x.method y.means
  pub kind0 : x.kind0 ≡ is_kind0 y.class
  pub numbered : x.pack < 16 → package_numbered (installed (store_limits s) es) self x.pack ≡ some y.means.class.home

-- what is named, if anything is
abbrev pub NamedIs : Bytes → Bytes → ℕ → List Entry → Installed → Option Named → Optional Meant → Type 0
NamedIs f s end es self o (Some x) = (y : Named) × (o ≡ some y) × MeantAt f s end es self x y
NamedIs f s end es self o None = o ≡ none

-- what class c names by a name
abbrev pub named_from : Limits → List Installed → ClassAt → ℕ → Option Named
named_from l is c n = search_up_to is l.depth c n and_then λ m. some (record { class = c; means = m })

-- what the class from which x is sought names by the name sought
abbrev pub MeantIs : Bytes → Bytes → Sought → NamedRecord → Optional Meant → Type 0
MeantIs f s x r q = OfJudged f s x.end λ es self. (y : Installed) → HomeIs f s x.end es self x.home y →
    package_numbered (installed (store_limits s) es) self r.pack ≡ some y →
    NamedIs f s x.end es self (named_from (store_limits s) (installed (store_limits s) es) (record { home = y; number = x.number }) x.name) q

-- a package number, a class number and a name as a reference has them
abbrev pub reference_of : Naming → Reference
reference_of x = record { class = record { pack = x.pack; class = x.class }; name = x.name }

abbrev pub NumbersName : Bytes → Bytes → ℕ → Naming → Optional Meant → Type 0
NumbersName f s end x r = OfJudged f s end λ es self.
    NamedIs f s end es self (reference_names (store_limits s) (installed (store_limits s) es) self (reference_of x)) r

-- what reference k names
abbrev pub reference_named : Limits → List Installed → Installed → ℕ → Option Named
reference_named l is self k = at self.pack.references k and_then reference_names l is self

abbrev pub ReferenceIs : Bytes → Bytes → ℕ → ℕ → Optional Meant → Type 0
ReferenceIs f s end k r = OfJudged f s end λ es self. NamedIs f s end es self (reference_named (store_limits s) (installed (store_limits s) es) self k) r

-- the class that reference k names
abbrev pub OpenFrom : Bytes → Bytes → ℕ → ℕ → Home → ℕ → Type 0
OpenFrom f s end k h i = OfJudged f s end λ es self.
    (r : Reference) × (at self.pack.references k ≡ some r) × ClassThere f s end es self r.class.pack r.class.class h i

-- what is told of a reference, or the class named where it is open
abbrev pub ToldOf : (Optional Meant → Type 0) → (Home → ℕ → Type 0) → Told → Type 0
ToldOf q o (told.Method x) = q (Some x)
ToldOf q o told.Nothing = q None
ToldOf q o (told.Open h i) = o h i

abbrev pub OwnMeant : Bytes → Bytes → Sought → NamedRecord → Told → Type 0
OwnMeant f s x r q = ToldOf (MeantIs f s x r) (λ h i. (h ≡ x.home) × (i ≡ r.place)) q

abbrev pub NumbersTell : Bytes → Bytes → ℕ → Naming → Told → Type 0
NumbersTell f s end x r = ToldOf (NumbersName f s end x) (λ h i. ClassIs f s end x.pack x.class (Some (record { home = h; place = i }))) r

abbrev pub ToldIs : Bytes → Bytes → ℕ → ℕ → Told → Type 0
ToldIs f s end k r = ToldOf (ReferenceIs f s end k) (OpenFrom f s end k) r
