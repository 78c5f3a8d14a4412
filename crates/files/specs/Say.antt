-- What the functions over one package file require and ensure: something reads at a place, and the answer holds of whatever reads there.
-- Limits, the domains and the value read are any for which it reads. Assumes nothing.
--
-- Aids, PolicyThere, .. s i == such a thing stands at place i of s
-- AfterAids, .. s i e       == whatever stands at i ends at e
-- AidNth, .. s i k r        == the element with number k of the list at i stands at r, if there is one
-- NameIs, .. s i r          == r is that of the thing at i
-- PolicyAt, .. s i e        == that part of the thing at i stands at e
-- DeclaredPlaced, .. s i n r == the method of name n of the class at i stands at r, if there is one
-- Readable f                == the file reads; DomainsAt, .. f e == that list of its package stands at e
use Rattle.std.specs.Prelude.{ℕ, ◌≡◌, List, Bool, ◌&&◌, not, eqb}
use Rattle.std.specs.Prelude.{Some, None}
use Rattle.std.specs.Prelude.{Option as Optional}
use Rattle.files.specs.declared.Reference.{Reference as Naming}
use Rattle.std.proofs.Math.Option.{Option, none, some}
use Rattle.rules.specs.Bytes.{Bytes, Aid, same, find, at, u1, u2, aid, counted}
use Rattle.rules.specs.Package.{Limits, format_of, most_references, most_classes, most_methods, Reference, Method, Class, Package, class_number, reference, policy, method, class, read_file}
use Rattle.rules.specs.Classes.{declared, declared_instance}
use Rattle.fields.specs.Told.{told}
use Rattle.places.specs.Reads.{Reads, Ends, EndsAt, Placed}
use Rattle.places.specs.Parts.{FilePart}

-- the reference told, if one is told
abbrev pub referenced : Optional Naming → Option Reference
referenced (Some x) = some (record { class = record { pack = x.pack; class = x.class }; name = x.name })
referenced None = none

-- counted lists of AIDs
abbrev pub Aids : Bytes → ℕ → Type 0
Aids s i = (most : ℕ) × Ends (counted most u1 aid) s i

abbrev pub AfterAids : Bytes → ℕ → ℕ → Type 0
AfterAids s i e = (most : ℕ) → EndsAt (counted most u1 aid) s i e

abbrev pub AidNth : Bytes → ℕ → ℕ → Optional ℕ → Type 0
AidNth s i k r = (most : ℕ) (ds : List Aid) (j : ℕ) → Reads (counted most u1 aid) s i ds j → Placed aid s (at ds k) (told r)

-- the bytes of the AID at a place
abbrev pub AidBytes : Bytes → ℕ → Bytes → Type 0
AidBytes s i r = (a : Aid) (j : ℕ) → Reads aid s i a j → r ≡ a

-- the AID at a place is x
abbrev pub AidIs : Bytes → ℕ → Aid → Bool → Type 0
AidIs s i x r = (a : Aid) (j : ℕ) → Reads aid s i a j → r ≡ same x a

-- references
abbrev pub References : Bytes → ℕ → Type 0
References s i = Ends (counted most_references u2 reference) s i

abbrev pub AfterReferences : Bytes → ℕ → ℕ → Type 0
AfterReferences s i e = EndsAt (counted most_references u2 reference) s i e

abbrev pub ReferenceNth : Bytes → ℕ → ℕ → Optional Naming → Type 0
ReferenceNth s i k r = (xs : List Reference) (j : ℕ) → Reads (counted most_references u2 reference) s i xs j → referenced r ≡ at xs k

-- policies
abbrev pub PolicyThere : Bytes → ℕ → Type 0
PolicyThere s i = (ds : List Aid) × Ends (policy ds) s i

abbrev pub AfterPolicy : Bytes → ℕ → ℕ → Type 0
AfterPolicy s i e = (ds : List Aid) → EndsAt (policy ds) s i e

-- methods
abbrev pub MethodThere : Bytes → ℕ → Type 0
MethodThere s i = (l : Limits) × (ds : List Aid) × Ends (method (format_of l s) ds) s i

abbrev pub AfterMethod : Bytes → ℕ → ℕ → Type 0
AfterMethod s i e = (l : Limits) (ds : List Aid) → EndsAt (method (format_of l s) ds) s i e

-- a fact of whatever method stands at a place
abbrev pub OfMethod : Bytes → ℕ → (Limits → List Aid → Method → Type 0) → Type 0
OfMethod s i q = (l : Limits) (ds : List Aid) (m : Method) (j : ℕ) → Reads (method (format_of l s) ds) s i m j → q l ds m

abbrev pub PolicyAt : Bytes → ℕ → ℕ → Type 0
PolicyAt s i e = OfMethod s i λ l ds m. (j : ℕ) × Reads (policy ds) s e m.policy j

abbrev pub NameIs : Bytes → ℕ → ℕ → Type 0
NameIs s i r = OfMethod s i λ l ds m. r ≡ m.name

abbrev pub VisibleIs : Bytes → ℕ → Bool → Type 0
VisibleIs s i r = OfMethod s i λ l ds m. r ≡ m.visible

abbrev pub ImplementedIs : Bytes → ℕ → Bool → Type 0
ImplementedIs s i r = OfMethod s i λ l ds m. r ≡ m.implemented

abbrev pub StaticIs : Bytes → ℕ → Bool → Type 0
StaticIs s i r = OfMethod s i λ l ds m. r ≡ m.static

abbrev pub NamedIs : Bytes → ℕ → ℕ → Bool → Type 0
NamedIs s i n r = OfMethod s i λ l ds m. r ≡ eqb m.name n

abbrev pub InstanceIs : Bytes → ℕ → ℕ → Bool → Type 0
InstanceIs s i n r = OfMethod s i λ l ds m. r ≡ (eqb m.name n && not m.static)

abbrev pub CodeIs : Bytes → ℕ → Bytes → Type 0
CodeIs s i r = OfMethod s i λ l ds m. r ≡ m.code

abbrev pub Methods : Bytes → ℕ → Type 0
Methods s i = (l : Limits) × (ds : List Aid) × Ends (counted most_methods u1 (method (format_of l s) ds)) s i

abbrev pub AfterMethods : Bytes → ℕ → ℕ → Type 0
AfterMethods s i e = (l : Limits) (ds : List Aid) → EndsAt (counted most_methods u1 (method (format_of l s) ds)) s i e

-- classes
abbrev pub ClassThere : Bytes → ℕ → Type 0
ClassThere s i = (l : Limits) × (ds : List Aid) × Ends (class (format_of l s) ds) s i

abbrev pub AfterClass : Bytes → ℕ → ℕ → Type 0
AfterClass s i e = (l : Limits) (ds : List Aid) → EndsAt (class (format_of l s) ds) s i e

-- a fact of whatever class stands at a place, and of where it ends
abbrev pub OfClass : Bytes → ℕ → (Limits → List Aid → Class → ℕ → Type 0) → Type 0
OfClass s i q = (l : Limits) (ds : List Aid) (c : Class) (j : ℕ) → Reads (class (format_of l s) ds) s i c j → q l ds c j

abbrev pub ParentsAt : Bytes → ℕ → ℕ → Type 0
ParentsAt s i e = OfClass s i λ l ds k j. (n : ℕ) × Reads (counted l.parents u1 class_number) s e k.parents n

abbrev pub MethodsAt : Bytes → ℕ → ℕ → Type 0
MethodsAt s i e = OfClass s i λ l ds k j. Reads (counted most_methods u1 (method (format_of l s) ds)) s e k.methods j

abbrev pub InterfaceIs : Bytes → ℕ → Bool → Type 0
InterfaceIs s i r = OfClass s i λ l ds k j. r ≡ k.interface

abbrev pub DeclaredPlaced : Bytes → ℕ → ℕ → Optional ℕ → Type 0
DeclaredPlaced s i n r = OfClass s i λ l ds k j. Placed (method (format_of l s) ds) s (declared k n) (told r)

abbrev pub InstancePlaced : Bytes → ℕ → ℕ → Optional ℕ → Type 0
InstancePlaced s i n r = OfClass s i λ l ds k j. Placed (method (format_of l s) ds) s (declared_instance k n) (told r)

-- what q answers of a method at a place is what p answers of it
abbrev pub TestIs : (ℕ → Bool → Type 0) → Bytes → (Method → Bool) → Type 0
TestIs q s p = (c : ℕ) (b : Bool) → q c b → OfMethod s c λ l ds m. b ≡ p m

-- the first method of the class that p passes stands at r, if there is one
abbrev pub FirstPlaced : Bytes → ℕ → (Method → Bool) → Optional ℕ → Type 0
FirstPlaced s i p r = OfClass s i λ l ds k j. Placed (method (format_of l s) ds) s (find p k.methods) (told r)

abbrev pub Classes : Bytes → ℕ → Type 0
Classes s i = (l : Limits) × (ds : List Aid) × Ends (counted most_classes u1 (class (format_of l s) ds)) s i

abbrev pub ClassNth : Bytes → ℕ → ℕ → Optional ℕ → Type 0
ClassNth s i k r = (l : Limits) (ds : List Aid) (cs : List Class) (j : ℕ) → Reads (counted most_classes u1 (class (format_of l s) ds)) s i cs j →
    Placed (class (format_of l s) ds) s (at cs k) (told r)

-- a file
abbrev pub Readable : Bytes → Type 0
Readable f = (l : Limits) × (p : Package) × (read_file l f ≡ some p)

-- the bytes of its package's AID
abbrev pub OwnAid : Bytes → Bytes → Type 0
OwnAid f r = (l : Limits) (p : Package) → read_file l f ≡ some p → r ≡ p.aid

-- a fact of the package that a file reads as, and of the places of its lists
abbrev pub OfFile : (f : Bytes) → ((l : Limits) (p : Package) → FilePart l f p → Type 0) → Type 0
OfFile f q = (l : Limits) (p : Package) → read_file l f ≡ some p → (t : FilePart l f p) × q l p t

abbrev pub DomainsAt : Bytes → ℕ → Type 0
DomainsAt f e = OfFile f λ l p t. t.domains_at ≡ e

abbrev pub ImportsAt : Bytes → ℕ → Type 0
ImportsAt f e = OfFile f λ l p t. t.imports_at ≡ e

abbrev pub ReferencesAt : Bytes → ℕ → Type 0
ReferencesAt f e = OfFile f λ l p t. t.references_at ≡ e

abbrev pub ClassesAt : Bytes → ℕ → Type 0
ClassesAt f e = OfFile f λ l p t. t.classes_at ≡ e

-- the record of its class k
abbrev pub ClassPlaced : Bytes → ℕ → Optional ℕ → Type 0
ClassPlaced f k r = (l : Limits) (p : Package) → read_file l f ≡ some p → Placed (class (format_of l f) p.domains) f (at p.classes k) (told r)
