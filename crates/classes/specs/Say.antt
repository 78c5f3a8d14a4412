-- What the functions over a class by home and number require and ensure. Assumes nothing.
--
-- Judged f s end es self == the file f being judged over the entries es, questions 13 and 14 answered yes
-- ClassIn, OfClass      == class n of the package at home h: what a function over it requires, and how it ensures
-- ClassThere, AtClass   == the same wherever the earlier entries end
-- OwnThere              == own class b
-- ParentIs              == the class told is the parent with a number, and stands before the class of which it is one
-- Kind0ParentIs         == the class told is the first parent of kind 0, if there is one; FoundNearer == its entry is the same or an
--                          earlier one; FoundBefore == its rank is smaller
-- RecordAt, MethodsIn   == the class's record, or its counted list of methods, stands at a place of the file at home h
use Rattle.std.specs.Prelude.{ℕ, ◌+◌, ◌*◌, ◌<◌, ◌≡◌, Bool, List, ◌⊎◌, T, length}
use Rattle.std.specs.Prelude.{Some, None}
use Rattle.std.specs.Prelude.{Option as Optional}
use Rattle.std.proofs.Math.Option.{Option, none, some}
use Rattle.rules.specs.Bytes.{Bytes, at, u1, counted}
use Rattle.rules.specs.Package.{most_methods, ClassNumber, Class, method}
use Rattle.rules.specs.Store.{Entry, store_limits}
use Rattle.rules.specs.Classes.{Installed, installed, ClassAt, class_named, is_kind0, kind0_parent}
use Rattle.rules.specs.Questions.{q14_parents}
use Rattle.places.specs.Reads.{Reads}
use Rattle.homes.specs.Homes.{Parents, file_of, format_at, HomeIs, ClassPlaced}
use Rattle.homes.specs.declared.Home.{Home}
use Rattle.classes.specs.declared.ClassSpot.{ClassSpot}

-- questions 13 and 14 were answered yes
pub record Judged (f s : Bytes) (end : ℕ) (es : List Entry) (self : Installed) : Type 0 where
  pub parents : Parents f s end es self
  pub q14 : T (q14_parents (store_limits s) (installed (store_limits s) es) self)

-- class n of the package at home h is there, in a setting of which J holds
pub record ClassIn (J : List Entry → Installed → Type 0) (f s : Bytes) (end : ℕ) (h : Home) (n : ℕ) : Type 0 where
  pub entries : List Entry
  pub self : Installed
  pub asked : J entries self
  pub pack : Installed
  pub home : HomeIs f s end entries self h pack
  pub class : Class
  pub is : at pack.pack.classes n ≡ some class

-- a fact of class n of the package at home h, in every such setting
abbrev pub OfClass : (List Entry → Installed → Type 0) → Bytes → Bytes → ℕ → Home → ℕ → (List Entry → Installed → Installed → Class → Type 0) → Type 0
OfClass J f s end h n q =
    (es : List Entry) (self : Installed) → J es self → (x : Installed) → HomeIs f s end es self h x → (k : Class) → at x.pack.classes n ≡ some k → q
    es self x k

-- the same wherever the earlier entries end
abbrev pub ClassThere : Bytes → Bytes → Home → ℕ → Type 0
ClassThere f s h n = (end : ℕ) × ClassIn (Judged f s end) f s end h n

abbrev pub AtClass : Bytes → Bytes → Home → ℕ → (ℕ → List Entry → Installed → Installed → Class → Type 0) → Type 0
AtClass f s h n q = (end : ℕ) → OfClass (Judged f s end) f s end h n (q end)

-- own class b
abbrev pub OwnThere : Bytes → Bytes → ℕ → ℕ → Type 0
OwnThere f s end b = (es : List Entry) × (self : Installed) × Judged f s end es self × (k : Class) × (at self.pack.classes b ≡ some k)

-- parents
abbrev pub CountIs : Bytes → Bytes → Home → ℕ → ℕ → Type 0
CountIs f s h n r = AtClass f s h n λ end es self x k. r ≡ length k.parents

pub record ParentThere (f s : Bytes) (h : Home) (n i : ℕ) : Type 0 where
  pub class : ClassThere f s h n
  pub inside : i < length class.1.class.parents

-- where the falling number of class n at home h stands
abbrev pub rank : Home → ℕ → ℕ
rank h n = 256 * h.before + n

-- a class that a file names, where it stands
pub record NamedAt (f s : Bytes) (end : ℕ) (es : List Entry) (self x : Installed) (p : ClassNumber) (r : ClassSpot) : Type 0 where
  pub pack : Installed
  pub home : HomeIs f s end es self r.home pack
  pub named : class_named (installed (store_limits s) es) x p ≡ some (record { home = pack; number = r.number })
  pub class : Class
  pub is : at pack.pack.classes r.number ≡ some class

-- a home is the same, or its entry stands before
abbrev pub Nearer : Home → Home → Type 0
Nearer h g = (g ≡ h) ⊎ (g.before < h.before)

-- the parent with number i: its rank is smaller
abbrev pub ParentIs : Bytes → Bytes → Home → ℕ → ℕ → ClassSpot → Type 0
ParentIs f s h n i r = AtClass f s h n λ end es self x k. (p : ClassNumber) → at k.parents i ≡ some p →
    NamedAt f s end es self x p r × (rank r.home r.number < rank h n) × Nearer h r.home

abbrev pub Kind0Is : Bytes → Bytes → Home → ℕ → Bool → Type 0
Kind0Is f s h n r = AtClass f s h n λ end es self x k. r ≡ is_kind0 (record { home = x; number = n })

-- a class told, if one is told
abbrev pub FoundAt : Bytes → Bytes → ℕ → List Entry → Installed → Option ClassAt → Optional ClassSpot → Type 0
FoundAt f s end es self o (Some r) = (y : Installed) × HomeIs f s end es self r.home y × (o ≡ some (record { home = y; number = r.number })) ×
    (k : Class) × (at y.pack.classes r.number ≡ some k)
FoundAt f s end es self o None = o ≡ none

abbrev pub Kind0ParentIs : Bytes → Bytes → Home → ℕ → Optional ClassSpot → Type 0
Kind0ParentIs f s h n r = AtClass f s h n λ end es self x k. FoundAt f s end es self
    (kind0_parent (installed (store_limits s) es) (record { home = x; number = n })) r

-- the class told lies at the same home, or its entry stands before
abbrev pub FoundNearer : Home → Optional ClassSpot → Type 0
FoundNearer h (Some r) = Nearer h r.home
FoundNearer h None = Unit {0}

-- and its rank is smaller
abbrev pub FoundBefore : Home → ℕ → Optional ClassSpot → Type 0
FoundBefore h n (Some r) = rank r.home r.number < rank h n
FoundBefore h n None = Unit {0}

-- the record of class n of the package at home h stands at place i of the file there
abbrev pub RecordAt : Bytes → Bytes → Home → ℕ → ℕ → Type 0
RecordAt f s h n i = ClassPlaced f s h n (Some i)

-- the place of its list of methods
abbrev pub MethodsIn : Bytes → Bytes → Home → ℕ → ℕ → Type 0
MethodsIn f s h n r = AtClass f s h n λ end es self x k. (j : ℕ) × Reads (counted most_methods u1 (method (format_at s (file_of f s h)) x.pack.domains))
    (file_of f s h) r k.methods j
