-- The non-static methods of a chain's classes in a table, sorted by name: those of stored classes first, then those of own ones. Assumes nothing.
--
-- text_of f s h         == the bytes that hold the file at home h: the file being judged, or the store
-- HomeFor l i q g      == g is the home of the first link from i on that does not lie behind place q
-- Above f s stop x r   == r is the first method of name x of the chain that goes on at stop
-- Gathers              == what gathering the methods of one class does to a table
-- Gathered f s l h n stop a e == the numbers from a up to e are the places of the first method of each name, in the part of a chain that
--                         begins with class n at home h and ends at stop
-- names_length s        == how many numbers a table holds with all names of any chain: 64 for each class that the depth limit allows
-- names_of              == names by their numbers, and the class whose chain the stored ones are of
-- NamesIs f s l v      == the names of own class v.own over the entries that end at v.end
-- Kept f s l v         == what of them stays right for the next own class; NoneKept v == nothing does
-- AsStored f s v       == what is first for own class v.own is what is first for the stored class at which its chain goes on, where no own
--                         class of the chain has a name
-- RunAlike v w         == no own class of either chain has a name, and both chains go on at the same stored class
use Rattle.std.specs.Prelude.{ℕ, suc, ◌+◌, ◌-◌, ◌*◌, ◌<◌, ◌≤◌, ◌≡◌, Bool, true, false, List, ◌⊎◌, eqb, length, get_or, None}
use Rattle.std.specs.Prelude.{Option as Optional}
use Rattle.std.specs.Prelude.{Some}
use Rattle.std.proofs.Math.Option.{none, some}
use Rattle.rules.specs.Bytes.{Bytes, pick}
use Rattle.rules.specs.Package.{format_of, method}
use Rattle.rules.specs.Store.{store_limits}
use Rattle.rules.specs.Classes.{installed, depth_up_to, declared_instance}
use Rattle.places.specs.Reads.{Placed}
use Rattle.files.specs.Say as files
use Rattle.homes.specs.Homes.{own_home}
use Rattle.homes.specs.declared.Home.{Home}
use Rattle.classes.specs.Say.{ClassThere, AtClass}
use Rattle.classes.specs.declared.ClassSpot.{ClassSpot}
use Rattle.methods.specs.Table.{name_at, Has, Nameless, Sorted, Entered}
use Rattle.chains.specs.Say.{runs_at, FirstIs, RunningThere, RunsIs}
use Rattle.chains.specs.Chain.{most_links, names_start, link_home, Leaves, Part, Same}
use Rattle.chains.specs.declared.Names.{Names}
use Rattle.chains.specs.declared.MethodSpot.{MethodSpot}

abbrev pub text_of : Bytes → Bytes → Home → Bytes
text_of f s h = pick (eqb h.from 0) f s

-- the first link of the part to which a home belongs
abbrev pub first_link : Home → ℕ
first_link h = pick (eqb h.from 0) 16 0

-- the file g stands in the bytes t from place `base` on
pub record Held (g t : Bytes) (base : ℕ) : Type 0 where
  pub inside : base + length g ≤ length t
  pub short : length t ≤ 65535
  pub bytes : (i : ℕ) → i < length g → get_or t (base + i) 0 ≡ get_or g i 0

-- the method at place m of a file is entered, unless it is static
abbrev pub Added : Bytes → Bytes → List ℕ → List ℕ → ℕ → ℕ → ℕ → ℕ → ℕ → Type 0
Added g t l l' m p a e r = (files.StaticIs g m true × (l' ≡ l) × (r ≡ e)) ⊎ (files.StaticIs g m false × Entered t l l' a e p r)

-- the methods of the class at place c of a file are gathered: each that is new is the first of its name, and no other name is left
pub record Gathers (g t : Bytes) (l m : List ℕ) (c base a e r : ℕ) : Type 0 where
  pub sorted : Sorted t m a r
  pub size : length m ≡ length l
  pub below : Same l m 0 a
  pub end : r ≤ e + 64
  pub from : files.OfClass g c λ lim ds k j. (q : ℕ) → Has m a r q →
      Has l a e q ⊎ ((i : ℕ) × (q ≡ base + i) × (i < length g) × Nameless t l a e (name_at t q)
      × Placed (method (format_of lim g) ds) g (declared_instance k (name_at t q)) (some i))
  pub left : files.OfClass g c λ lim ds k j. (x : ℕ) → Nameless t m a r x → Nameless t l a e x × (declared_instance k x ≡ none)

pub record HomeFor (l : List ℕ) (i q : ℕ) (g : Home) : Type 0 where
  pub link : ℕ
  pub from : i ≤ link
  pub small : link < i + most_links
  pub is : link_home l link ≡ g
  pub inside : g.from ≤ q
  pub behind : (j : ℕ) → i ≤ j → j < link → q < (link_home l j).from

-- the home told is the one for a place, if there is one
abbrev pub HomeForIs : List ℕ → ℕ → ℕ → Home → Type 0
HomeForIs l i q r = (g : Home) → HomeFor l i q g → r ≡ g

abbrev pub Above : Bytes → Bytes → Optional ClassSpot → ℕ → Optional MethodSpot → Type 0
Above f s (Some d) x r = FirstIs f s d.home d.number x r
Above f s None x r = r ≡ None

pub record Gathered (f s : Bytes) (l : List ℕ) (h : Home) (n : ℕ) (stop : Optional ClassSpot) (a e : ℕ) : Type 0 where
  pub sorted : Sorted (text_of f s h) l a e
  pub hit : (q : ℕ) → Has l a e q → (g : Home) × HomeFor l (first_link h) q g × FirstIs f s h n (name_at (text_of f s h) q) (runs_at g (q - g.from))
  pub rest : (x : ℕ) → Nameless (text_of f s h) l a e x → (r : Optional MethodSpot) → Above f s stop x r → FirstIs f s h n x r

-- a class, and a part of a chain that begins with it
abbrev pub PartThere : Bytes → Bytes → List ℕ → Home → ℕ → ℕ → Type 0
PartThere f s l h n j = ClassThere f s h n × (stop : Optional ClassSpot) × Part f s l h n (first_link h) j stop

-- what gathering a part does to a table
pub record GatheredAll (f s : Bytes) (l m : List ℕ) (h : Home) (n j a r : ℕ) : Type 0 where
  pub is : (stop : Optional ClassSpot) → Part f s l h n (first_link h) j stop → Gathered f s m h n stop a r
  pub size : length m ≡ length l
  pub below : Same l m 0 a
  pub end : r ≤ a + 64 * (j - first_link h)

-- the first method of name x for own class b stands at place q of the bytes that hold it
abbrev pub Hit : Bytes → Bytes → List ℕ → ℕ → ℕ → ℕ → ℕ → ℕ → Type 0
Hit f s l i end b q x = (g : Home) × HomeFor l i q g × FirstIs f s (own_home end) b x (runs_at g (q - g.from))

abbrev pub HitThere : Bytes → Bytes → List ℕ → ℕ → ℕ → Type 0
HitThere f s l i q = (end : ℕ) × (b : ℕ) × (x : ℕ) × RunningThere f s end b × Hit f s l i end b q x

abbrev pub HitRuns : Bytes → Bytes → List ℕ → ℕ → ℕ → Optional MethodSpot → Type 0
HitRuns f s l i q r = (end b x : ℕ) → RunningThere f s end b → Hit f s l i end b q x → RunsIs f s end b x r

-- the stored names, for the stored class at which the chain goes on
abbrev pub StoredIs : Bytes → Bytes → List ℕ → ℕ → Optional ClassSpot → Type 0
StoredIs f s l e (Some d) = Gathered f s l d.home d.number None names_start e
StoredIs f s l e None = e ≡ names_start

-- the links, and room for 64 names of each class that the depth limit allows
abbrev pub names_length : Bytes → ℕ
names_length s = names_start + 64 * (store_limits s).depth

abbrev pub names_of : ℕ → ℕ → ℕ → ℕ → ClassSpot → Names
names_of end own stored all c = record { end = end; own = own; stored = stored; all = all; home = c.home; number = c.number }

pub record NamesIs (f s : Bytes) (l : List ℕ) (v : Names) : Type 0 where
  pub stop : Optional ClassSpot
  pub leaves : Leaves (own_home v.end) stop
  pub own : Gathered f s l (own_home v.end) v.own stop v.stored v.all
  pub stored : StoredIs f s l v.stored stop
  pub few : v.all ≤ names_length s

-- no more names than 64 for each class that the depth allows
abbrev pub Few : Bytes → Bytes → Home → ℕ → ℕ → Type 0
Few f s h n e = AtClass f s h n λ end es self x k. (m : ℕ) → depth_up_to (installed (store_limits s) es) (suc m) (record { home = x; number = n }) ≤ m → e ≤
    names_start + 64 * m

pub record KeptFor (f s : Bytes) (l : List ℕ) (h : Home) (n e : ℕ) : Type 0 where
  pub names : Gathered f s l h n None names_start e
  pub few : Few f s h n e

abbrev pub Kept : Bytes → Bytes → List ℕ → Names → Type 0
Kept f s l v = 0 < v.home.from → KeptFor f s l v.home v.number v.stored

abbrev pub NoneKept : Names → Type 0
NoneKept v = v.home.from ≡ 0

-- the first method of each name is that of the stored class at which the chain goes on
abbrev pub AsStored : Bytes → Bytes → Names → Type 0
AsStored f s v = 0 < v.home.from → v.all ≡ v.stored → (x : ℕ) (r : Optional MethodSpot) → FirstIs f s v.home v.number x r →
    FirstIs f s (own_home v.end) v.own x r

-- so it is for both, and the class is the same
pub record RunAlike (v w : Names) : Type 0 where
  pub behind : 0 < v.home.from
  pub nameless : v.all ≡ v.stored
  pub also : w.all ≡ w.stored
  pub home : v.home ≡ w.home
  pub number : v.number ≡ w.number

-- there is room for all names of a chain
pub record Room (f s : Bytes) (l : List ℕ) : Type 0 where
  pub size : names_length s ≤ length l
  pub file : length f ≤ 65535
  pub store : length s ≤ 65535

-- nothing runs for any name, where the answer is yes
abbrev pub NoneRuns : Bytes → Bytes → ℕ → ℕ → Bool → Type 0
NoneRuns f s end b r = r ≡ true → (x : ℕ) → RunsIs f s end b x None
