-- What references name, kept in a table for as many as it holds: six numbers for each. Assumes nothing.
--
-- kept_count, kept_length == how many references the table holds, and its numbers in all; held g == how many of the file it holds for the group
-- row_of p              == the row of the domains of package number p: that number below 16, else 16
-- mark_of x             == the mark of a declaration: twice the row, and one more where the class named is of kind 0
-- told_at t k           == what the table t tells in place k
-- told_of r             == what is named, as something told; kept_told r == as the table tells it: with the row of its package
-- is_told r             == it is not open
-- with_row t i h c m n  == the table with six numbers from number i on: a home, two places and a mark
-- with_meant, with_nothing, with_open == so with a declaration, with nothing, with an open reference's class named
-- SmallMeant x, SmallFound r, SmallTold r == places that fit two bytes
-- KeptIs t u k r       == the table u is t with r in place k
-- SameTold t u         == the tables t and u tell the same
-- KeptTrue f s g t     == what each place of the table tells of that reference of the group is true, if the file has that reference
-- SearchedIn f s g k t u == so does u, in place k it is not open, and the other places tell what they told in t
-- AllTold g t          == none of these is open
-- in_group g k          == calls of reference k are asked with the group
-- told_in t g k         == what is told of reference k by the table of the group
use Rattle.std.specs.Prelude.{Some, None}
use Rattle.std.specs.Prelude.{Option as Optional}
use Rattle.std.specs.Prelude.{ℕ, ◌+◌, ◌-◌, ◌*◌, ◌/◌, ◌%◌, ◌<◌, ◌≤◌, ◌≡◌, Bool, true, false, ◌&&◌, ◌||◌, List, eqb, leb, ltb, length, get_or, set, min}
use Rattle.rules.specs.Bytes.{Bytes, pick}
use Rattle.homes.specs.declared.Home.{Home}
use Rattle.slots.specs.Slots.{home_in, with_home, SmallHome}
use Rattle.references.specs.Named.{ToldIs}
use Rattle.references.specs.declared.Group.{Group}
use Rattle.references.specs.declared.Meant.{Meant}
use Rattle.references.specs.declared.Told.{Told}
use Rattle.references.specs.declared.Told.TheVariants as told

abbrev pub kept_count : ℕ
kept_count = 32

abbrev pub kept_length : ℕ
kept_length = 192

abbrev pub held : Group → ℕ
held g = min (g.count - g.first) kept_count

abbrev pub row_of : ℕ → ℕ
row_of p = min p 16

abbrev pub bit_of : Bool → ℕ
bit_of false = 0
bit_of true = 1

abbrev pub mark_of : Meant → ℕ
mark_of x = 2 * row_of x.pack + bit_of x.kind0

-- the marks where nothing is named, where it is open, and where a call asked for it too
abbrev pub no_mark : ℕ
no_mark = 34

abbrev pub open_mark : ℕ
open_mark = 35

abbrev pub wanted_mark : ℕ
wanted_mark = 36

-- the declaration that six numbers from number i on tell, the last of them being n
abbrev pub meant_at : List ℕ → ℕ → ℕ → Meant
meant_at t i n = record { home = home_in t i; class = get_or t (i + 3) 0; method = get_or t (i + 4) 0; kind0 = eqb (n % 2) 1; pack = n / 2 }

abbrev pub told_from : List ℕ → ℕ → ℕ → Told
told_from t i n = pick (eqb n no_mark) told.Nothing (pick (ltb no_mark n) (told.Open (home_in t i) (get_or t (i + 3) 0)) (told.Method (meant_at t i n)))

abbrev pub told_at : List ℕ → ℕ → Told
told_at t k = told_from t (6 * k) (get_or t (6 * k + 5) 0)

abbrev pub told_of : Optional Meant → Told
told_of (Some x) = told.Method x
told_of None = told.Nothing

abbrev pub kept_meant : Meant → Meant
kept_meant x = record { home = x.home; class = x.class; method = x.method; kind0 = x.kind0; pack = row_of x.pack }

abbrev pub kept_told : Told → Told
kept_told (told.Method x) = told.Method (kept_meant x)
kept_told told.Nothing = told.Nothing
kept_told (told.Open h i) = told.Open h i

abbrev pub is_told : Told → Bool
is_told (told.Method x) = true
is_told told.Nothing = true
is_told (told.Open h i) = false

abbrev pub with_row : List ℕ → ℕ → Home → ℕ → ℕ → ℕ → List ℕ
with_row t i h c m n = set (set (set (with_home t i h) (i + 3) c) (i + 4) m) (i + 5) n

abbrev pub with_meant : List ℕ → ℕ → Meant → List ℕ
with_meant t i x = with_row t i x.home x.class x.method (mark_of x)

abbrev pub with_open : List ℕ → ℕ → Home → ℕ → List ℕ
with_open t i h c = with_row t i h c 0 open_mark

abbrev pub with_nothing : List ℕ → ℕ → List ℕ
with_nothing t i = set t (i + 5) no_mark

pub record SmallMeant (x : Meant) : Type 0 where
  pub home : SmallHome x.home
  pub class : x.class ≤ 65535
  pub method : x.method ≤ 65535

abbrev pub SmallFound : Optional Meant → Type 0
SmallFound (Some x) = SmallMeant x
SmallFound None = Unit

abbrev pub SmallTold : Told → Type 0
SmallTold (told.Method x) = SmallMeant x
SmallTold told.Nothing = Unit
SmallTold (told.Open h i) = SmallHome h × (i ≤ 65535)

pub record KeptIs (t u : List ℕ) (k : ℕ) (r : Told) : Type 0 where
  pub here : told_at u k ≡ kept_told r
  pub others : (j : ℕ) → (j ≡ k → ⊥) → told_at u j ≡ told_at t j

pub record SameTold (t u : List ℕ) : Type 0 where
  pub size : length u ≡ length t
  pub told : (k : ℕ) → told_at u k ≡ told_at t k

pub record KeptTrue (f s : Bytes) (g : Group) (t : List ℕ) : Type 0 where
  pub size : length t ≡ kept_length
  pub told : (k : ℕ) → k < kept_count → g.first + k < g.count → ToldIs f s g.end (g.first + k) (told_at t k)

pub record SearchedIn (f s : Bytes) (g : Group) (k : ℕ) (t u : List ℕ) : Type 0 where
  pub kept : KeptTrue f s g u
  pub told : is_told (told_at u k) ≡ true
  pub others : (j : ℕ) → (j ≡ k → ⊥) → told_at u j ≡ told_at t j

abbrev pub AllTold : Group → List ℕ → Type 0
AllTold g t = (k : ℕ) → k < kept_count → g.first + k < g.count → is_told (told_at t k) ≡ true

-- reference k is one of the group, or none of the file's
abbrev pub in_group : Group → ℕ → Bool
in_group g k = leb g.count k || (leb g.first k && ltb k (g.first + kept_count))

-- what is told of reference k, nothing being named past the file's references
abbrev pub told_in : List ℕ → Group → ℕ → Told
told_in t g k = pick (leb g.count k) told.Nothing (told_at t (k - g.first))
