-- Places of a store's entries, sorted by the AIDs that the entries are known by. Assumes nothing.
--
-- below a b         == a comes before b: the first bytes that differ decide, and the shorter comes first
-- key_place s p      == where the length stands of the AID that the entry at place p of s is known by: a domain's own, a package's in its file
-- key_at s p         == that AID
-- Keyed s p         == it stands whole in s, and p is not 0
-- count l           == how many places the table l has: its first number
-- place_at l k       == its place with number k, counted from 0
-- Has l q           == q is one of its places
-- Sorted s l        == its places have AIDs, each before the next
-- Lower s l a r     == the first r places have AIDs before a, and no other has
-- HereIs s l k a b  == whether there is a place with number k, and it has the AID a
-- Found s l a r     == r is the place with the AID a; where it is none, no place has it
-- Opened l m n r p  == m is l with p put at number r, and the places from there up to n moved one up
-- Entered s l m p b == where b is true, m is l with the place p too, whose AID no other has; else m is l, and one has it
use Rattle.std.specs.Prelude.{ℕ, ◌+◌, ◌-◌, ◌<◌, ◌≤◌, ◌≡◌, Bool, true, false, List, [], ◌∷◌, ◌⊎◌, eqb, ltb, length, get_or, Some, None}
use Rattle.std.specs.Prelude.{Option as Optional}
use Rattle.rules.specs.Bytes.{Bytes, Aid, pick}
use Rattle.store.specs.Entries.{part}

-- a comes before b
unfoldable pub below : Aid → Aid → Bool
below [] [] = false
below [] (y ∷ ys) = true
below (x ∷ xs) [] = false
below (x ∷ xs) (y ∷ ys) = pick (eqb x y) (below xs ys) (ltb x y)

-- kind 2: place 7 of the file, which stands behind the loading domain's AID; else the low byte of the body's length
unfoldable pub key_place : Bytes → ℕ → ℕ
key_place s p = pick (eqb (get_or s p 0) 2) (p + 11 + get_or s (p + 3) 0) (p + 2)

-- the bytes behind their length
abbrev pub aid_at : Bytes → ℕ → Aid
aid_at s i = part s (i + 1) (i + 1 + get_or s i 0)

-- the AID that the entry at a place is known by
unfoldable pub key_at : Bytes → ℕ → Aid
key_at s p = aid_at s (key_place s p)

-- it stands whole
pub record Keyed (s : Bytes) (p : ℕ) : Type 0 where
  pub real : 0 < p
  pub head : p + 3 < length s
  pub whole : key_place s p + 1 + get_or s (key_place s p) 0 ≤ length s

-- the count of a table
abbrev pub count : List ℕ → ℕ
count l = get_or l 0 0

-- place k of a table
abbrev pub place_at : List ℕ → ℕ → ℕ
place_at l k = get_or l (k + 1) 0

-- one of the places of a table
abbrev pub Has : List ℕ → ℕ → Type 0
Has l q = (k : ℕ) × (k < count l) × (place_at l k ≡ q)

-- the places have AIDs, each before the next
pub record Sorted (s : Bytes) (l : List ℕ) : Type 0 where
  pub size : count l < length l
  pub keyed : (k : ℕ) → k < count l → Keyed s (place_at l k)
  pub order : (i j : ℕ) → i < j → j < count l → below (key_at s (place_at l i)) (key_at s (place_at l j)) ≡ true

-- the first r places have AIDs before a, and no other has
pub record Lower (s : Bytes) (l : List ℕ) (a : Aid) (r : ℕ) : Type 0 where
  pub within : r ≤ count l
  pub under : (k : ℕ) → k < r → below (key_at s (place_at l k)) a ≡ true
  pub over : (k : ℕ) → r ≤ k → k < count l → below (key_at s (place_at l k)) a ≡ false

-- whether there is a place with number k, and it has the AID a
abbrev pub HereIs : Bytes → List ℕ → ℕ → Aid → Bool → Type 0
HereIs s l k a true = (k < count l) × (key_at s (place_at l k) ≡ a)
HereIs s l k a false = k < count l → key_at s (place_at l k) ≡ a → ⊥

-- the place with the AID a, or none has it
abbrev pub Found : Bytes → List ℕ → Aid → Optional ℕ → Type 0
Found s l a (Some q) = Has l q × (key_at s q ≡ a)
Found s l a None = (p : ℕ) → Has l p → key_at s p ≡ a → ⊥

-- p put at number r, and the places from there up to n moved one up; the count stays
pub record Opened (l m : List ℕ) (n r p : ℕ) : Type 0 where
  pub size : length m ≡ length l
  pub low : (k : ℕ) → k < r → place_at m k ≡ place_at l k
  pub new : place_at m r ≡ p
  pub high : (k : ℕ) → r < k → k ≤ n → place_at m k ≡ place_at l (k - 1)

-- m has the places of l and the place p, whose AID no other has
pub record EnteredNew (s : Bytes) (l m : List ℕ) (p : ℕ) : Type 0 where
  pub sorted : Sorted s m
  pub size : length m ≡ length l
  pub more : count m ≡ count l + 1
  pub has : Has m p
  pub kept : (q : ℕ) → Has l q → Has m q
  pub from : (q : ℕ) → Has m q → (q ≡ p) ⊎ Has l q
  pub alone : (q : ℕ) → Has l q → key_at s q ≡ key_at s p → ⊥

-- the place is entered, or another has its AID
abbrev pub Entered : Bytes → List ℕ → List ℕ → ℕ → Bool → Type 0
Entered s l m p true = EnteredNew s l m p
Entered s l m p false = (m ≡ l) × (q : ℕ) × Has l q × (key_at s q ≡ key_at s p)
