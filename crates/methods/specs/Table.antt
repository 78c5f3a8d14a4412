-- Places of methods sorted by name, in the numbers from a up to e of a table. Assumes nothing.
--
-- name_at t p           == the name of the method at place p of the bytes t; Named t p == it stands whole
-- Has l a e q          == q is among the numbers from a up to e of the table l
-- Nameless t l a e x   == none of these is the place of a method of name x
-- Sorted t l a e       == they are places of methods, each name greater than the one before
-- Lower t l a e x r    == the names before r are smaller than x, and none from r on is
-- Standing t l a e x r == the method at number r, from a up to e, has name x
-- Found t l a e x r    == it is a number where the method has name x, or none has
-- Opened l m a e r p   == m is l with p put at r, and the numbers from r up to e moved one up
-- Entered t l m a e p r == m is l with p entered, where no method of its name was there; the numbers then end at r
use Rattle.std.specs.Prelude.{ℕ, ◌+◌, ◌-◌, ◌<◌, ◌≤◌, ◌≡◌, List, ◌⊎◌, length, get_or, Some, None}
use Rattle.std.specs.Prelude.{Option as Optional}
use Rattle.rules.specs.Bytes.{Bytes}
use Rattle.rules.specs.Code.{u2_at}

abbrev pub name_at : Bytes → ℕ → ℕ
name_at t p = u2_at t (p + 1)

abbrev pub Named : Bytes → ℕ → Type 0
Named t p = p + 2 < length t

abbrev pub Has : List ℕ → ℕ → ℕ → ℕ → Type 0
Has l a e q = (k : ℕ) × (a ≤ k) × (k < e) × (get_or l k 0 ≡ q)

abbrev pub Nameless : Bytes → List ℕ → ℕ → ℕ → ℕ → Type 0
Nameless t l a e x = (q : ℕ) → Has l a e q → name_at t q ≡ x → ⊥

pub record Sorted (t : Bytes) (l : List ℕ) (a e : ℕ) : Type 0 where
  pub low : a ≤ e
  pub size : e ≤ length l
  pub named : (k : ℕ) → a ≤ k → k < e → Named t (get_or l k 0)
  pub order : (i j : ℕ) → a ≤ i → i < j → j < e → name_at t (get_or l i 0) < name_at t (get_or l j 0)

pub record Lower (t : Bytes) (l : List ℕ) (a e x r : ℕ) : Type 0 where
  pub low : a ≤ r
  pub high : r ≤ e
  pub under : (k : ℕ) → a ≤ k → k < r → name_at t (get_or l k 0) < x
  pub over : (k : ℕ) → r ≤ k → k < e → x ≤ name_at t (get_or l k 0)

pub record Standing (t : Bytes) (l : List ℕ) (a e x r : ℕ) : Type 0 where
  pub low : a ≤ r
  pub high : r < e
  pub named : name_at t (get_or l r 0) ≡ x

abbrev pub Found : Bytes → List ℕ → ℕ → ℕ → ℕ → Optional ℕ → Type 0
Found t l a e x (Some r) = Standing t l a e x r
Found t l a e x None = Nameless t l a e x

pub record Opened (l m : List ℕ) (e r p : ℕ) : Type 0 where
  pub size : length m ≡ length l
  pub low : (k : ℕ) → k < r → get_or m k 0 ≡ get_or l k 0
  pub new : get_or m r 0 ≡ p
  pub high : (k : ℕ) → r < k → k ≤ e → get_or m k 0 ≡ get_or l (k - 1) 0

pub record Entered (t : Bytes) (l m : List ℕ) (a e p r : ℕ) : Type 0 where
  pub sorted : Sorted t m a r
  pub size : length m ≡ length l
  pub below : (k : ℕ) → k < a → get_or m k 0 ≡ get_or l k 0
  pub end : r ≤ e + 1
  pub from : (q : ℕ) → Has m a r q → Has l a e q ⊎ ((q ≡ p) × Nameless t l a e (name_at t p))
  pub kept : (q : ℕ) → Has l a e q → Has m a r q
  pub there : (q : ℕ) × Has m a r q × (name_at t q ≡ name_at t p)
