-- What the functions that write a store require and leave. Assumes nothing.
--
-- limits_given      == the limits that a fresh call is given
-- kind_said k       == the kind of domains that the code names
-- Emptied s t n k  == t is s emptied: an empty store of version n whose opening bytes are k; those behind the used field stay
-- Room s u e       == s is the layout of entries that end at place u, and the entry e fits behind them
-- CutAt s u i j    == s is the layout of entries that end at place u, one of which stands from place i up to place j
-- Appended s t e   == t is the layout of the entries of s with e behind them
-- CutOut s t i j   == t is the layout of the entries of s without the one that stands from place i up to place j
use Rattle.std.specs.Prelude.{ℕ, ◌-◌, ◌≤◌, ◌≡◌, Bool, true, List, [], ◌∷◌, ◌++◌, length, take, drop, replicate}
use Rattle.std.proofs.Math.Option.{some}
use Rattle.rules.specs.Bytes.{Bytes, high, low}
use Rattle.rules.specs.Limits.{Limits}
use Rattle.rules.specs.Store.{DomainKind, full, without_int, Entry, store_mark, write, entries_of, store_opening, first_entry}
use Rattle.rules.specs.Questions.{q21_fits}
use Rattle.rules.specs.Operations.{without}
use Rattle.store.specs.Entries.{Laid, place_of}
use Rattle.writing.specs.declared.DomainKind.{DomainKind as Kind}
use Rattle.writing.specs.declared.DomainKind.TheVariants as kinds

-- depth, parents and code length that a fresh call is given
abbrev pub limits_given : ℕ → ℕ → ℕ → Limits
limits_given d p c = record { depth = d; parents = p; code = c }

-- the kind of domains that the code names
abbrev pub kind_said : Kind → DomainKind
kind_said kinds.Full = full
kind_said kinds.WithoutInt = without_int

-- t is s emptied: mark and version, used, the opening bytes behind it as they were, zeros
abbrev pub Emptied : Bytes → Bytes → ℕ → ℕ → Type 0
Emptied s t n k = t ≡ store_mark n ++ (high k ∷ low k ∷ take (k - 7) (drop 7 s) ++ replicate (length s - k) 0)

-- s is the layout of entries that end at place u, at most 65,535 bytes, and an entry fits behind them
pub record Room (s : Bytes) (u : ℕ) (e : Entry) : Type 0 where
  pub laid : Laid s u
  pub small : length s ≤ 65535
  pub fits : q21_fits (store_opening s) (length s) laid.0 e ≡ true

-- s is the layout of entries that end at place u, at most 65,535 bytes, and one of them stands from place i up to place j
pub record CutAt (s : Bytes) (u i j : ℕ) : Type 0 where
  pub laid : Laid s u
  pub small : length s ≤ 65535
  pub test : Entry → Bool
  pub place : place_of test (first_entry s) laid.0 ≡ some (i, j)

-- t is the layout of the entries of s with e behind them
abbrev pub Appended : Bytes → Bytes → Entry → Type 0
Appended s t e = (es : List Entry) → entries_of s ≡ some es → t ≡ write (store_opening s) (length s) (es ++ e ∷ [])

-- t is the layout of the entries of s without the one that stands from place i up to place j, however it was found
abbrev pub CutOut : Bytes → Bytes → ℕ → ℕ → Type 0
CutOut s t i j =
    (es : List Entry) (q : Entry → Bool) → entries_of s ≡ some es → place_of q (first_entry s) es ≡ some (i, j) → t ≡ write (store_opening s) (length s) (without q es)
