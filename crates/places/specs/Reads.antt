-- A reader at a place: what code that holds a slice and a place in it knows of a reader. Assumes nothing.
--
-- Reads r s i a j     == the reader r, at place i of s, reads the value a and stops at place j
-- Ends r s i          == it reads something there: what a function requires
-- EndsAt r s i e      == whatever it reads there ends at e: what a function ensures
-- Placed r s o p      == the value of o, if there is one, stands at the place of p, if there is one
-- Tracks r s whole i f g left c == a loop over the list that `whole` reads at place i, with `left` elements still to be read at c
-- Skips               == the same where only the place counts
use Rattle.std.specs.Prelude.{ℕ, ◌≤◌, ◌≡◌, List, length, drop}
use Rattle.std.proofs.Math.Option.{Option, none, some}
use Rattle.rules.specs.Bytes.{Bytes, Reader, many}

-- the reader r, at place i of s, reads the value a and stops at place j
pub record Reads {A : Type 0} (r : Reader A) (s : Bytes) (i : ℕ) (a : A) (j : ℕ) : Type 0 where
  pub is : r (drop i s) ≡ some (a, drop j s)
  pub from : i ≤ length s
  pub to : j ≤ length s

-- it reads something there
abbrev pub Ends : {A : Type 0} → Reader A → Bytes → ℕ → Type 0
Ends {A} r s i = (a : A) × (j : ℕ) × Reads r s i a j

-- whatever it reads there ends at e
abbrev pub EndsAt : {A : Type 0} → Reader A → Bytes → ℕ → ℕ → Type 0
EndsAt {A} r s i e = (a : A) (j : ℕ) → Reads r s i a j → e ≡ j

-- a value, if there is one, stands at the place told, if one is told
pub data Placed {A : Type 0} (r : Reader A) (s : Bytes) : Option A → Option ℕ → Type 0 where
  there : {a : A} {i j : ℕ} → Reads r s i a j → Placed r s (some a) (some i)
  nowhere : Placed r s none none

-- of the list that `whole` reads at place i, `left` elements are still to be read at place c, and f of the whole list is g of these
abbrev pub Tracks : {A B : Type 0} → Reader A → Bytes → Reader (List A) → ℕ → (List A → B) → (List A → B) → ℕ → ℕ → Type 0
Tracks {A} r s whole i f g left c = (xs : List A) (j : ℕ) → Reads whole s i xs j → (ys : List A) × Reads (many left r) s c ys j × (f xs ≡ g ys)

-- the same number for every list
abbrev pub nil : {A : Type 0} → List A → ℕ
nil xs = 0

-- the loop where only the place counts
abbrev pub Skips : {A : Type 0} → Reader A → Bytes → Reader (List A) → ℕ → ℕ → ℕ → Type 0
Skips r s whole i left c = Tracks r s whole i nil nil left c
