-- What a function that reads at a place tells of a reader of the definitions: the one shape of every contract of reading. Assumes nothing.
--
-- Says f r s i answer == asked at place i of s, the reader r says none and none is told, or r reads a value, f of it is told, and the
--                        place told is where r stops
-- Stops r s i answer  == the same where only the place is told
-- field_said, ..       == what an answer of the code tells
use Rattle.std.specs.Prelude.{ℕ, ◌≤◌, ◌≡◌, length, take, drop, Some, None}
use Rattle.std.specs.Prelude.{Option as Optional}
use Rattle.std.proofs.Math.Option.{Option, none, some}
use Rattle.rules.specs.Bytes.{Bytes, Aid, Reader}
use Rattle.cursor.specs.declared.AidPlace.{AidPlace}
use Rattle.cursor.specs.declared.Cursor.{Cursor}

-- the value itself is told
abbrev pub itself : {A : Type 0} → A → A
itself a = a

pub data Says {A B : Type 0} (f : A → B) (r : Reader A) (s : Bytes) (i : ℕ) : Option (B × ℕ) → Type 0 where
  says : {a : A} {b : B} {j : ℕ} → r (drop i s) ≡ some (a, drop j s) → f a ≡ b → j ≤ length s → Says f r s i (some (b, j))
  says_none : r (drop i s) ≡ none → Says f r s i none

pub data Stops {A : Type 0} (r : Reader A) (s : Bytes) (i : ℕ) : Option ℕ → Type 0 where
  stops : {a : A} {j : ℕ} → r (drop i s) ≡ some (a, drop j s) → j ≤ length s → Stops r s i (some j)
  stops_none : r (drop i s) ≡ none → Stops r s i none

-- a number or a count, and the place behind it
abbrev pub field_said : Optional (ℕ × Cursor) → Option (ℕ × ℕ)
field_said (Some r) = some (r.0, r.1.at.0)
field_said None = none

-- the bytes of an AID of s, and the place behind it
abbrev pub aid_said : Bytes → Optional (AidPlace × Cursor) → Option (Aid × ℕ)
aid_said s (Some r) = some (take r.0.len (drop r.0.start.0 s), r.1.at.0)
aid_said s None = none

-- the place behind what was read over
abbrev pub skip_said : Optional Cursor → Option ℕ
skip_said (Some c) = some c.at.0
skip_said None = none
