-- A sound store by the place where its entries end, and an operation's number there. Assumes nothing.
--
-- Over s end es     == es stand in s up to place end, each accepted over the earlier ones in a buffer of that length
-- SoundAt s u       == the store s is sound, and its entries end at place u
-- Asked s u o n     == n is the operation's number by its questions behind 1 and 2
use Rattle.std.specs.Prelude.{ℕ, ◌≡◌, true, List, [], T, length}
use Rattle.std.proofs.Math.Option.{some}
use Rattle.rules.specs.Bytes.{Bytes}
use Rattle.rules.specs.Store.{Entry, used, entries_of, first_entry, store_opening}
use Rattle.rules.specs.Operations.{first_no, accepted_all, sound, Operation, questions}
use Rattle.store.specs.Entries.{Entries, Holds}

-- sound entries that end at a place
pub record Over (s : Bytes) (end : ℕ) (es : List Entry) : Type 0 where
  pub stand : Entries s (first_entry s) es end
  pub sound : T (accepted_all (store_opening s) (length s) [] es)

abbrev pub OverSome : Bytes → ℕ → Type 0
OverSome s end = (es : List Entry) × Over s end es

-- a sound store, whose entries end at place u
pub record SoundAt (s : Bytes) (u : ℕ) : Type 0 where
  pub is : sound s ≡ true
  pub entries : (es : List Entry) → entries_of s ≡ some es → Holds s es × Over s u es × (used (store_opening s) es ≡ u)

-- the operation's number by its questions behind 1 and 2
abbrev pub Asked : Bytes → ℕ → Operation → ℕ → Type 0
Asked s u o n = (es : List Entry) → Over s u es → n ≡ first_no (questions (store_opening s) (length s) es o)
