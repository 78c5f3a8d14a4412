-- Marks: a bit for each offset of a code, in one set where an instruction starts, in another where a branch goes. Assumes nothing.
--
-- entry_targets w code at == where the entries of a switch go
-- goes_to k z             == the integer is the offset k
-- in_code n z             == the integer is an offset below n
-- LandsAt n z r          == r is below n exactly where the integer is an offset below n, and is then that offset
-- Marks set ks           == the bits of these offsets are set, and no other
-- Adds n old new r zs    == r says whether these integers are all offsets below n; where they are, new has their bits beside those of old
-- last_of starts          == the last of these offsets, if there is one
-- Walk                   == what the walk over a code leaves
-- OfStarts n set q       == q of whatever code of n bytes and of whatever offsets in it, if these are the bits of the set
-- BeginsIs, FitsIs, AllFitIs == the answer to whether an instruction starts at k, the handler at a place fits, all handlers in bytes fit,
--                           where the set tells the starts
-- code_number code hs     == the number of the first no of questions 16, 17 and 24 of one code and its handlers; 18 where all are yes and it
--                           has a call, so that 18 and 19 are to be asked of it; else 0
use Rattle.std.specs.Prelude.{ℕ, ◌+◌, ◌<◌, ◌≡◌, Bool, true, false, ◌||◌, not, List, [], ◌∷◌, ltb, eqb, ℤ, pos, negsuc, length}
use Rattle.std.specs.Prelude.{Some, None}
use Rattle.std.specs.Prelude.{Option as Optional}
use Rattle.fields.specs.Told.{told}
use Rattle.std.proofs.Math.Option.{Option, none, some}
use Rattle.rules.specs.Bytes.{Bytes, any, all, list_of, flat}
use Rattle.rules.specs.Code.{Switch, targets_each, targets_at, split, code_splits, code_branches, Handler, handler_fits, code_handlers, call_at, calls_of, switch_entries}
use Rattle.rules.specs.Operations.{first_no}
use Rattle.bits.specs.Bits.{bit_at}
use Rattle.places.specs.Parts.{handler_at, handlers_in}

-- where the entries of the switch at an offset go, its default aside
abbrev pub entry_targets : Switch → Bytes → ℕ → List ℤ
entry_targets w code at = list_of (switch_entries w code at) (λ n. targets_each n code at (at + w.head + w.offset) w.entry)

abbrev pub goes_to : ℕ → ℤ → Bool
goes_to k (pos n) = eqb k n
goes_to k (negsuc n) = false

abbrev pub in_code : ℕ → ℤ → Bool
in_code n (pos k) = ltb k n
in_code n (negsuc k) = false

pub record LandsAt (n : ℕ) (z : ℤ) (r : ℕ) : Type 0 where
  pub below : ltb r n ≡ in_code n z
  pub there : r < n → z ≡ pos r

abbrev pub Marks : Bytes → List ℕ → Type 0
Marks set ks = (k : ℕ) → bit_at set k ≡ any (eqb k) ks

-- old is told by its members
pub record Adds (n : ℕ) (old : ℕ → Bool) (new : Bytes) (r : Bool) (zs : List ℤ) : Type 0 where
  pub answer : r ≡ all (in_code n) zs
  pub marked : r ≡ true → (k : ℕ) → bit_at new k ≡ (old k || any (goes_to k) zs)

abbrev pub last_of : List ℕ → Option ℕ
last_of [] = none
last_of (at ∷ []) = some at
last_of (at ∷ next ∷ starts) = last_of (next ∷ starts)

-- the same of a split
abbrev pub last_in : Option (List ℕ) → Option ℕ
last_in none = none
last_in (some starts) = last_of starts

-- an offset that is told lies in a code of n bytes
abbrev pub LastInside : ℕ → Optional ℕ → Type 0
LastInside n (Some at) = at < n
LastInside n None = Unit

-- a list without elements
abbrev pub empty : {A : Type 0} → List A → Bool
empty [] = true
empty (x ∷ xs) = false

-- these offsets lie in a code of n bytes
abbrev pub Below : ℕ → List ℕ → Type 0
Below n ks = (k : ℕ) → any (eqb k) ks ≡ true → ltb k n ≡ true

abbrev pub OfStarts : ℕ → Bytes → (Bytes → List ℕ → Type 0) → Type 0
OfStarts n set q = (code : Bytes) (ks : List ℕ) → length code ≡ n → Marks set ks → Below n ks → q code ks

abbrev pub BeginsIs : ℕ → Bytes → ℕ → Bool → Type 0
BeginsIs n set k r = OfStarts n set λ code ks. r ≡ any (eqb k) ks

abbrev pub FitsIs : ℕ → Bytes → Bytes → ℕ → Bool → Type 0
FitsIs n set hs at r = OfStarts n set λ code ks. r ≡ handler_fits code ks (handler_at hs at)

abbrev pub AllFitIs : ℕ → Bytes → Bytes → Bool → Type 0
AllFitIs n set hs r = OfStarts n set λ code ks. r ≡ all (handler_fits code ks) (handlers_in hs)

-- of the instructions at these offsets: where they start, whether their branches stay inside, and where they go; whether one is a call
pub record Passed (code : Bytes) (inside calls : Bool) (starts targets : Bytes) (ks : List ℕ) : Type 0 where
  pub marked : Marks starts ks
  pub below : Below (length code) ks
  pub landed : Adds (length code) (λ k. false) targets inside (flat (targets_at code) ks)
  pub called : not calls ≡ empty (flat (call_at code) ks)

pub record Walk (code : Bytes) (last : Optional ℕ) (inside calls : Bool) (starts targets : Bytes) : Type 0 where
  pub answered : told last ≡ last_in (split code)
  pub bound : LastInside (length code) last
  pub passed : (ks : List ℕ) → split code ≡ some ks → Passed code inside calls starts targets ks

-- a code without calls
unfoldable pub no_calls : Bytes → Bool
no_calls code = empty (calls_of code)

abbrev pub code_number : Bytes → List Handler → ℕ
code_number code hs = first_no ((16, code_splits code) ∷ (17, code_branches code) ∷ (24, code_handlers code hs) ∷ (18, no_calls code) ∷ [])
