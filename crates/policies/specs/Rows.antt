-- Numbers of domains, kept in rows between comparisons, and sets of numbers as bits. Assumes nothing.
--
-- has_bit m n           == bit n of the mask m is set, n below 64; with_bit m n == m with it
-- TwoLists             == the list that numbers are of, the list whose slots are numbered, the row's entry for the first of them
-- row_length            == an entry for each slot: 32 domains and FE
-- HasPlaces row l      == the row has an entry for each slot of the other list
-- ListOver s d i       == a policy over the domains at d stands at i, and is not FF
-- unknown              == the entry of a slot whose number was not found yet
-- Known w row          == each entry that is not unknown is what w tells
-- SlotNumber f d g e l k r == r is the number of slot k of g's list, in a file of domain e, in f's list with d behind it
-- Tells w f d g e l    == w tells these numbers
-- Kept f d g e l x y q == for such a w of which the row x is a part, the row y is one too, and q holds
-- NumberKept           == the answer is the number of slot k
-- own_lists u           == a list numbered in itself, from entry 0 on
use Rattle.std.specs.Prelude.{ℕ, suc, ◌+◌, ◌/◌, ◌%◌, ◌^◌, ◌≤◌, ◌<◌, ◌≡◌, List, [], ◌∷◌, ◌++◌, Bool, eqb, length, get_or}
use Rattle.std.specs.Int.Bits.{bit_or}
use Rattle.rules.specs.Bytes.{Bytes, Aid}
use Rattle.policies.specs.Say.{own_slot, slot_aid, IsSlot, PolicyOver}
use Rattle.policies.specs.Numbers.{number_in, OfDomains}
use Rattle.policies.specs.declared.TwoLists.{TwoLists}

unfoldable pub has_bit : ℕ → ℕ → Bool
has_bit m n = eqb (m / 2 ^ (n % 64) % 2) 1

unfoldable pub with_bit : ℕ → ℕ → ℕ
with_bit m n = bit_or m (2 ^ (n % 64))

abbrev pub row_length : ℕ
row_length = suc own_slot

-- an entry for each slot of the other list
abbrev pub HasPlaces : List ℕ → TwoLists → Type 0
HasPlaces row l = l.base + row_length ≤ length row

-- a policy that is not FF
abbrev pub ListOver : Bytes → ℕ → ℕ → Type 0
ListOver s d i = PolicyOver s d i × (get_or s i 0 ≡ 255 → ⊥)

abbrev pub unknown : ℕ
unknown = 255

abbrev pub Known : (ℕ → ℕ) → List ℕ → Type 0
Known w row = (k : ℕ) → k < length row → (get_or row k 0 ≡ unknown → ⊥) → get_or row k 0 ≡ w k

-- r is the number of slot k, whatever the lists are
abbrev pub SlotNumber : Bytes → Aid → Bytes → Aid → TwoLists → ℕ → ℕ → Type 0
SlotNumber f d g e l k r = OfDomains f l.own λ ds. OfDomains g l.other λ gs. IsSlot gs k → r ≡ number_in (ds ++ d ∷ []) (slot_aid gs e k)

pub record Tells (w : ℕ → ℕ) (f : Bytes) (d : Aid) (g : Bytes) (e : Aid) (l : TwoLists) : Type 0 where
  pub number : (k : ℕ) → SlotNumber f d g e l k (w (l.base + k))

-- the row x was part of what w tells: the row y still is, and q holds
pub record Kept (f : Bytes) (d : Aid) (g : Bytes) (e : Aid) (l : TwoLists) (x y : List ℕ) (q : (ℕ → ℕ) → Type 0) : Type 0 where
  pub known : (w : ℕ → ℕ) → Tells w f d g e l → Known w x → Known w y
  pub holds : (w : ℕ → ℕ) → Tells w f d g e l → Known w x → q w

abbrev pub NumberKept : Bytes → Aid → Bytes → Aid → TwoLists → ℕ → List ℕ → List ℕ → ℕ → Type 0
NumberKept f d g e l k x y r = Kept f d g e l x y λ w. r ≡ w (l.base + k)

-- a list numbered in itself
abbrev pub own_lists : ℕ → TwoLists
own_lists u = record { own = u; other = u; base = 0 }
