-- Question 19 by the numbers of domains: what is known of the list of what is called, and what is looked for there. Assumes nothing.
--
-- f, d, g, e               == the caller's file and the loading domain, the file of what is called and the domain that it lies in
-- entry_bit l row k         == the bit of the row's entry for slot k of g's list
-- KnownBits g l i row m    == the bits of m are the row's entries of the slots that the policy of g at i lists
-- TellsOf w g e l x n      == w tells n of each slot of g's list that stands for x
-- ListedKept g e l i x n .. == the answer is that the policy at i allows x, and the row stays a part of such a w
-- Sure m n o x             == if bit n of m is set, the rights o allow x
-- WantedKept, LoadingKept  == the same of a domain of the own list, and of the loading domain, where a mask may tell it
-- Both f d g e l x y q     == for a w that tells the numbers of both lists and of which the row x is a part, the row y is one too, and q holds
-- BitsSure f d g e l i m   == of each domain of the own list and of d: if the bit of its number is set, the policy of g at i allows it
-- AllKept, CoversKept      == the answer is that the policy called allows all that the caller's allows; and the loading domain too
use Rattle.std.specs.Prelude.{ℕ, ◌+◌, ◌%◌, ◌<◌, ◌≡◌, Bool, true, ◌&&◌, eqb, get_or}
use mathlib.Core.List.{List, [], ◌∷◌, ◌++◌, Memᴰ}
use Rattle.rules.specs.Bytes.{Bytes, Aid, any}
use Rattle.rules.specs.Classes.{Rights, meant, admits, admits_all_of}
use Rattle.policies.specs.Say.{slot_of, slot_aid, IsSlot, indexes_at, OfPolicy, Admits}
use Rattle.policies.specs.Numbers.{number_in, OfDomains}
use Rattle.policies.specs.Rows.{has_bit, Known, Tells, own_lists}
use Rattle.policies.specs.declared.TwoLists.{TwoLists}
use Rattle.coverage.specs.declared.Asked.{Asked}
use Rattle.coverage.specs.declared.Wanted.{Wanted}
use Rattle.coverage.specs.declared.Listing.{Listing}

-- an entry that is not known is bit 63
abbrev pub entry_bit : TwoLists → List ℕ → ℕ → ℕ
entry_bit l row k = get_or row (l.base + k) 0 % 64

abbrev pub KnownBits : Bytes → TwoLists → ℕ → List ℕ → ℕ → Type 0
KnownBits g l i row m = (n : ℕ) → n < 64 → has_bit m n ≡ any (λ k. eqb (entry_bit l row (slot_of k)) n) (indexes_at g i)

-- the number of each slot that stands for x is n
abbrev pub TellsOf : (ℕ → ℕ) → Bytes → Aid → TwoLists → Aid → ℕ → Type 0
TellsOf w g e l x n = OfDomains g l.other λ gs. (k : ℕ) → IsSlot gs k → slot_aid gs e k ≡ x → n ≡ w (l.base + k)

pub record ListedKept (g : Bytes) (e : Aid) (l : TwoLists) (i : ℕ) (x : Aid) (n : ℕ) (row row' : List ℕ) (r : Bool) : Type 0 where
  pub answer : Admits g l.other e i x r
  pub known : (w : ℕ → ℕ) → TellsOf w g e l x n → Known w row → Known w row'

-- a bit tells that a domain is allowed
abbrev pub Sure : ℕ → ℕ → Rights → Aid → Type 0
Sure m n o x = has_bit m n ≡ true → admits o x ≡ true

pub record WantedKept (f g : Bytes) (e : Aid) (l : TwoLists) (x : Wanted) (m : ℕ) (row row' : List ℕ) (r : Bool) : Type 0 where
  pub answer : OfDomains f l.own λ ds. OfPolicy g l.other x.policy λ o. Sure m x.number (meant e o) (get_or ds x.index []) →
      r ≡ admits (meant e o) (get_or ds x.index [])
  pub known : (w : ℕ → ℕ) → (OfDomains f l.own λ ds. TellsOf w g e l (get_or ds x.index []) x.number) → Known w row → Known w row'

pub record LoadingKept (g : Bytes) (e d : Aid) (l : TwoLists) (x : Asked) (m : ℕ) (row row' : List ℕ) (r : Bool) : Type 0 where
  pub answer : OfPolicy g l.other x.called λ o. Sure m x.loading (meant e o) d → r ≡ admits (meant e o) d
  pub known : (w : ℕ → ℕ) → TellsOf w g e l d x.loading → Known w row → Known w row'

-- the row x was part of what w tells of both lists: the row y still is, and q holds
pub record Both (f : Bytes) (d : Aid) (g : Bytes) (e : Aid) (l : TwoLists) (x y : List ℕ) (q : Type 0) : Type 0 where
  pub known : (w : ℕ → ℕ) → Tells w f d g e l → Tells w f d f d (own_lists l.own) → Known w x → Known w y
  pub holds : (w : ℕ → ℕ) → Tells w f d g e l → Tells w f d f d (own_lists l.own) → Known w x → q

abbrev pub BitsSure : Bytes → Aid → Bytes → Aid → TwoLists → ℕ → ℕ → Type 0
BitsSure f d g e l i m = OfPolicy g l.other i λ o. OfDomains f l.own λ ds. (z : Aid) → Memᴰ z (ds ++ d ∷ []) →
    Sure m (number_in (ds ++ d ∷ []) z) (meant e o) z

-- where the policy called allows the loading domain
abbrev pub AllKept : Bytes → Aid → Bytes → Aid → TwoLists → Listing → List ℕ → List ℕ → Bool → Type 0
AllKept f d g e l p x y r = Both f d g e l x y (BitsSure f d g e l p.called p.bits →
    OfPolicy g l.other p.called λ q. OfPolicy f l.own p.caller λ o. admits (meant e q) d ≡ true → r ≡ admits_all_of (meant e q) (meant d o))

abbrev pub CoversKept : Bytes → Aid → Bytes → Aid → TwoLists → Asked → List ℕ → List ℕ → Bool → Type 0
CoversKept f d g e l p x y r = Both f d g e l x y (OfPolicy g l.other p.called λ q. OfPolicy f l.own p.caller λ o.
    r ≡ (admits (meant e q) d && admits_all_of (meant e q) (meant d o)))
