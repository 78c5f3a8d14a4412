-- What the functions over policies require and ensure. Assumes nothing.
--
-- s, d, e, i          == a file, the place of its list of domains, the domain that its package lies in, the place of a policy
-- own_slot, slot_of i   == the slot of FE, behind those of 32 domains; the slot of index i
-- slot_aid ds e k      == the AID that slot k stands for; IsSlot ds k == it stands for one
-- indexes_at s i       == the indexes of the policy at place i of s
-- PolicyOver s d i    == a list of domains stands at d, a policy over it at i
-- OfPolicy s d i q    == q holds of whatever policy over whatever domains stands there
-- HasSlot, SlotIs     == slot k of the list at d stands for an AID; x is that AID
-- Admits, AdmitsAllOf == the answer is that of `admits`, `admits_all_of`
use Rattle.std.specs.Prelude.{ℕ, ◌+◌, ◌≤◌, ◌<◌, ◌≡◌, List, [], Bool, ◌&&◌, ◌⊎◌, eqb, length, take, drop, get_or}
use Rattle.rules.specs.Bytes.{Bytes, Aid, pick, any, same, u1, aid, counted}
use Rattle.rules.specs.Package.{most_domains, own_index, Policy, policy}
use Rattle.rules.specs.Classes.{meant, admits, admits_all_of}
use Rattle.places.specs.Reads.{Reads, Ends}

-- FE behind the domains
abbrev pub own_slot : ℕ
own_slot = most_domains

abbrev pub slot_of : ℕ → ℕ
slot_of i = pick (eqb i own_index) own_slot i

-- a domain of the list, or the entry's own
abbrev pub slot_aid : List Aid → Aid → ℕ → Aid
slot_aid ds e k = pick (eqb k own_slot) e (get_or ds k [])

abbrev pub IsSlot : List Aid → ℕ → Type 0
IsSlot ds k = (k ≡ own_slot) ⊎ ((k < own_slot) × (k < length ds))

-- the bytes behind the count
abbrev pub indexes_at : Bytes → ℕ → List ℕ
indexes_at s i = take (get_or s i 0) (drop (i + 1) s)

-- so many bytes stand behind the count
abbrev pub IndexesThere : Bytes → ℕ → Type 0
IndexesThere s i = i + 1 + get_or s i 0 ≤ length s

abbrev pub ListsIs : Bytes → ℕ → ℕ → Bool → Type 0
ListsIs s i k r = r ≡ any (eqb k) (indexes_at s i)

-- the AID at c is x, and k is one of the indexes of the policy at i
abbrev pub ListedIs : Bytes → ℕ → Aid → ℕ → ℕ → Bool → Type 0
ListedIs s c x i k r = (a : Aid) (j : ℕ) → Reads aid s c a j → r ≡ (same x a && any (eqb k) (indexes_at s i))

-- a list of domains and a policy over it
abbrev pub PolicyOver : Bytes → ℕ → ℕ → Type 0
PolicyOver s d i = (ds : List Aid) × (j : ℕ) × Reads (counted most_domains u1 aid) s d ds j × Ends (policy ds) s i

abbrev pub OfPolicy : Bytes → ℕ → ℕ → (Policy → Type 0) → Type 0
OfPolicy s d i q = (ds : List Aid) (j : ℕ) → Reads (counted most_domains u1 aid) s d ds j → (p : Policy) (k : ℕ) → Reads (policy ds) s i p k → q p

-- the policy at i allows x, in a file of domain e
abbrev pub Admits : Bytes → ℕ → Aid → ℕ → Aid → Bool → Type 0
Admits s d e i x r = OfPolicy s d i λ p. r ≡ admits (meant e p) x

-- a list of domains in which slot k stands for an AID
abbrev pub HasSlot : Bytes → ℕ → ℕ → Type 0
HasSlot s d k = (ds : List Aid) × (j : ℕ) × Reads (counted most_domains u1 aid) s d ds j × IsSlot ds k

-- x is what slot k of the list at d stands for, in a file of domain e
abbrev pub SlotIs : Bytes → ℕ → Aid → ℕ → Aid → Type 0
SlotIs s d e k x = (ds : List Aid) (j : ℕ) → Reads (counted most_domains u1 aid) s d ds j → IsSlot ds k → x ≡ slot_aid ds e k

-- the policy at i allows all that the one at v allows, in a file of domain h
abbrev pub AdmitsAllOf : Bytes → ℕ → Aid → ℕ → Bytes → ℕ → Aid → ℕ → Bool → Type 0
AdmitsAllOf s d e i t u h v r = OfPolicy s d i λ p. OfPolicy t u v λ o. r ≡ admits_all_of (meant e p) (meant h o)
