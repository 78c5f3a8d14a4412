-- Domains by number. Assumes nothing.
--
-- number_in L a            == the number of the first element of L that is the same as a, length L where there is none
-- DomainsThere f u        == a list of domains stands at place u of f
-- OfDomains f u q         == q holds of whatever list of domains stands there
-- any_from p i xs          == p holds of an element of xs and its number, counted from i
-- listed_from s i x k ds   == of the domains ds, counted from k, one is x and its number an index of the policy at i
-- DomainNumber s d i x r  == domain r of the list at d is x, and the policy at i lists it by its index
-- ListedDomain s d i x r  == r is such a number, or there is none
-- SlotFor s d e i x r     == slot r of the list at d stands for x in a file of domain e, and the policy at i allows x
-- ListedSlot s d e i x r  == r is such a slot, or the policy does not allow x
-- NumberIs f u d x r      == r is the number of x in the domains of f at u, with d behind them
use Rattle.std.specs.Prelude.{ℕ, suc, ◌<◌, ◌≡◌, Bool, true, false, ◌&&◌, ◌||◌, List, [], ◌∷◌, ◌++◌, eqb, length, get_or, Some, None}
use Rattle.std.specs.Prelude.{Option as Optional}
use Rattle.rules.specs.Bytes.{Bytes, Aid, pick, any, same, u1, aid, counted}
use Rattle.rules.specs.Package.{most_domains}
use Rattle.places.specs.Reads.{Reads, Ends}
use Rattle.policies.specs.Say.{slot_aid, IsSlot, indexes_at, Admits}

-- the number of the first that is the same, the length where there is none
abbrev pub number_in : List Aid → Aid → ℕ
number_in [] a = 0
number_in (x ∷ xs) a = pick (same a x) 0 (suc (number_in xs a))

abbrev pub DomainsThere : Bytes → ℕ → Type 0
DomainsThere f u = Ends (counted most_domains u1 aid) f u

abbrev pub OfDomains : Bytes → ℕ → (List Aid → Type 0) → Type 0
OfDomains f u q = (ds : List Aid) (j : ℕ) → Reads (counted most_domains u1 aid) f u ds j → q ds

abbrev pub NumberIs : Bytes → ℕ → Aid → Aid → ℕ → Type 0
NumberIs f u d x r = OfDomains f u λ ds. r ≡ number_in (ds ++ d ∷ []) x

-- the test holds of an element and its number, counted from i
abbrev pub any_from : {A : Type 0} → (ℕ → A → Bool) → ℕ → List A → Bool
any_from p i [] = false
any_from p i (x ∷ xs) = p i x || any_from p (suc i) xs

-- the domain d with number k is x, and k an index of the policy at i
abbrev pub listed_as : Bytes → ℕ → Aid → ℕ → Aid → Bool
listed_as s i x k d = same x d && any (eqb k) (indexes_at s i)

abbrev pub listed_from : Bytes → ℕ → Aid → ℕ → List Aid → Bool
listed_from s i x k ds = any_from (listed_as s i x) k ds

pub record DomainNumber (s : Bytes) (d i : ℕ) (x : Aid) (r : ℕ) : Type 0 where
  pub there : OfDomains s d λ ds. (r < length ds) × (get_or ds r [] ≡ x)
  pub listed : OfDomains s d λ ds. listed_from s i x 0 ds ≡ true

abbrev pub ListedDomain : Bytes → ℕ → ℕ → Aid → Optional ℕ → Type 0
ListedDomain s d i x (Some r) = DomainNumber s d i x r
ListedDomain s d i x None = OfDomains s d λ ds. listed_from s i x 0 ds ≡ false

pub record SlotFor (s : Bytes) (d : ℕ) (e : Aid) (i : ℕ) (x : Aid) (r : ℕ) : Type 0 where
  pub there : OfDomains s d λ ds. IsSlot ds r × (slot_aid ds e r ≡ x)
  pub allowed : Admits s d e i x true

abbrev pub ListedSlot : Bytes → ℕ → Aid → ℕ → Aid → Optional ℕ → Type 0
ListedSlot s d e i x (Some r) = SlotFor s d e i x r
ListedSlot s d e i x None = Admits s d e i x false
