-- The row of two files: the numbers of the slots of the one among the domains of the other. Assumes nothing.
--
-- other_lists u v         == the slots of the list at v, numbered among the domains at u
-- WithinKept             == the answer is that each number of a slot that the policy at q lists is a bit of the mask, and the row stays true
-- row_number ds d gs e k  == what entry k of the row tells: the number of slot k of gs, in a file of domain e, among ds with d behind them
-- RowTrue a u d b v e row == each known entry tells the number of its slot of b, listed at v, among the domains of a at u, d behind them
-- RowEmpty row           == no entry is known
use Rattle.std.specs.Prelude.{ℕ, ◌+◌, ◌<◌, ◌≡◌, List, [], ◌∷◌, ◌++◌, Bool, length, get_or}
use Rattle.rules.specs.Bytes.{Bytes, Aid, all}
use Rattle.policies.specs.Say.{slot_of, slot_aid, indexes_at}
use Rattle.policies.specs.Numbers.{number_in, OfDomains}
use Rattle.policies.specs.Rows.{has_bit, row_length, unknown, Known, Kept}
use Rattle.policies.specs.declared.RightsPlace.{RightsPlace}
use Rattle.policies.specs.declared.TwoLists.{TwoLists}
use Rattle.inclusion.specs.declared.Masked.{Masked}

abbrev pub other_lists : ℕ → ℕ → TwoLists
other_lists u v = record { own = u; other = v; base = 0 }

abbrev pub WithinKept : Bytes → Aid → Masked → Bytes → Aid → RightsPlace → List ℕ → List ℕ → Bool → Type 0
WithinKept f d m g e q x y r =
    Kept f d g e (other_lists m.domains q.domains) x y λ w. r ≡ all (λ k. has_bit m.bits (w (0 + slot_of k))) (indexes_at g q.policy)

abbrev pub row_number : List Aid → Aid → List Aid → Aid → ℕ → ℕ
row_number ds d gs e k = number_in (ds ++ d ∷ []) (slot_aid gs e k)

pub record RowTrue (a : Bytes) (u : ℕ) (d : Aid) (b : Bytes) (v : ℕ) (e : Aid) (row : List ℕ) : Type 0 where
  pub size : length row ≡ row_length
  pub known : OfDomains a u λ ds. OfDomains b v λ gs. Known (row_number ds d gs e) row

pub record RowEmpty (row : List ℕ) : Type 0 where
  pub size : length row ≡ row_length
  pub clear : (k : ℕ) → k < row_length → get_or row k 0 ≡ unknown
