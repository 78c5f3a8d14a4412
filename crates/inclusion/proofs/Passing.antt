-- The loop that tests the numbers of the slots that a policy lists. Assumes nothing.
use Prim.Native.Nat.{ℕ, ◌+◌, ◌≤◌, ◌<◌}
use mathlib.Core.Path.{◌≡◌, refl, sym, ◌∙◌, ap}
use mathlib.Core.Bool.{Bool, true, false}
use mathlib.Core.List.{List}
use lib.ListN.{length, drop, get_or}
use Rattle.rules.specs.Bytes.{Bytes, Aid, all}
use Rattle.policies.specs.Say.{slot_of, indexes_at}
use Rattle.policies.specs.Rows.{has_bit, Known, Tells, Kept, NumberKept}
use Rattle.policies.specs.declared.RightsPlace.{RightsPlace}
use Rattle.policies.proofs.Indexes.{all_fails, all_passes, all_end}
use Rattle.inclusion.specs.declared.Masked.{Masked}
use Rattle.inclusion.specs.Rows.{other_lists, WithinKept}

-- the number that w tells of the slot of index k is a bit
abbrev pub is_bit : Masked → (ℕ → ℕ) → ℕ → Bool
is_bit m w k = has_bit m.bits (w (0 + slot_of k))

-- the numbers passed are bits; the indexes from number k on are still to be asked
abbrev pub WithinLoop : Bytes → Aid → Masked → Bytes → Aid → RightsPlace → List ℕ → List ℕ → ℕ → Type 0
WithinLoop f d m g e q x y k =
    Kept f d g e (other_lists m.domains q.domains) x y λ w. all (is_bit m w) (indexes_at g q.policy) ≡ all (is_bit m w) (drop k (indexes_at g q.policy))

module _ (f : Bytes) (d : Aid) (m : Masked) (g : Bytes) (e : Aid) (q : RightsPlace) (x : List ℕ) where
  pub within_start : WithinLoop f d m g e q x x 0
  within_start = record { known = λ w t k. k; holds = λ w t k. refl }

  module _ (y : List ℕ) (k : ℕ) (s : WithinLoop f d m g e q x y k) where
    module _ (z : List ℕ) (r : ℕ) (h : k < length (indexes_at g q.policy))
        (o : NumberKept f d g e (other_lists m.domains q.domains) (slot_of (get_or (indexes_at g q.policy) k 0)) y z r) where
      -- the bit of the number at hand
      bit : (w : ℕ → ℕ) → Tells w f d g e (other_lists m.domains q.domains) → Known w x → is_bit m w (get_or (indexes_at g q.policy) k 0) ≡ has_bit m.bits r
      bit w t i = ap (has_bit m.bits) (sym (o.holds w t (s.known w t i)))

      pub within_fails : has_bit m.bits r ≡ false → WithinKept f d m g e q x z false
      within_fails b = record {
        known = λ w t i. o.known w t (s.known w t i);
        holds = λ w t i. sym (s.holds w t i ∙ all_fails (indexes_at g q.policy) (is_bit m w) k h (bit w t i ∙ b));
      }

      pub within_more : has_bit m.bits r ≡ true → WithinLoop f d m g e q x z (k + 1)
      within_more b = record {
        known = λ w t i. o.known w t (s.known w t i);
        holds = λ w t i. s.holds w t i ∙ all_passes (indexes_at g q.policy) (is_bit m w) k h (bit w t i ∙ b);
      }

    pub within_done : length (indexes_at g q.policy) ≤ k → WithinKept f d m g e q x y true
    within_done h = record { known = s.known; holds = λ w t i. sym (s.holds w t i ∙ all_end (indexes_at g q.policy) (is_bit m w) k h) }
