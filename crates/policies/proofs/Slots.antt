-- The slot of an index stands for the AID that the index means. Assumes nothing.
use Prim.Native.Nat.{ℕ, ◌≤◌, ◌<◌}
use native.Mathlib.Omega.{arith}
use mathlib.Core.Path.{◌≡◌}
use mathlib.Core.List.{List, []}
use mathlib.Core.Logic.{inl, inr}
use lib.ListN.{length, get_or}
use borrow.Author.Tests.{eq-eqb, ne_eqb}
use Rattle.rules.specs.Bytes.{Aid}
use Rattle.rules.specs.Package.{most_domains, own_index}
use Rattle.rules.specs.Classes.{item_means}
use Rattle.places.specs.Parts.{item_at, IsIndex}
use Rattle.policies.specs.Say.{own_slot, slot_of, slot_aid, IsSlot}

pub slot_own : (i : ℕ) → i ≡ own_index → slot_of i ≡ own_slot
slot_own i h = rw (eq-eqb i own_index h)

pub slot_domain : (i : ℕ) → (i ≡ own_index → ⊥) → slot_of i ≡ i
slot_domain i h = rw (ne_eqb i own_index h)

pub aid_own : (ds : List Aid) (e : Aid) (k : ℕ) → k ≡ own_slot → slot_aid ds e k ≡ e
aid_own ds e k h = rw (eq-eqb k own_slot h)

pub aid_domain : (ds : List Aid) (e : Aid) (k : ℕ) → k < own_slot → slot_aid ds e k ≡ get_or ds k []
aid_domain ds e k h = rw (ne_eqb k own_slot (λ z. omega arith))

-- a slot that is not that of FE is a domain's
pub slot_below : (ds : List Aid) (k : ℕ) → IsSlot ds k → (k ≡ own_slot → ⊥) → (k < own_slot) × (k < length ds)
slot_below ds k h n = elim h [ inl z ↦ absurd (n z) | inr z ↦ z ]

-- no slot is behind that of FE
pub slot_most : (ds : List Aid) (k : ℕ) → IsSlot ds k → k ≤ own_slot
slot_most ds k h = elim h [ inl z ↦ omega arith | inr z ↦ omega (arith, z.0) ]

module _ (ds : List Aid) (few : length ds ≤ most_domains) (i : ℕ) (h : IsIndex ds i) where
  pub index_slot : IsSlot ds (slot_of i)
  index_slot = elim h [ inl z ↦ inl (slot_own i z) | inr z ↦ rw (slot_domain i z.0) (inr (omega (arith, z.1), z.1)) ]

  pub index_means : (e : Aid) → item_means e (item_at ds i) ≡ slot_aid ds e (slot_of i)
  index_means e = elim h [
    | inl z ↦ rw (eq-eqb i own_index z)
    | inr z ↦
        let below : i < own_slot = omega (arith, z.1) in
        rw (ne_eqb i own_index z.0, ne_eqb i own_slot (λ q. omega arith))
  ]
