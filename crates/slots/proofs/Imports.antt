-- The home of an import, written in a slot: what the slots tell stays true. Assumes nothing.
use Rattle.std.specs.Prelude.{Some}
use Prim.Native.Nat.{ℕ, suc, ◌+◌, ◌*◌, ◌≤◌, ◌<◌}
use native.Mathlib.Omega.{arith}
use native.Mathlib.Decide.{dec_le}
use mathlib.Core.Path.{◌≡◌, sym, ◌∙◌, ap, subst}
use mathlib.Core.List.{List}
use mathlib.Core.Logic.{◌⊎◌, inl, inr}
use lib.ListN.{get_or}
use Rattle.rules.specs.Bytes.{Bytes}
use Rattle.rules.proofs.Lists.{same_or_not}
use Rattle.homes.specs.Homes.{file_of, NumberedIs}
use Rattle.homes.specs.declared.Home.{Home}
use Rattle.named.specs.Named.{ClassFrom}
use Rattle.slots.specs.Slots.{slot_count, slot_length, home_in, with_home, slot_home, import_home, SlotsTrue, SlotSame}
use Rattle.slots.proofs.Slots.{home_is, home_length, home_other, home_written, apart, slots_but}

-- the home of an import was written
module _ (f s : Bytes) (t : List ℕ) (k p : ℕ) (b : k < slot_count) (small : suc p ≤ 15) (q : SlotsTrue f s t) (g : Home)
    (n : NumberedIs f s (slot_home t k) (suc p) (Some g)) where
  abbrev kept : List ℕ
  kept = with_home t (slot_length * k + 32 + 3 * suc p) g

  kept_other : (j : ℕ) → (j < slot_length * k + 32 + 3 * suc p) ⊎ (slot_length * k + 35 + 3 * suc p ≤ j) → get_or kept j 0 ≡ get_or t j 0
  kept_other j (inl w) = home_other t (slot_length * k + 32 + 3 * suc p) g j (λ x. omega arith) (λ x. omega arith) (λ x. omega arith)
  kept_other j (inr w) = home_other t (slot_length * k + 32 + 3 * suc p) g j (λ x. omega arith) (λ x. omega arith) (λ x. omega arith)

  kept_same : (i : ℕ) → (i + 3 ≤ slot_length * k + 32 + 3 * suc p) ⊎ (slot_length * k + 35 + 3 * suc p ≤ i) → home_in kept i ≡ home_in t i
  kept_same i (inl w) = home_is (home_in kept i) (home_in t i) (kept_other i (inl (omega arith))) (kept_other (i + 1) (inl (omega arith)))
      (kept_other (i + 2) (inl (omega arith)))
  kept_same i (inr w) = home_is (home_in kept i) (home_in t i) (kept_other i (inr (omega arith))) (kept_other (i + 1) (inr (omega arith)))
      (kept_other (i + 2) (inr (omega arith)))

  pub same_slot : slot_home kept k ≡ slot_home t k
  same_slot = kept_same (slot_length * k + 32) (inl (omega arith))

  side : (r : ℕ) → (r ≡ p → ⊥) → (slot_length * k + 32 + 3 * suc r + 3 ≤ slot_length * k + 32 + 3 * suc p) ⊎
      (slot_length * k + 35 + 3 * suc p ≤ slot_length * k + 32 + 3 * suc r)
  side r n = elim (dec_le (r + 1) p) [
    | yes v ↦ inl (omega arith)
    | no v ↦ elim (dec_le (p + 1) r) [
      | yes u ↦ inr (omega arith)
      | no u ↦ absurd (n (omega arith))
    ]
  ]

  pub import_kept : SlotsTrue f s kept
  import_kept = slots_but f s t kept k (home_length t (slot_length * k + 32 + 3 * suc p) g) (λ j m. others j (apart j k m)) q (record {
    places = record {
      room = omega (arith, home_length t (slot_length * k + 32 + 3 * suc p) g, (q.slot k b).places.room);
      told = λ c l m.
          let w : get_or kept (slot_length * k + c) 0 ≡ get_or t (slot_length * k + c) 0 = kept_other (slot_length * k + c) (inl (omega arith)) in
          subst (λ (h : Home). ClassFrom (file_of f s h) c (get_or kept (slot_length * k + c) 0)) (sym same_slot)
          (subst (λ (i : ℕ). ClassFrom (file_of f s (slot_home t k)) c i) (sym w) ((q.slot k b).places.told c l (omega (arith, w))));
    };
    imports = λ r l m. subst (λ (h : Home). NumberedIs f s h (suc r) (Some (import_home kept k (suc r)))) (sym same_slot) (which r l m (same_or_not r p));
  })
    where
      others : (j : ℕ) → (slot_length * j + slot_length ≤ slot_length * k) ⊎ (slot_length * k + slot_length ≤ slot_length * j) → SlotSame t kept j
      others j (inl w) i x y = kept_other i (inl (omega arith))
      others j (inr w) i x y = kept_other i (inr (omega arith))

      which : (r : ℕ) → suc r ≤ 15 → ((import_home kept k (suc r)).to ≡ 0 → ⊥) → (r ≡ p) ⊎ (r ≡ p → ⊥) → NumberedIs f s (slot_home t k) (suc r)
          (Some (import_home kept k (suc r)))
      which r l m (inl w) =
          let a : import_home kept k (suc p) ≡ g = home_written t (slot_length * k + 32 + 3 * suc p) g (omega (arith, q.size)) in
          subst (λ (i : ℕ). NumberedIs f s (slot_home t k) (suc i) (Some (import_home kept k (suc i)))) (sym w)
          (subst (λ (h : Home). NumberedIs f s (slot_home t k) (suc p) (Some h)) (sym a) n)
      which r l m (inr w) =
          let a : import_home kept k (suc r) ≡ import_home t k (suc r) = kept_same (slot_length * k + 32 + 3 * suc r) (side r w) in
          subst (λ (h : Home). NumberedIs f s (slot_home t k) (suc r) (Some h)) (sym a) ((q.slot k b).imports r l (λ v. m (ap (λ (h : Home). h.to) a ∙ v)))
