-- Tests of the slots that a policy lists, which answer as tests of the AIDs that they stand for. Assumes nothing.
use Prim.Native.Nat.{ℕ, zero, suc, ◌-◌, ◌≤◌, ◌<◌}
use native.Mathlib.Omega.{arith}
use mathlib.Core.Path.{◌≡◌, refl, sym, ◌∙◌, ap, ap₂}
use mathlib.Core.Bool.{Bool, true, false, ◌&&◌, ◌||◌, or-true}
use mathlib.Core.List.{List, [], ◌∷◌, map}
use lib.ListN.{length, take, drop, get_or}
use Rattle.rules.specs.Bytes.{Bytes, Aid, any, all, many}
use Rattle.rules.specs.Package.{most_domains, Item, item}
use Rattle.rules.specs.Classes.{item_means}
use Rattle.rules.proofs.Tests.{and_l, and_r, is_true, of_true}
use Rattle.places.specs.Reads.{Reads}
use Rattle.places.proofs.Inverse.{reads_left, reads_done}
use Rattle.places.proofs.Steady.{steady_item}
use Rattle.places.proofs.Parts.{item_part}
use Rattle.policies.specs.Say.{slot_of, slot_aid, IsSlot}
use Rattle.policies.proofs.Slots.{index_slot, index_means}
use Rattle.policies.proofs.Indexes.{take_more}

-- the AIDs that the slots of the indexes stand for, in a file of domain e
abbrev pub Slotted : List Aid → Aid → List ℕ → List Aid → Type 0
Slotted ds e [] [] = Unit
Slotted ds e [] (a ∷ xs) = ⊥
Slotted ds e (k ∷ ks) [] = ⊥
Slotted ds e (k ∷ ks) (a ∷ xs) = IsSlot ds (slot_of k) × (slot_aid ds e (slot_of k) ≡ a) × Slotted ds e ks xs

pub reads_slotted : (ds : List Aid) (e : Aid) (s : Bytes) (n i : ℕ) (xs : List Item) (j : ℕ) → length ds ≤ most_domains →
    Reads (many n (item ds)) s i xs j → Slotted ds e (take n (drop i s)) (map (item_means e) xs)
reads_slotted ds e s zero i xs j few p = let z = reads_done (item ds) 0 s i xs j (omega arith) p in rw z.0 tt
reads_slotted ds e s (suc n) i xs j few p =
    let z = reads_left (item ds) (steady_item ds) (suc n) s i xs j (omega arith) p in
    let t = item_part ds s i z.one z.place z.reads in
    let c : suc n - 1 ≡ n = omega arith in
    let h = reads_slotted ds e s n z.place z.others j few (rw c at z.rest) in
    let w : take (suc n) (drop i s) ≡ get_or s i 0 ∷ take n (drop z.place s) = take_more s i (suc n) (omega arith) t.inside ∙ rw (c, t.next) in
    let means : slot_aid ds e (slot_of (get_or s i 0)) ≡ item_means e z.one =
    sym (index_means ds few (get_or s i 0) t.index e) ∙ ap (item_means e) t.stands in
    rw (← z.are, w) (index_slot ds few (get_or s i 0) t.index, means, h)

-- each index has a slot
pub slotted_at : (ds : List Aid) (e : Aid) (ks : List ℕ) (xs : List Aid) → Slotted ds e ks xs → (k : ℕ) → k < length ks → IsSlot ds (slot_of (get_or ks k 0))
slotted_at ds e [] xs h k l = absurd (omega arith)
slotted_at ds e (n ∷ ks) [] h k l = absurd h
slotted_at ds e (n ∷ ks) (a ∷ xs) h zero l = h.0
slotted_at ds e (n ∷ ks) (a ∷ xs) h (suc k) l = slotted_at ds e ks xs h.2 k (omega arith)

-- a test of slots that answers as a test of the AIDs
module _ (ds : List Aid) (e : Aid) (p : ℕ → Bool) (q : Aid → Bool) (h : (k : ℕ) → IsSlot ds k → p k ≡ q (slot_aid ds e k)) where
  pub all_by_slot : (ks : List ℕ) (xs : List Aid) → Slotted ds e ks xs → all (λ k. p (slot_of k)) ks ≡ all q xs
  all_by_slot [] [] x = refl
  all_by_slot [] (a ∷ xs) x = absurd x
  all_by_slot (k ∷ ks) [] x = absurd x
  all_by_slot (k ∷ ks) (a ∷ xs) x = ap₂ ◌&&◌ (h (slot_of k) x.0 ∙ ap q x.1) (all_by_slot ks xs x.2)

module _ (ds : List Aid) (e : Aid) (p : ℕ → Bool) (q : Aid → Bool) (h : (k : ℕ) → IsSlot ds k → p k ≡ true → q (slot_aid ds e k) ≡ true) where
  -- a slot that passes, and its AID
  pub any_through : (ks : List ℕ) (xs : List Aid) → Slotted ds e ks xs → any (λ k. p (slot_of k)) ks ≡ true → any q xs ≡ true
  any_through [] [] x v = v
  any_through [] (a ∷ xs) x v = absurd x
  any_through (k ∷ ks) [] x v = absurd x
  any_through (k ∷ ks) (a ∷ xs) x v = go (p (slot_of k)) refl v (any_through ks xs x.2)
    where
      go : (b : Bool) → p (slot_of k) ≡ b → (b || any (λ k. p (slot_of k)) ks) ≡ true → (any (λ k. p (slot_of k)) ks ≡ true → any q xs ≡ true) →
          (q a || any q xs) ≡ true
      go true u w rec = let s : q a ≡ true = ap q (sym x.1) ∙ h (slot_of k) x.0 u in rw s
      go false u w rec = rw (rec w) (or-true (q a))

  -- every slot passes, and every AID
  pub all_through : (ks : List ℕ) (xs : List Aid) → Slotted ds e ks xs → all (λ k. p (slot_of k)) ks ≡ true → all q xs ≡ true
  all_through [] [] x v = refl
  all_through [] (a ∷ xs) x v = absurd x
  all_through (k ∷ ks) [] x v = absurd x
  all_through (k ∷ ks) (a ∷ xs) x v =
      let s : q a ≡ true = ap q (sym x.1) ∙ h (slot_of k) x.0 (is_true _ (and_l (p (slot_of k)) (all (λ k. p (slot_of k)) ks) (of_true v))) in
      let rest = all_through ks xs x.2 (is_true _ (and_r (p (slot_of k)) (all (λ k. p (slot_of k)) ks) (of_true v))) in
      rw (s, rest)
