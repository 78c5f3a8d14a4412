-- Bits that tell what a policy allows: from what a row knows, and with one number more. Assumes nothing.
use Prim.Native.Nat.{ℕ, ◌+◌, ◌%◌, ◌≤◌, ◌<◌}
use native.Mathlib.Omega.{arith}
use native.Mathlib.Decide.{ℕ_discrete}
use mathlib.Core.Path.{◌≡◌, refl, sym, ◌∙◌, ap}
use mathlib.Core.Bool.{Bool, true, false, ◌||◌}
use mathlib.Core.List.{List, [], ◌∷◌, ◌++◌, Memᴰ, map}
use lib.Dec.{eqb}
use lib.ListN.{length, get_or, length-append}
use borrow.Author.Tests.{eq-eqb, eqb-true}
use Rattle.rules.specs.Bytes.{Bytes, Aid, any, same, u1, aid, counted}
use Rattle.rules.specs.Package.{most_domains}
use Rattle.rules.specs.Classes.{Rights, item_means, admits}
use Rattle.rules.proofs.Tests.{of_true, same_eq}
use Rattle.places.specs.Reads.{Reads}
use Rattle.policies.specs.Say.{slot_of, slot_aid, IsSlot, indexes_at}
use Rattle.policies.specs.Numbers.{number_in}
use Rattle.policies.specs.Rows.{has_bit, with_bit, HasPlaces, unknown, Known, Tells}
use Rattle.policies.specs.declared.TwoLists.{TwoLists}
use Rattle.policies.proofs.Slots.{slot_most}
use Rattle.policies.proofs.Numbers.{numbers_same, number_in_lem, number_most, domains_length}
use Rattle.policies.proofs.Rules.{only_list}
use Rattle.policies.proofs.Compared.{reads_slotted, any_through}
use Rattle.policies.proofs.Masks.{bit_more}
use Rattle.coverage.specs.Covers.{entry_bit, KnownBits, Sure, BitsSure}

-- the list that numbers are of is short
pub numbers_few : {f : Bytes} {u : ℕ} (d : Aid) (ds : List Aid) (i : ℕ) → Reads (counted most_domains u1 aid) f u ds i → length (ds ++ d ∷ []) ≤ 33
numbers_few d ds i rd = omega (arith, length-append ds (d ∷ []), domains_length ds i rd)

-- an entry that is a number of the list is known
entry_known : (w : ℕ → ℕ) (row : List ℕ) (k n : ℕ) → Known w row → k < length row → w k < 64 → n < 63 → get_or row k 0 % 64 ≡ n → w k ≡ n
entry_known w row k n h p s q e = elim (ℕ_discrete (get_or row k 0) unknown) [
  | yes u ↦ absurd (omega (arith, u))
  | no u ↦ let v = h k p u in omega arith
]

-- the bits that the row knows
pub bits_known : {f : Bytes} {d : Aid} {g : Bytes} (e : Aid) {l : TwoLists} (w : ℕ → ℕ) (i : ℕ) (row : List ℕ) (m : ℕ) → Tells w f d g e l →
    Known w row → HasPlaces row l → (get_or g i 0 ≡ 255 → ⊥) → KnownBits g l i row m → BitsSure f d g e l i m
bits_known {f} {d} {g} e {l} w i row m t k p nc b gs j rg o c ro ds h rd z u s =
    let a = only_list gs g i o c ro nc in
    let xs = ds ++ d ∷ [] in
    let few = numbers_few d ds h rd in
    let n = number_in_lem xs z u in
    let found : any (λ k. eqb (entry_bit l row (slot_of k)) (number_in xs z)) (indexes_at g i) ≡ true = sym (b (number_in xs z) (omega arith)) ∙ s in
    let r =
    any_through gs e (λ k. eqb (entry_bit l row k) (number_in xs z)) (same z) (each few n) (indexes_at g i) (map (item_means e) a.listed)
    (reads_slotted gs e g (get_or g i 0) (i + 1) a.listed c (domains_length gs j rg) a.list) found
    in
    rw (← a.is) r
  where
    each : length (ds ++ d ∷ []) ≤ 33 → number_in (ds ++ d ∷ []) z < length (ds ++ d ∷ []) → (v : ℕ) → IsSlot gs v →
        eqb (entry_bit l row v) (number_in (ds ++ d ∷ []) z) ≡ true → same z (slot_aid gs e v) ≡ true
    each few n v q found =
        let told = t.number v ds h rd gs j rg q in
        let most = number_most (ds ++ d ∷ []) (slot_aid gs e v) in
        let room = slot_most gs v q in
        let y = entry_known w row (l.base + v) (number_in (ds ++ d ∷ []) z) k (omega arith) (omega arith) (omega arith) (eqb-true _ _ found) in
        sym (numbers_same (ds ++ d ∷ []) z (slot_aid gs e v) u) ∙ eq-eqb _ _ (sym told ∙ y)

-- the number of a domain that is allowed, more
pub sure_more : (xs : List Aid) (m n : ℕ) (z : Aid) (o : Rights) → length xs ≤ 33 → Memᴰ z xs → n ≡ number_in xs z → admits o z ≡ true →
    (y : Aid) → Memᴰ y xs → Sure m (number_in xs y) o y → Sure (with_bit m n) (number_in xs y) o y
sure_more xs m n z o few u e a y v s h =
    let p = number_in_lem xs z u in
    let q = number_in_lem xs y v in
    let r : (eqb n (number_in xs y) || has_bit m (number_in xs y)) ≡ true = sym (bit_more m n (number_in xs y) (omega arith) (omega arith)) ∙ h in
    go (eqb n (number_in xs y)) refl r
  where
    go : (b : Bool) → eqb n (number_in xs y) ≡ b → (b || has_bit m (number_in xs y)) ≡ true → admits o y ≡ true
    go true c r =
        let t : same y z ≡ true = sym (numbers_same xs y z v) ∙ eq-eqb _ _ (sym e ∙ eqb-true _ _ c) in
        ap (admits o) (same_eq y z (of_true t)) ∙ a
    go false c r = s r
