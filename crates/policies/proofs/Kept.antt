-- Rows of numbers: a number looked up and kept. Assumes nothing.
use Prim.Native.Nat.{ℕ, ◌+◌, ◌<◌}
use native.Mathlib.Omega.{arith}
use native.Mathlib.Decide.{ℕ_discrete}
use mathlib.Core.Path.{◌≡◌, sym, ◌∙◌, ap}
use mathlib.Core.List.{List, [], ◌∷◌, ◌++◌}
use lib.ListN.{length, get_or, set, length-append, length-set}
use lib.Seq.{get_or-set_same, get_or-set_other}
use Rattle.rules.specs.Bytes.{Bytes, Aid}
use Rattle.policies.specs.Say.{slot_aid, HasSlot, SlotIs}
use Rattle.policies.specs.Numbers.{number_in, DomainsThere, NumberIs}
use Rattle.policies.specs.Rows.{HasPlaces, unknown, Known, SlotNumber, Tells, NumberKept}
use Rattle.policies.specs.declared.TwoLists.{TwoLists}
use Rattle.policies.proofs.Slots.{slot_most}
use Rattle.policies.proofs.Numbers.{number_most, domains_length}

-- the number of what a slot stands for
pub slot_number : (f : Bytes) (d : Aid) {g : Bytes} (e : Aid) (l : TwoLists) (k : ℕ) {x : Aid} {n : ℕ} → SlotIs g l.other e k x → NumberIs f l.own d x n →
    SlotNumber f d g e l k n
slot_number f d e l k z n ds j rd gs i rg m = n ds j rd ∙ ap (number_in (ds ++ d ∷ [])) (z gs i rg m)

-- each slot has an entry
pub has_place : {g : Bytes} (l : TwoLists) {k : ℕ} (row : List ℕ) → HasSlot g l.other k → HasPlaces row l → l.base + k < length row
has_place l {k} row h p = omega (arith, slot_most h.0 k h.3)

-- an entry more is known
pub known_set : (w : ℕ → ℕ) (row : List ℕ) (i r : ℕ) → i < length row → r ≡ w i → Known w row → Known w (set row i r)
known_set w row i r p e k m q u = elim (ℕ_discrete m i) [
  | yes s ↦ rw s (get_or-set_same row i r 0 p ∙ e)
  | no s ↦
      let o = get_or-set_other row i m r 0 s in
      o ∙ k m (simp length-set at q) (λ z. u (o ∙ z))
]

-- its number, from the row or put there
module _ (f : Bytes) (d : Aid) (g : Bytes) (e : Aid) (l : TwoLists) (i : ℕ) (row : List ℕ) (p : l.base + i < length row) (r : ℕ) where
  pub number_known : (r ≡ unknown → ⊥) → r ≡ get_or row (l.base + i) 0 → NumberKept f d g e l i row row r
  number_known n z = record { known = λ w t k. k; holds = λ w t k. z ∙ k (l.base + i) p (λ q. n (z ∙ q)) }

  pub number_put : DomainsThere f l.own → HasSlot g l.other i → SlotNumber f d g e l i r → NumberKept f d g e l i row (set row (l.base + i) r) r
  number_put a h n = record { known = λ w t k. known_set w row (l.base + i) r p (told w t) k; holds = λ w t k. told w t }
    where
      told : (w : ℕ → ℕ) → Tells w f d g e l → r ≡ w (l.base + i)
      told w t = n a.0 a.1 a.2 h.0 h.1 h.2 h.3 ∙ sym (t.number i a.0 a.1 a.2 h.0 h.1 h.2 h.3)

-- each number is below 64
pub told_small : {f : Bytes} {d : Aid} {g : Bytes} {e : Aid} {l : TwoLists} (i : ℕ) → DomainsThere f l.own → HasSlot g l.other i → (w : ℕ → ℕ) →
    Tells w f d g e l → w (l.base + i) < 64
told_small {d = d} {e = e} i a h w t =
    let n = t.number i a.0 a.1 a.2 h.0 h.1 h.2 h.3 in
    let m = number_most (a.0 ++ d ∷ []) (slot_aid h.0 e i) in
    omega (arith, n, m, length-append a.0 (d ∷ []), domains_length a.0 a.1 a.2)
