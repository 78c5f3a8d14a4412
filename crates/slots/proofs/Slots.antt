-- Slots: what is written in one leaves the others as they are, and what each tells stays true. Assumes nothing.
use Rattle.std.specs.Prelude.{Some}
use Prim.Native.Nat.{ℕ, suc, ◌+◌, ◌*◌, ◌≤◌, ◌<◌}
use native.Mathlib.Omega.{arith}
use native.Mathlib.Decide.{dec_le}
use mathlib.Core.Path.{◌≡◌, sym, ◌∙◌, ap, subst}
use mathlib.Core.List.{List}
use mathlib.Core.Logic.{◌⊎◌, inl, inr}
use lib.ListN.{length, get_or, set, length-set}
use lib.Seq.{get_or-set_same, get_or-set_other}
use Rattle.rules.specs.Bytes.{Bytes}
use Rattle.rules.proofs.Lists.{same_or_not}
use Rattle.homes.specs.Homes.{file_of, NumberedIs}
use Rattle.homes.specs.declared.Home.{Home}
use Rattle.named.specs.Named.{ClassFrom, RowTrue, Beside}
use Rattle.slots.specs.Slots.{slot_count, slot_length, slots_length, home_in, with_home, slot_home, import_home, SlotTrue, SlotsTrue, SlotSame, Emptied, SlotFor}

-- a home is its three places
home_of : ℕ → ℕ → ℕ → Home
home_of a b c = record { from = a; to = b; before = c }

pub home_is : (g h : Home) → g.from ≡ h.from → g.to ≡ h.to → g.before ≡ h.before → g ≡ h
unfolding home_of
home_is g h p q r = ap (λ (n : ℕ). home_of n g.to g.before) p ∙ ap (λ (n : ℕ). home_of h.from n g.before) q ∙ ap
    (λ (n : ℕ). home_of h.from h.to n) r

-- a home that was written
module _ (t : List ℕ) (i : ℕ) (h : Home) where
  pub home_length : length (with_home t i h) ≡ length t
  home_length = simp length-set

  pub home_other : (j : ℕ) → (j ≡ i → ⊥) → (j ≡ i + 1 → ⊥) → (j ≡ i + 2 → ⊥) → get_or (with_home t i h) j 0 ≡ get_or t j 0
  home_other j p q r =
      get_or-set_other (set (set t i h.from) (i + 1) h.to) (i + 2) j h.before 0 r ∙ get_or-set_other (set t i h.from) (i + 1) j h.to 0 q ∙
      get_or-set_other t i j h.from 0 p

  pub home_written : i + 2 < length t → home_in (with_home t i h) i ≡ h
  home_written z = home_is (home_in (with_home t i h) i) h
      (get_or-set_other (set (set t i h.from) (i + 1) h.to) (i + 2) i h.before 0 (λ e. omega arith) ∙ get_or-set_other (set t i h.from) (i + 1) i
      h.to 0 (λ e. omega arith) ∙ get_or-set_same t i h.from 0 (omega arith))
      (get_or-set_other (set (set t i h.from) (i + 1) h.to) (i + 2) (i + 1) h.before 0 (λ e. omega arith) ∙ get_or-set_same (set t i h.from)
      (i + 1) h.to 0 (omega (arith, length-set t i h.from)))
      (get_or-set_same (set (set t i h.from) (i + 1) h.to) (i + 2) h.before 0
      (omega (arith, length-set (set t i h.from) (i + 1) h.to, length-set t i h.from)))

-- the same numbers tell the same
module _ (f s : Bytes) (t u : List ℕ) (k : ℕ) (z : length u ≡ length t) where
  -- a home in a part where the tables are the same
  home_same : (i : ℕ) → ((j : ℕ) → i ≤ j → j < i + 3 → get_or u j 0 ≡ get_or t j 0) → home_in u i ≡ home_in t i
  home_same i e = home_is (home_in u i) (home_in t i) (e i (omega arith) (omega arith)) (e (i + 1) (omega arith) (omega arith))
      (e (i + 2) (omega arith) (omega arith))

  -- the imports, where the homes behind the class places are the same
  imports_same : ((i : ℕ) → slot_length * k + 32 ≤ i → i < slot_length * k + slot_length → get_or u i 0 ≡ get_or t i 0) → SlotTrue f s t k →
      (p : ℕ) → suc p ≤ 15 → ((import_home u k (suc p)).to ≡ 0 → ⊥) → NumberedIs f s (slot_home u k) (suc p) (Some (import_home u k (suc p)))
  imports_same e q p small n =
      let a : slot_home u k ≡ slot_home t k = home_same (slot_length * k + 32) (λ j x y. e j (omega arith) (omega arith)) in
      let b : import_home u k (suc p) ≡ import_home t k (suc p) = home_same (slot_length * k + 32 + 3 * suc p) (λ j x y. e j (omega arith) (omega arith)) in
      let c = q.imports p small (λ w. n (ap (λ (h : Home). h.to) b ∙ w)) in
      subst (λ (h : Home). NumberedIs f s h (suc p) (Some (import_home u k (suc p)))) (sym a)
      (subst (λ (h : Home). NumberedIs f s (slot_home t k) (suc p) (Some h)) (sym b) c)

  pub slot_same : SlotSame t u k → SlotTrue f s t k → SlotTrue f s u k
  slot_same e q =
      let a : slot_home u k ≡ slot_home t k = home_same (slot_length * k + 32) (λ j x y. e j (omega arith) (omega arith)) in
      record {
        places = record {
          room = omega (arith, q.places.room);
          told = λ c b n.
              let w : get_or u (slot_length * k + c) 0 ≡ get_or t (slot_length * k + c) 0 = e (slot_length * k + c) (omega arith) (omega arith) in
              subst (λ (h : Home). ClassFrom (file_of f s h) c (get_or u (slot_length * k + c) 0)) (sym a)
              (subst (λ (i : ℕ). ClassFrom (file_of f s (slot_home t k)) c i) (sym w) (q.places.told c b (omega (arith, w))));
        };
        imports = imports_same (λ i x y. e i (omega arith) (omega arith)) q;
      }

  -- a row of class places was filled
  pub row_filled : Beside t u (slot_length * k) → RowTrue (file_of f s (slot_home t k)) u (slot_length * k) → SlotTrue f s t k → SlotTrue f s u k
  row_filled e r q =
      let a : slot_home u k ≡ slot_home t k = home_same (slot_length * k + 32) (λ j x y. e.above j (omega arith)) in
      record {
        places = subst (λ (h : Home). RowTrue (file_of f s h) u (slot_length * k)) (sym a) r;
        imports = imports_same (λ i x y. e.above i (omega arith)) q;
      }

-- slots apart
pub apart : (j k : ℕ) → (j ≡ k → ⊥) → (slot_length * j + slot_length ≤ slot_length * k) ⊎ (slot_length * k + slot_length ≤ slot_length * j)
apart j k n = elim (dec_le (j + 1) k) [
  | yes a ↦ inl (omega arith)
  | no a ↦ elim (dec_le (k + 1) j) [
    | yes b ↦ inr (omega arith)
    | no b ↦ absurd (n (omega arith))
  ]
]

-- a table whose slots are true but for slot k, which is true too
pub slots_but : (f s : Bytes) (t u : List ℕ) (k : ℕ) → length u ≡ length t → ((j : ℕ) → (j ≡ k → ⊥) → SlotSame t u j) → SlotsTrue f s t → SlotTrue f s u
    k → SlotsTrue f s u
slots_but f s t u k z e q r = record { size = omega (arith, z, q.size); slot = λ j b. go j b (same_or_not j k) }
  where
    go : (j : ℕ) → j < slot_count → (j ≡ k) ⊎ (j ≡ k → ⊥) → SlotTrue f s u j
    go j b (inl w) = subst (SlotTrue f s u) (sym w) r
    go j b (inr w) = slot_same f s t u j z (e j w) (q.slot j b)

-- class places were filled in
pub slots_filled : (f s : Bytes) (t u : List ℕ) (k : ℕ) → k < slot_count → length u ≡ length t → Beside t u (slot_length * k) → RowTrue
    (file_of f s (slot_home t k)) u (slot_length * k) → SlotsTrue f s t → SlotsTrue f s u
slots_filled f s t u k b z e r q = slots_but f s t u k z (λ j n. others j (apart j k n)) q (row_filled f s t u k z e r (q.slot k b))
  where
    others : (j : ℕ) → (slot_length * j + slot_length ≤ slot_length * k) ⊎ (slot_length * k + slot_length ≤ slot_length * j) → SlotSame t u j
    others j (inl w) i x y = e.below i (omega arith)
    others j (inr w) i x y = e.above i (omega arith)

-- slot k was emptied, and stands for the package at another home
module _ (t u : List ℕ) (k : ℕ) (b : k < slot_count) (z : slots_length ≤ length t) (y : length u ≡ length t) (e : Emptied t u k) (h : Home) where
  abbrev new : List ℕ
  new = with_home u (slot_length * k + 32) h

  new_zero : (i : ℕ) → slot_length * k ≤ i → i < slot_length * k + slot_length → (i < slot_length * k + 32) ⊎ (slot_length * k + 35 ≤ i) → get_or new i 0 ≡ 0
  new_zero i p q (inl w) = home_other u (slot_length * k + 32) h i (λ x. omega arith) (λ x. omega arith) (λ x. omega arith) ∙ e.zeros i p q
  new_zero i p q (inr w) = home_other u (slot_length * k + 32) h i (λ x. omega arith) (λ x. omega arith) (λ x. omega arith) ∙ e.zeros i p q

  pub slot_taken : SlotFor t new h k
  slot_taken = record {
    home = home_written u (slot_length * k + 32) h (omega arith);
    true = λ f s q. slots_but f s t new k (home_length u (slot_length * k + 32) h ∙ y) (λ j n. others j n (apart j k n)) q (record {
      places = record {
        room = omega (arith, home_length u (slot_length * k + 32) h);
        told = λ c l m. absurd (omega (arith, new_zero (slot_length * k + c) (omega arith) (omega arith) (inl (omega arith))));
      };
      imports = λ p small n. absurd (n (new_zero (slot_length * k + 32 + 3 * suc p + 1) (omega arith) (omega arith) (inr (omega arith))));
    });
  }
    where
      others : (j : ℕ) → (j ≡ k → ⊥) → (slot_length * j + slot_length ≤ slot_length * k) ⊎ (slot_length * k + slot_length ≤ slot_length * j) → SlotSame t new j
      others j n (inl w) i p q = home_other u (slot_length * k + 32) h i (λ x. omega arith) (λ x. omega arith) (λ x. omega arith) ∙ e.others j n i p q
      others j n (inr w) i p q = home_other u (slot_length * k + 32) h i (λ x. omega arith) (λ x. omega arith) (λ x. omega arith) ∙ e.others j n i p q

-- slot k stands for it already
pub slot_kept : (t : List ℕ) (h : Home) (k : ℕ) → slot_home t k ≡ h → SlotFor t t h k
slot_kept t h k e = record { home = e; true = λ f s q. q }
