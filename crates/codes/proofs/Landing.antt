-- Question 17 from the two sets: every target lies in the code, and its bit is the bit of a start. Assumes nothing.
--
-- zs == where the branches go; ks == where the instructions start
use Prim.Native.Nat.{ℕ}
use mathlib.Core.Path.{◌≡◌, refl, sym, ap, ◌∙◌, subst}
use mathlib.Core.Bool.{Bool, true, false, ◌&&◌, ◌||◌, or-true}
use mathlib.Core.List.{List, [], ◌∷◌}
use lib.Dec.{T, eqb, ltb}
use lib.IntN.{ℤ, pos, negsuc}
use lib.ListN.{length}
use borrow.Author.Tests.{eq-eqb, eqb-true}
use Rattle.rules.specs.Bytes.{Bytes, any, all, some_and, flat}
use Rattle.rules.specs.Code.{split, targets_at, is_start, code_branches}
use Rattle.bits.specs.Bits.{WithinIs}
use Rattle.codes.specs.Marks.{goes_to, in_code, Passed}
use Rattle.codes.proofs.Adding.{all_join}
use mathlib.Core.Option.{Option, some}

clash : {A : Type 0} → false ≡ true → A
clash e = absurd (subst (λ (b : Bool). T b) (sym e) tt)

-- asked of each instruction, and of all targets at once
all_flat : {A B : Type 0} (p : B → Bool) (f : A → List B) (xs : List A) → all (λ x. all p (f x)) xs ≡ all p (flat f xs)
all_flat p f [] = refl
all_flat p f (x ∷ xs) = ap (λ (b : Bool). all p (f x) && b) (all_flat p f xs) ∙ sym (all_join p (f x) (flat f xs))

module _ (n : ℕ) (ks : List ℕ) where
  -- starts lie in the code: where all targets are starts, all do
  starts_in : ((k : ℕ) → any (eqb k) ks ≡ true → ltb k n ≡ true) → (zs : List ℤ) → all (is_start ks) zs ≡ true → all (in_code n) zs ≡ true
  starts_in b [] e = refl
  starts_in b (pos k ∷ zs) e = go (any (eqb k) ks) refl e (starts_in b zs)
    where
      go : (t : Bool) → any (eqb k) ks ≡ t → (t && all (is_start ks) zs) ≡ true → (all (is_start ks) zs ≡ true → all (in_code n) zs ≡ true) →
          (ltb k n && all (in_code n) zs) ≡ true
      go true q e rec = ap (λ (x : Bool). x && all (in_code n) zs) (b k q) ∙ rec e
      go false q e rec = clash e
  starts_in b (negsuc k ∷ zs) e = clash e

  -- every bit is a start's
  all_starts : (zs : List ℤ) → all (in_code n) zs ≡ true → ((k : ℕ) → any (goes_to k) zs ≡ true → any (eqb k) ks ≡ true) → all (is_start ks) zs ≡ true
  all_starts [] e h = refl
  all_starts (pos k ∷ zs) e h =
      ap (λ (x : Bool). x && all (is_start ks) zs) (h k (ap (λ (x : Bool). x || any (goes_to k) zs) (eq-eqb k k refl)))
      ∙ all_starts zs (rest (ltb k n) e) (λ j q. h j (ap (λ (x : Bool). eqb j k || x) q ∙ or-true (eqb j k)))
    where
      rest : (t : Bool) → (t && all (in_code n) zs) ≡ true → all (in_code n) zs ≡ true
      rest true e = e
      rest false e = clash e
  all_starts (negsuc k ∷ zs) e h = clash e

-- one bit is none's
not_starts : (ks : List ℕ) (k : ℕ) (zs : List ℤ) → any (goes_to k) zs ≡ true → any (eqb k) ks ≡ false → all (is_start ks) zs ≡ false
not_starts ks k [] e h = clash e
not_starts ks k (pos j ∷ zs) e h = go (eqb k j) refl e (λ r. not_starts ks k zs r h)
  where
    second : (a : Bool) → all (is_start ks) zs ≡ false → (a && all (is_start ks) zs) ≡ false
    second true e = e
    second false e = refl

    go : (t : Bool) → eqb k j ≡ t → (t || any (goes_to k) zs) ≡ true → (any (goes_to k) zs ≡ true → all (is_start ks) zs ≡ false) →
        (any (eqb j) ks && all (is_start ks) zs) ≡ false
    go true q e rec = ap (λ (x : Bool). x && all (is_start ks) zs) (subst (λ (i : ℕ). any (eqb i) ks ≡ false) (eqb-true k j q) h)
    go false q e rec = second (any (eqb j) ks) (rec e)
not_starts ks k (negsuc j ∷ zs) e h = refl

module _ (code : Bytes) (inside calls : Bool) (starts targets : Bytes) (ks : List ℕ) (q : split code ≡ some ks)
    (p : Passed code inside calls starts targets ks) where
  branches_are : code_branches code ≡ all (is_start ks) (flat (targets_at code) ks)
  unfolding code_branches
  branches_are = ap (λ (o : Option (List ℕ)). some_and o (λ starts. all (λ at. all (is_start starts) (targets_at code at)) starts)) q ∙ all_flat (is_start ks)
      (targets_at code) ks

  pub lands_outside : inside ≡ false → code_branches code ≡ false
  lands_outside e = branches_are ∙ go (all (is_start ks) (flat (targets_at code) ks)) refl
    where
      go : (t : Bool) → all (is_start ks) (flat (targets_at code) ks) ≡ t → t ≡ false
      go true x = clash (sym e ∙ p.landed.answer ∙ starts_in (length code) ks p.below (flat (targets_at code) ks) x)
      go false x = refl

  pub lands_inside : inside ≡ true → (r : Bool) → WithinIs targets starts r → code_branches code ≡ r
  lands_inside e true w = branches_are ∙ all_starts (length code) ks (flat (targets_at code) ks) (sym p.landed.answer ∙ e)
      (λ k g. sym (p.marked k) ∙ w k (p.landed.marked e k ∙ g))
  lands_inside e false w = branches_are ∙ not_starts ks w.0 (flat (targets_at code) ks) (sym (p.landed.marked e w.0) ∙ w.1)
      (sym (p.marked w.0) ∙ w.2)
