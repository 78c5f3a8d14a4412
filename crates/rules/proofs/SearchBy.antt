-- Two ways of telling parents that agree at a class and at every class above it give the same search. Assumes nothing.
-- `K` holds of the classes reached; the two agree there, and what is a parent of such a class is reached.
use Prim.Native.Nat.{ℕ, zero, suc}
use mathlib.Core.Path.{◌≡◌, refl, sym, ◌∙◌, ap, ap₂, subst}
use mathlib.Core.Logic.{◌⊎◌, inl, inr}
use mathlib.Core.List.Memᴰ
use mathlib.Core.List.{List, ◌∷◌, ◌++◌, Memᴰ}
use mathlib.Core.Option.{some}
use Rattle.rules.specs.Bytes.{find, keep, first_of, list_of, flat}
use Rattle.rules.specs.Classes.{ClassAt, is_kind0, is_interface, declared_at}
use Rattle.rules.specs.Search.{chain_by, interfaces_by, searched_by, search_by}
use Rattle.rules.proofs.Tests.{find_some, list_of_mem}
use Rattle.rules.proofs.Lists.{flat_cong, list_of_cong, keep_mem}

module _ (up vp : ClassAt → List ClassAt) (K : ClassAt → Type 0) (agree : (c : ClassAt) → K c → up c ≡ vp c)
    (closed : (c : ClassAt) → K c → (d : ClassAt) → Memᴰ d (up c) → K d) where
  -- a kind-0 parent of a class that is reached is reached
  parent_reached : (c : ClassAt) → K c → (d : ClassAt) → find is_kind0 (up c) ≡ some d → K d
  parent_reached c r d e = closed c r d (find_some is_kind0 (up c) d e).0

  chain_reached : (k : ℕ) (c : ClassAt) → K c → (x : ClassAt) → Memᴰ x (chain_by up k c) → K x
  chain_reached zero c r x m = subst K (sym (Memᴰ.eq_of_singleton m)) r
  chain_reached (suc k) c r x m = go (Memᴰ.cases_cons m) (chain_reached k)
    where
      go : (x ≡ c) ⊎ Memᴰ x (list_of (find is_kind0 (up c)) (chain_by up k)) →
          ((d : ClassAt) → K d → (y : ClassAt) → Memᴰ y (chain_by up k d) → K y) → K x
      go (inl e) rec = subst K (sym e) r
      go (inr h) rec = let d = list_of_mem (find is_kind0 (up c)) (chain_by up k) x h in rec d.0 (parent_reached c r d.0 d.1) x d.2

  chain_by_lem : (k : ℕ) (c : ClassAt) → K c → chain_by up k c ≡ chain_by vp k c
  chain_by_lem zero c r = refl
  chain_by_lem (suc k) c r =
      let above = list_of_cong (find is_kind0 (up c)) (chain_by up k) (chain_by vp k) (λ d e. chain_by_lem k d (parent_reached c r d e)) in
      ap (λ (t : List ClassAt). c ∷ t) (above ∙ ap (λ (cs : List ClassAt). list_of (find is_kind0 cs) (chain_by vp k)) (agree c r))

  interfaces_by_lem : (k : ℕ) (c : ClassAt) → K c → interfaces_by up k c ≡ interfaces_by vp k c
  interfaces_by_lem zero c r = refl
  interfaces_by_lem (suc k) c r =
      let reached : (d : ClassAt) → Memᴰ d (keep is_interface (up c)) → K d = λ d m. closed c r d (keep_mem is_interface (up c) d m).0 in
      let theirs = flat_cong (λ (i : ClassAt). i ∷ interfaces_by up k i) (λ (i : ClassAt). i ∷ interfaces_by vp k i) (keep is_interface (up c))
      (λ d m. ap (λ (t : List ClassAt). d ∷ t) (interfaces_by_lem k d (reached d m))) in
      theirs ∙ ap (λ (cs : List ClassAt). flat (λ (i : ClassAt). i ∷ interfaces_by vp k i) (keep is_interface cs)) (agree c r)

  searched_by_lem : (k : ℕ) (c : ClassAt) → K c → searched_by up k c ≡ searched_by vp k c
  searched_by_lem k c r =
      let each = flat_cong (interfaces_by up k) (interfaces_by vp k) (chain_by up k c) (λ d m. interfaces_by_lem k d (chain_reached k c r d m)) in
      ap₂ ◌++◌ (chain_by_lem k c r) (each ∙ ap (flat (interfaces_by vp k)) (chain_by_lem k c r))

  pub search_by_lem : (k : ℕ) (c : ClassAt) (n : ℕ) → K c → search_by up k c n ≡ search_by vp k c n
  search_by_lem k c n r = ap (first_of (declared_at n)) (searched_by_lem k c r)
