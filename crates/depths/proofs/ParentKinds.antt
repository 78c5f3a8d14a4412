-- Question 14's second part: the kinds of parents, counted. Assumes nothing.
use Prim.Native.Nat.{ℕ, ◌+◌, ◌≤◌}
use native.Mathlib.Omega.{arith}
use mathlib.Core.Path.{◌≡◌, refl, sym, ◌∙◌, ap, ap₂}
use mathlib.Core.Bool.{Bool, true, false, not}
use lib.Dec.{leb, eqb}
use lib.ListN.{drop, get_or}
use borrow.Author.Tests.{eqb-true, eqb-false}
use Rattle.rules.specs.Bytes.{Bytes, pick, all, count}
use Rattle.rules.specs.Store.{store_limits}
use Rattle.rules.specs.Classes.{installed}
use Rattle.rules.specs.Questions.{parent_is_kind0}
use Rattle.homes.specs.Homes.{own_home}
use Rattle.homes.specs.declared.Home.{Home}
use Rattle.named.specs.Named.{ClassFrom}
use Rattle.depths.specs.Depths.{OfClass, ParentIs, Kind0Is, Kind0Count, KindsIs}
use Rattle.depths.proofs.ByNumber.{none_counted, Counting, count_more, count_done}
use Rattle.depths.proofs.ListedParents.{class_by}

-- the kind of a class, by the first byte of its record
module _ (f s : Bytes) (end : ℕ) (h : Home) (n v : ℕ) (k0 : ℕ) (low : v ≡ 1 → k0 ≡ 0) (high : (v ≡ 1 → ⊥) → k0 ≡ 1) where
  pub kind_is : (OfClass f s end h n λ es self x k. eqb v 1 ≡ k.interface) → Kind0Is f s end h n k0
  kind_is q es self x k c = go (eqb v 1) refl ∙ ap (λ (b : Bool). pick b 0 1) (q es self x k c)
    where
      go : (b : Bool) → eqb v 1 ≡ b → k0 ≡ pick b 0 1
      go true e = low (eqb-true v 1 e)
      go false e = high (eqb-false v 1 e)

module _ (f s : Bytes) (end n : ℕ) where
  -- the kind-0 parents counted, those from parent i on left
  abbrev pub Kinds : ℕ → ℕ → Type 0
  Kinds i m = OfClass f s end (own_home end) n λ es self x k. Counting (parent_is_kind0 (installed (store_limits s) es) x) k.parents i m

  pub kinds_start : Kinds 0 0
  kinds_start es self x k c = omega arith

  pub kinds_more : (i m : ℕ) (g : Home) (b v : ℕ) → Kinds i m → ParentIs f s end n i g b → Kind0Is f s end g b v → Kinds (i + 1) (m + v)
  kinds_more i m g b v t p q es self x k c =
      let y = p es self x k c in
      let e : parent_is_kind0 (installed (store_limits s) es) x y.number ≡ not y.class.interface = rw (y.named, y.there.is) in
      let z : v ≡ pick (parent_is_kind0 (installed (store_limits s) es) x y.number) 1 0 = q es self y.home y.class y.there ∙ flip
      y.class.interface ∙ ap (λ (w : Bool). pick w 1 0) (sym e) in
      count_more (parent_is_kind0 (installed (store_limits s) es) x) k.parents i m y.number y.listed (t es self x k c) ∙ ap
      (λ (w : ℕ). m + w + count (parent_is_kind0 (installed (store_limits s) es) x) (drop (i + 1) k.parents)) (sym z)
    where
      flip : (b : Bool) → ◌≡◌ {A = ℕ} (pick b 0 1) (pick (not b) 1 0)
      flip true = refl
      flip false = refl

  pub kinds_done : (a i m v : ℕ) → ClassFrom f n a → v ≡ get_or f (a + 1) 0 → v ≤ i → Kinds i m → Kind0Count f s end (own_home end) n m
  kinds_done a i m v q z h t es self x k c = count_done (parent_is_kind0 (installed (store_limits s) es) x) k.parents i m
      (omega (arith, z, h, (class_by f s end n a q es self x k c).count)) (t es self x k c)

  -- what is asked of a class, as a bound of that count
  pub kinds_is : (m v : ℕ) → Kind0Is f s end (own_home end) n v → Kind0Count f s end (own_home end) n m → KindsIs f s end (own_home end) n (leb m v)
  kinds_is m v p q es self x k c =
      ap₂ leb (q es self x k c) (p es self x k c) ∙ go k.interface (none_counted (parent_is_kind0 (installed (store_limits s) es) x) k.parents)
    where
      go : (b : Bool) → all (λ y. not (parent_is_kind0 (installed (store_limits s) es) x y)) k.parents ≡ leb
          (count (parent_is_kind0 (installed (store_limits s) es) x) k.parents) 0 →
          leb (count (parent_is_kind0 (installed (store_limits s) es) x) k.parents) (pick b 0 1) ≡ pick b
          (all (λ y. not (parent_is_kind0 (installed (store_limits s) es) x y)) k.parents)
          (leb (count (parent_is_kind0 (installed (store_limits s) es) x) k.parents) 1)
      go true e = sym e
      go false e = refl

  pub own_kind : (a v k0 : ℕ) → ClassFrom f n a → v ≡ get_or f a 0 → (v ≡ 1 → k0 ≡ 0) → ((v ≡ 1 → ⊥) → k0 ≡ 1) → Kind0Is f s end (own_home end) n k0
  own_kind a v k0 q z low high = kind_is f s end (own_home end) n v k0 low high (λ es self x k c. rw z (class_by f s end n a q es self x k c).kind)
