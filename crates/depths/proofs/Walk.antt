-- The depth of a class from those of its parents, each told up to one more than the limit. Assumes nothing.
use Rattle.std.specs.Prelude.{Some, None}
use Prim.Native.Nat.{ℕ, zero, suc, ◌+◌, ◌≤◌, ◌<◌, max}
use native.Mathlib.Omega.{arith}
use native.Mathlib.Decide.{dec_le}
use mathlib.Core.Path.{◌≡◌, sym, ◌∙◌, ap, ap₂, subst}
use mathlib.Core.List.{List, [], ◌∷◌}
use mathlib.Core.Option.{some}
use lib.ListN.{drop, get_or}
use borrow.Author.Tests.{le-leb, lt-leb}
use Rattle.rules.specs.Bytes.{Bytes, list_of}
use Rattle.rules.specs.Package.{ClassNumber, Class}
use Rattle.rules.specs.Store.{store_limits}
use Rattle.rules.specs.Classes.{Installed, installed, ClassAt, class_named, parents_named, parents_of, greatest, depth_up_to}
use Rattle.rules.specs.Questions.{own}
use Rattle.rules.proofs.Limits.{limits_range_lem}
use Rattle.homes.specs.Homes.{own_home}
use Rattle.homes.specs.declared.Home.{Home}
use Rattle.named.specs.Named.{ClassFrom}
use Rattle.depths.specs.Depths.{OfClass, ParentIs, Kind0Is, Kind0Count, KindsIs, capped, depth_of, DepthIs, DeepestIs, OwnIs}
use Rattle.depths.proofs.ByNumber.{drop_at, drop_end}
use Rattle.depths.proofs.ListedParents.{class_by}
use Rattle.depths.proofs.ParentKinds.{kinds_is}

-- a number, or the limit where it is more
capped_low : (k d : ℕ) → d ≤ k → capped k d ≡ d
capped_low k d h = rw (le-leb d k h)

capped_high : (k d : ℕ) → k < d → capped k d ≡ k
capped_high k d h = rw (lt-leb d k h)

-- one more than it, as the code has it
pub more_low : (k d : ℕ) → d ≤ k → d + 1 ≡ suc (capped k d)
more_low k d h = omega (arith, capped_low k d h)

pub more_high : (k d : ℕ) → k < d → k + 1 ≡ suc (capped k d)
more_high k d h = omega (arith, capped_high k d h)

capped_suc : (k d : ℕ) → capped (suc k) (suc d) ≡ suc (capped k d)
capped_suc k d = elim (dec_le d k) [
  | yes h ↦ omega (arith, capped_low k d h, capped_low (suc k) (suc d) (omega arith))
  | no h ↦ omega (arith, capped_high k d (omega arith), capped_high (suc k) (suc d) (omega arith))
]

capped_max : (k a b : ℕ) → capped k (max a b) ≡ max (capped k a) (capped k b)
capped_max k a b = elim (dec_le a k) [
  | yes h ↦ elim (dec_le b k) [
    | yes i ↦ omega (arith, capped_low k a h, capped_low k b i, capped_low k (max a b) (omega arith))
    | no i ↦ omega (arith, capped_low k a h, capped_high k b (omega arith), capped_high k (max a b) (omega arith))
  ]
  | no h ↦ elim (dec_le b k) [
    | yes i ↦ omega (arith, capped_high k a (omega arith), capped_low k b i, capped_high k (max a b) (omega arith))
    | no i ↦ omega (arith, capped_high k a (omega arith), capped_high k b (omega arith), capped_high k (max a b) (omega arith))
  ]
]

-- a depth told up to k is the one told up to k + 1, or k where that is more
module _ (is : List Installed) where
  greatest_capped : (k : ℕ) (cs : List ClassAt) → ((c : ClassAt) → depth_up_to is k c ≡ capped k (depth_up_to is (suc k) c)) → greatest (depth_up_to is k) cs ≡
      capped k (greatest (depth_up_to is (suc k)) cs)
  greatest_capped k [] h = sym (capped_low k 0 (omega arith))
  greatest_capped k (c ∷ cs) h = ap₂ max (h c) (greatest_capped k cs h) ∙ sym (capped_max k (depth_up_to is (suc k) c) (greatest (depth_up_to is (suc k)) cs))

  depth_capped : (k : ℕ) (c : ClassAt) → depth_up_to is k c ≡ capped k (depth_up_to is (suc k) c)
  depth_capped zero c = sym (capped_high 0 (depth_up_to is 1 c) (omega arith))
  depth_capped (suc k) c =
      ap suc (greatest_capped k (parents_of is c) (depth_capped k)) ∙ sym (capped_suc k (greatest (depth_up_to is (suc k)) (parents_of is c)))

  -- one more than the deepest parent, which counts up to the limit
  pub depth_more : (k : ℕ) (c : ClassAt) → depth_up_to is (suc k) c ≡ suc (capped k (greatest (depth_up_to is (suc k)) (parents_of is c)))
  depth_more k c = ap suc (greatest_capped k (parents_of is c) (depth_capped k))

-- the limit is small
pub depth_small : (s : Bytes) (most : ℕ) → most ≡ (store_limits s).depth → most < 255
depth_small s most e = omega (arith, e, (limits_range_lem s).0)

module _ (f s : Bytes) (end n : ℕ) where
  -- an own class
  pub depth_is : (most d r : ℕ) → most ≡ (store_limits s).depth → DeepestIs f s end (own_home end) n d → r ≡ suc (capped most d) → DepthIs f s end
      (own_home end) n r
  depth_is most d r e q z es self x k c =
      let p : parents_of (installed (store_limits s) es) (own x n) ≡ parents_named (installed (store_limits s) es) x k.parents = ap
      (λ (o : _). list_of o (λ (k : Class). parents_named (installed (store_limits s) es) x k.parents)) c.is in
      z ∙ ap₂ (λ (m v : ℕ). suc (capped m v)) e (q es self x k c ∙ ap (greatest (depth_of s es)) (sym p)) ∙ sym
      (depth_more (installed (store_limits s) es) (store_limits s).depth (own x n))

  -- the greatest depth of its parents so far, those from parent i on left
  abbrev pub Deepest : ℕ → ℕ → Type 0
  Deepest i d = OfClass f s end (own_home end) n λ es self x k.
      greatest (depth_of s es) (parents_named (installed (store_limits s) es) x k.parents) ≡ max d
      (greatest (depth_of s es) (parents_named (installed (store_limits s) es) x (drop i k.parents)))

  pub deepest_start : Deepest 0 0
  deepest_start es self x k c = omega arith

  pub deepest_more : (i d : ℕ) (g : Home) (m e r : ℕ) → Deepest i d → ParentIs f s end n i g m → DepthIs f s end g m e → r ≡ max e d → Deepest (i + 1) r
  deepest_more i d g m e r t p q z es self x k c =
      let y = p es self x k c in
      let w = ap (λ (l : List ClassNumber). greatest (depth_of s es) (parents_named (installed (store_limits s) es) x l))
      (drop_at k.parents i y.number y.listed) ∙ front y.number (own y.home m) y.named (drop (i + 1) k.parents) in
      omega (arith, t es self x k c, w, q es self y.home y.class y.there, z)
    where
      front : (w : ClassNumber) (a : ClassAt) → class_named (installed (store_limits s) es) x w ≡ some a → (ws : List ClassNumber) →
          greatest (depth_of s es) (parents_named (installed (store_limits s) es) x (w ∷ ws)) ≡ max (depth_of s es a)
          (greatest (depth_of s es) (parents_named (installed (store_limits s) es) x ws))
      front w a e ws = rw e

  pub deepest_done : (a i v d : ℕ) → ClassFrom f n a → v ≡ get_or f (a + 1) 0 → v ≤ i → Deepest i d → DeepestIs f s end (own_home end) n d
  deepest_done a i v d q z h t es self x k c =
      let e = drop_end k.parents i (omega (arith, z, h, (class_by f s end n a q es self x k c).count)) in
      let w : greatest (depth_of s es) (parents_named (installed (store_limits s) es) x (drop i k.parents)) ≡ 0 = ap
      (λ (l : List ClassNumber). greatest (depth_of s es) (parents_named (installed (store_limits s) es) x l)) e in
      omega (arith, t es self x k c, w)

  -- none where the kinds are wrong, else the depth
  pub own_bad : (m v : ℕ) → Kind0Is f s end (own_home end) n v → Kind0Count f s end (own_home end) n m → v < m → OwnIs f s end n None
  own_bad m v p q h = subst (KindsIs f s end (own_home end) n) (lt-leb m v h) (kinds_is f s end n m v p q)

  pub own_good : (m v : ℕ) → Kind0Is f s end (own_home end) n v → Kind0Count f s end (own_home end) n m → m ≤ v →
      (most d r : ℕ) → most ≡ (store_limits s).depth → DeepestIs f s end (own_home end) n d → r ≡ suc (capped most d) → OwnIs f s end n (Some r)
  own_good m v p q h most d r e w z =
      (subst (KindsIs f s end (own_home end) n) (le-leb m v h) (kinds_is f s end n m v p q), depth_is most d r e w z)
