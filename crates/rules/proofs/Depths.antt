-- The depth that is computed within its bound is the depth without one, and so is that of the deepest own class. Assumes nothing.
use Prim.Native.Nat.{ℕ, zero, suc, max, ◌+◌, ◌≤◌}
use native.Mathlib.Omega.{arith}
use native.Mathlib.Nat.{zero-add}
use native.Mathlib.Decide.{dec_le}
use mathlib.Core.Path.{◌≡◌, refl, sym, ◌∙◌, ap, subst}
use mathlib.Core.Logic.{◌⊎◌, inl, inr}
use mathlib.Core.List.{List, [], ◌∷◌, Memᴰ}
use mathlib.Core.Option.{some}
use lib.Dec.{T, leb→le}
use Rattle.rules.specs.Bytes.{at, all_from}
use Rattle.rules.specs.Package.{Limits, Class}
use Rattle.rules.specs.Classes.{Installed, ClassAt, parents_of, greatest, depth_up_to}
use Rattle.rules.specs.Questions.{own, depth_within}
use Rattle.rules.specs.Operations.{deepest_from}
use Rattle.rules.specs.Unbounded.{DepthAtMost, over, Depth, parentless, one_more, Deepest, no_class, of_class}
use Rattle.rules.proofs.Tests.{none_some, all_from_zero}
use Rattle.rules.proofs.Bounds.{greatest_mem, parent_depth}

-- the greater of two numbers is one of them
max_one : (a b : ℕ) → (max a b ≡ a) ⊎ (max a b ≡ b)
max_one a b = elim (dec_le b a) [
  | yes h ↦ inl (omega arith)
  | no h ↦ inr (omega arith)
]

-- an element gives the greatest of what a list gives that is not empty
greatest_reached : {A : Type 0} (f : A → ℕ) (x : A) (xs : List A) → (y : A) × Memᴰ y (x ∷ xs) × (f y ≡ greatest f (x ∷ xs))
greatest_reached f x [] = (x, mathlib.Core.List.Memᴰ.head refl, omega arith)
greatest_reached f x (z ∷ zs) =
    let r = greatest_reached f z zs in
    elim (max_one (f x) (greatest f (z ∷ zs))) [
      | inl e ↦ (x, mathlib.Core.List.Memᴰ.head refl, sym e)
      | inr e ↦ (r.0, mathlib.Core.List.Memᴰ.tail r.1, r.2 ∙ sym e)
    ]

module _ (is : List Installed) where
  at_most_more : (n m : ℕ) (c : ClassAt) → DepthAtMost is c n → n ≤ m → DepthAtMost is c m
  at_most_more _ zero c (over {n = n} up) l = absurd (omega arith)
  at_most_more _ (suc m) c (over {n = n} up) l = let k : n ≤ m = omega arith in over (λ d x. at_most_more n m d (up d x) k)

  -- no way up is longer than the depth, and no shorter bound holds of them all
  pub depth_most : (c : ClassAt) (n : ℕ) → Depth is c n → DepthAtMost is c n
  depth_most c _ (parentless e) = over (λ d m. absurd (mathlib.Core.List.Memᴰ.not-nil (subst (Memᴰ d) e m)))
  depth_most c _ (one_more d m h up) = over up

  pub depth_least : (c : ClassAt) (n m : ℕ) → Depth is c n → DepthAtMost is c m → n ≤ m
  depth_least c _ _ (parentless e) (over {n = b} up) = omega arith
  depth_least c _ _ (one_more {n = n} d m h _) (over {n = b} up) = let l = depth_least d n b h (up d m) in omega arith

  -- the depth computed within a bound
  pub depth_is : (k : ℕ) (c : ClassAt) → depth_up_to is (suc k) c ≤ k → Depth is c (depth_up_to is (suc k) c)
  depth_is zero c h = absurd (omega arith)
  depth_is (suc k) c h = go (parents_of is c) refl (λ d m. depth_is k d (parent_depth is k c d h m))
    where
      go : (ps : List ClassAt) → parents_of is c ≡ ps → ((d : ClassAt) → Memᴰ d (parents_of is c) → Depth is d (depth_up_to is (suc k) d)) →
          Depth is c (suc (greatest (depth_up_to is (suc k)) ps))
      go [] e up = parentless e
      go (p ∷ ps) e up =
          let r = greatest_reached (depth_up_to is (suc k)) p ps in
          let m : Memᴰ r.0 (parents_of is c) = subst (Memᴰ r.0) (sym e) r.1 in
          one_more r.0 m (subst (Depth is r.0) r.2 (up r.0 m)) (λ d x.
          at_most_more (depth_up_to is (suc k) d) (greatest (depth_up_to is (suc k)) (p ∷ ps)) d (depth_most d _ (up d x))
          (greatest_mem (depth_up_to is (suc k)) d (p ∷ ps) (subst (Memᴰ d) e x)))

-- the deepest of own classes
module _ (l : Limits) (is : List Installed) (self : Installed) where
  abbrev depth_of : ℕ → ℕ
  depth_of i = depth_up_to is (suc l.depth) (own self i)

  -- none is deeper, and one is as deep
  deepest_most : (i : ℕ) (ks : List Class) (j : ℕ) (k : Class) → at ks j ≡ some k → depth_of (i + j) ≤ deepest_from l is self i ks
  deepest_most i [] j k e = absurd (none_some e)
  deepest_most i (x ∷ xs) zero k e = let q : i + 0 ≡ i = omega arith in rw q (omega arith)
  deepest_most i (x ∷ xs) (suc j) k e =
      let q : i + suc j ≡ suc i + j = omega arith in
      let h = deepest_most (suc i) xs j k e in
      rw q (omega arith)

  deepest_reached : (i : ℕ) (k : Class) (ks : List Class) →
      (j : ℕ) × (h : Class) × (at (k ∷ ks) j ≡ some h) × (depth_of (i + j) ≡ deepest_from l is self i (k ∷ ks))
  deepest_reached i k [] = let q : i + 0 ≡ i = omega arith in (0, k, refl, rw q (omega arith))
  deepest_reached i k (x ∷ xs) =
      let q : i + 0 ≡ i = omega arith in
      let r = deepest_reached (suc i) x xs in
      let z : i + suc r.0 ≡ suc i + r.0 = omega arith in
      elim (max_one (depth_of i) (deepest_from l is self (suc i) (x ∷ xs))) [
        | inl e ↦ (0, k, refl, ap depth_of q ∙ sym e)
        | inr e ↦ (suc r.0, r.1, r.2, ap depth_of z ∙ (r.3 ∙ sym e))
      ]

  module _ (within : T (all_from (λ i k. depth_within l is self i) 0 self.pack.classes)) where
    own_depth : (i : ℕ) (k : Class) → at self.pack.classes i ≡ some k → Depth is (own self i) (depth_of i)
    own_depth i k e =
        depth_is is l.depth (own self i) (leb→le (depth_of i) l.depth (all_from_zero (λ i k. depth_within l is self i) self.pack.classes i k within e))

    pub deepest_is : Deepest is self (deepest_from l is self 0 self.pack.classes)
    deepest_is = go self.pack.classes refl
      where
        go : (ks : List Class) → self.pack.classes ≡ ks → Deepest is self (deepest_from l is self 0 ks)
        go [] e = no_class e
        go (k ∷ ks) e =
            let r = deepest_reached 0 k ks in
            let c : at self.pack.classes r.0 ≡ some r.1 = ap (λ (cs : List Class). at cs r.0) e ∙ r.2 in
            of_class r.0 r.1 c (subst (Depth is (own self r.0)) (rw zero-add at r.3) (own_depth r.0 r.1 c)) (λ j h x.
            at_most_more is (depth_of j) (deepest_from l is self 0 (k ∷ ks)) (own self j) (depth_most is (own self j) _ (own_depth j h x))
            (rw zero-add at (deepest_most 0 (k ∷ ks) j h (sym (ap (λ (cs : List Class). at cs j) e) ∙ x))))

-- a package has no other deepest depth
pub deepest_one : (is : List Installed) (self : Installed) (n m : ℕ) → Deepest is self n → Deepest is self m → n ≡ m
deepest_one is self _ _ (no_class e) (no_class _) = refl
deepest_one is self _ _ (no_class e) (of_class i k a _ _) = absurd (none_some (sym (ap (λ (cs : List Class). at cs i) e) ∙ a))
deepest_one is self _ _ (of_class i k a _ _) (no_class e) = absurd (none_some (sym (ap (λ (cs : List Class). at cs i) e) ∙ a))
deepest_one is self _ _ (of_class {n = n} i k a d up) (of_class {n = m} j h b e above) =
    let x = depth_least is (own self i) n m d (above i k a) in
    let y = depth_least is (own self j) m n e (up j h b) in
    omega arith
