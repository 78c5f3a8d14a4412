-- Question 14's depth and, given 14, question 20 are what the document says without a bound. Assumes nothing.
use Prim.Native.Nat.{ℕ, zero, suc, ◌+◌, ◌≤◌}
use native.Mathlib.Omega.{arith}
use native.Mathlib.Nat.{zero-add}
use mathlib.Core.Path.{◌≡◌, refl, sym, ◌∙◌, ap, subst}
use mathlib.Core.Bool.{Bool, true, false, ◌||◌}
use mathlib.Core.List.{List, [], ◌∷◌, Memᴰ}
use mathlib.Core.Option.{Option, none, some}
use lib.Dec.{T, leb→le, le→leb}
use Rattle.rules.specs.Bytes.{all, all_from, at, none_or}
use Rattle.rules.specs.Package.{Limits, Method, Class}
use Rattle.rules.specs.Classes.{Installed, ClassAt, record_of, parents_of, greatest, depth_up_to, ancestors_up_to, MethodAt, runs_up_to, allows_all_of}
use Rattle.rules.specs.Questions.{own, depth_within, q14_parents, q20_running}
use Rattle.rules.specs.Running.{running_allows}
use Rattle.rules.specs.Paths.{IsOrBelow}
use Rattle.rules.specs.Unbounded.{DepthAtMost, over, Q20}
use Rattle.rules.proofs.Tests.{and_i, or_not, all_mem, all_from_zero, none_or_is}
use Rattle.rules.proofs.Asked.{parents_yes}
use Rattle.rules.proofs.Bounds.{parent_depth, ancestors_below, below_ancestors, runs_is, is_runs}
use Rattle.rules.proofs.Policies.{all_is}
use Rattle.rules.proofs.Running.{q20_by_class}

-- of every element with its number
all_from_is : {A : Type 0} (p : ℕ → A → Bool) (k : ℕ) (xs : List A) → ((i : ℕ) (x : A) → at xs i ≡ some x → T (p (k + i) x)) → T (all_from p k xs)
all_from_is p k [] h = tt
all_from_is p k (x ∷ xs) h =
    let q : k + 0 ≡ k = omega arith in
    and_i (p k x) (all_from p (suc k) xs) (rw q at (h 0 x refl)) (all_from_is p (suc k) xs
    (λ i y e. let w : k + suc i ≡ suc k + i = omega arith in rw w at (h (suc i) y e)))

pub all_from_zero_is : {A : Type 0} (p : ℕ → A → Bool) (xs : List A) → ((i : ℕ) (x : A) → at xs i ≡ some x → T (p i x)) → T (all_from p 0 xs)
all_from_zero_is p xs h = all_from_is p 0 xs (λ i x e. rw zero-add (h i x e))

-- the greatest is at most what all are at most
greatest_least : {A : Type 0} (f : A → ℕ) (n : ℕ) (xs : List A) → ((x : A) → Memᴰ x xs → f x ≤ n) → greatest f xs ≤ n
greatest_least f n [] h = omega arith
greatest_least f n (x ∷ xs) h = let a = h x (Memᴰ.head refl) in let b = greatest_least f n xs (λ y m. h y (Memᴰ.tail m)) in omega arith

module _ (is : List Installed) where
  -- the bounded depth is within the bound exactly where every way up is
  pub depth_at_most : (k : ℕ) (c : ClassAt) → depth_up_to is (suc k) c ≤ k → DepthAtMost is c k
  depth_at_most zero c h = absurd (omega arith)
  depth_at_most (suc k) c h = over (λ d m. depth_at_most k d (parent_depth is k c d h m))

  pub at_most_depth : (k : ℕ) (c : ClassAt) → DepthAtMost is c k → depth_up_to is (suc k) c ≤ k
  at_most_depth _ c (over {n = n} up) = let h = greatest_least (depth_up_to is (suc n)) n (parents_of is c) (λ d m. at_most_depth n d (up d m)) in omega arith

-- question 14's depths
module _ (l : Limits) (is : List Installed) (self : Installed) where
  pub depths_unbounded : T (all_from (λ i k. depth_within l is self i) 0 self.pack.classes) → (i : ℕ) (k : Class) →
      at self.pack.classes i ≡ some k → DepthAtMost is (own self i) l.depth
  depths_unbounded h i k e =
      depth_at_most is l.depth (own self i) (leb→le _ l.depth (all_from_zero (λ i k. depth_within l is self i) self.pack.classes i k h e))

  pub unbounded_depths : ((i : ℕ) (k : Class) → at self.pack.classes i ≡ some k → DepthAtMost is (own self i) l.depth) →
      T (all_from (λ i k. depth_within l is self i) 0 self.pack.classes)
  unbounded_depths h =
      all_from_zero_is (λ i k. depth_within l is self i) self.pack.classes (λ i k e. le→leb _ l.depth (at_most_depth is l.depth (own self i) (h i k e)))

  -- question 20, given 14
  module _ (q14 : T (q14_parents l is self)) where
    depth_of_lem : (i : ℕ) (k : Class) → at self.pack.classes i ≡ some k → depth_up_to is (suc l.depth) (own self i) ≤ l.depth
    depth_of_lem i k e = leb→le _ l.depth (all_from_zero (λ i k. depth_within l is self i) self.pack.classes i k (parents_yes l is self q14).depths e)

    pub q20_unbounded : T (q20_running l is self) → Q20 is self
    q20_unbounded h' i k e n r u a b kₐ z m x q st =
        let d = depth_of_lem i k e in
        let h = subst T (q20_by_class l is self) h' in
        let h₁ = all_from_zero (λ i k. all (running_allows l is (own self i)) (ancestors_up_to is l.depth (own self i))) self.pack.classes i k h e in
        let h₂ : T (running_allows l is (own self i) a) = all_mem (running_allows l is (own self i)) h₁ (below_ancestors is l.depth (own self i) a d b) in
        let h₃ = all_mem _ (none_or_is _ h₂ z) x in
        let h₄ = or_not m.static _ h₃ (rw st tt) in
        none_or_is _ h₄ (ap (runs_up_to is l.depth (own self i)) q ∙ is_runs is l.depth (own self i) n r d u)

    pub unbounded_q20 : Q20 is self → T (q20_running l is self)
    unbounded_q20 h =
        subst T (sym (q20_by_class l is self)) (all_from_zero_is (λ i k. all (running_allows l is (own self i)) (ancestors_up_to is l.depth (own self i)))
        self.pack.classes (λ i k e.
        all_is (running_allows l is (own self i)) (ancestors_up_to is l.depth (own self i))
        (λ a x. of_class_lem i k e a (ancestors_below is l.depth (own self i) a x) (record_of a) refl)))
      where
        of_method : (i : ℕ) (k : Class) → at self.pack.classes i ≡ some k → (a : ClassAt) → IsOrBelow is (own self i) a → (kₐ : Class) →
            record_of a ≡ some kₐ → (m : Method) → Memᴰ m kₐ.methods →
            (s : Bool) → m.static ≡ s → (o : Option MethodAt) → runs_up_to is l.depth (own self i) m.name ≡ o → T
            (s || none_or o (λ r. allows_all_of r (record { class = a; method = m })))
        of_method i k e a b kₐ z m x true st o q = tt
        of_method i k e a b kₐ z m x false st none q = tt
        of_method i k e a b kₐ z m x false st (some r) q = h i k e m.name r (runs_is is l.depth (own self i) m.name r q) a b kₐ z m x refl st

        of_class_lem : (i : ℕ) (k : Class) → at self.pack.classes i ≡ some k → (a : ClassAt) → IsOrBelow is (own self i) a → (o : Option Class) →
            record_of a ≡ o →
            T (none_or o λ kₐ. all (λ m. m.static || none_or (runs_up_to is l.depth (own self i) m.name)
            (λ r. allows_all_of r (record { class = a; method = m }))) kₐ.methods)
        of_class_lem i k e a b none z = tt
        of_class_lem i k e a b (some kₐ) z =
            all_is _ kₐ.methods (λ m x. of_method i k e a b kₐ z m x m.static refl (runs_up_to is l.depth (own self i) m.name) refl)
