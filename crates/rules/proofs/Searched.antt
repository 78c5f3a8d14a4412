-- The search of a declaration, one step at a time: its bound cuts nothing off where a class's depth is within it. Assumes nothing.
use Prim.Native.Nat.{ℕ, zero, suc, ◌≤◌}
use native.Mathlib.Omega.{arith}
use mathlib.Core.Path.{◌≡◌, refl, sym, ◌∙◌, ap}
use mathlib.Core.Bool.{Bool, true, false}
use mathlib.Core.Logic.{inl, inr}
use mathlib.Core.List.Memᴰ
use mathlib.Core.List.{List, [], ◌∷◌, ◌++◌, Memᴰ}
use mathlib.Core.Option.{Option, none, some}
use Rattle.rules.specs.Bytes.{pick, or_else, ◌and_then◌, keep, first_of, list_of, flat}
use Rattle.rules.specs.Classes.{Installed, ClassAt, parents_of, depth_up_to, is_interface, kind0_parent, MethodAt, declared_at}
use Rattle.rules.specs.Search.{chain_up_to, interface_parents, interfaces_up_to, search_up_to}
use Rattle.rules.proofs.Lists.{flat_cong, list_of_cong}
use Rattle.rules.proofs.Bounds.{parent_depth, kind0_parent_lem}

-- the first of the second where the first is none
or_else_assoc : {A : Type 0} (o p q : Option A) → or_else (or_else o p) q ≡ or_else o (or_else p q)
or_else_assoc none p q = refl
or_else_assoc (some a) p q = refl

-- the first value that a list of lists gives is that of the first list that gives one
module _ {A B : Type 0} (g : A → Option B) where
  pub first_append : (xs ys : List A) → first_of g (xs ++ ys) ≡ or_else (first_of g xs) (first_of g ys)
  first_append [] ys = refl
  first_append (x ∷ xs) ys = ap (or_else (g x)) (first_append xs ys) ∙ sym (or_else_assoc (g x) (first_of g xs) (first_of g ys))

  pub first_flat : {C : Type 0} (e : C → List A) (zs : List C) → first_of g (flat e zs) ≡ first_of (λ z. first_of g (e z)) zs
  first_flat e [] = refl
  first_flat e (z ∷ zs) = first_append (e z) (flat e zs) ∙ ap (or_else (first_of g (e z))) (first_flat e zs)

  pub first_of_lem : (o : Option A) (e : A → List A) → first_of g (list_of o e) ≡ (o and_then λ a. first_of g (e a))
  first_of_lem none e = refl
  first_of_lem (some a) e = refl

-- what is kept of a list is in it
keep_mem : {A : Type 0} (p : A → Bool) (xs : List A) (x : A) → Memᴰ x (keep p xs) → Memᴰ x xs
keep_mem p [] x m = m
keep_mem p (y ∷ ys) x m = go (p y) m (keep_mem p ys x)
  where
    go : (b : Bool) → Memᴰ x (pick b (y ∷ keep p ys) (keep p ys)) → (Memᴰ x (keep p ys) → Memᴰ x ys) → Memᴰ x (y ∷ ys)
    go false m rec = Memᴰ.tail (rec m)
    go true m rec = elim (Memᴰ.cases_cons m) [ inl e ↦ Memᴰ.head e | inr k ↦ Memᴰ.tail (rec k) ]

module _ (is : List Installed) where
  -- a step more adds nothing
  chain_stays : (k : ℕ) (c : ClassAt) → depth_up_to is (suc k) c ≤ k → chain_up_to is (suc k) c ≡ chain_up_to is k c
  chain_stays zero c h = absurd (omega arith)
  chain_stays (suc k) c h = ap (λ (cs : List ClassAt). c ∷ cs) (list_of_cong (kind0_parent is c) (chain_up_to is (suc k)) (chain_up_to is k)
      (λ d e. chain_stays k d (parent_depth is k c d h (kind0_parent_lem is c d e))))

  interfaces_stay : (k : ℕ) (c : ClassAt) → depth_up_to is (suc k) c ≤ k → interfaces_up_to is (suc k) c ≡ interfaces_up_to is k c
  interfaces_stay zero c h = absurd (omega arith)
  interfaces_stay (suc k) c h = flat_cong (λ i. i ∷ interfaces_up_to is (suc k) i) (λ i. i ∷ interfaces_up_to is k i) (interface_parents is c)
      (λ d m. ap (λ (cs : List ClassAt). d ∷ cs) (interfaces_stay k d (parent_depth is k c d h (keep_mem is_interface (parents_of is c) d m))))

  module _ (k : ℕ) (c : ClassAt) (h : depth_up_to is (suc k) c ≤ k) where
    pub chain_one : chain_up_to is k c ≡ c ∷ list_of (kind0_parent is c) (chain_up_to is k)
    chain_one = sym (chain_stays k c h)

    pub interfaces_one : interfaces_up_to is k c ≡ flat (λ i. i ∷ interfaces_up_to is k i) (interface_parents is c)
    interfaces_one = sym (interfaces_stay k c h)

    -- what the interfaces of a class declare: each in turn, and what its own declare
    pub above_one : (n : ℕ) → first_of (declared_at n) (interfaces_up_to is k c) ≡ first_of
        (λ i. or_else (declared_at n i) (first_of (declared_at n) (interfaces_up_to is k i))) (interface_parents is c)
    above_one n = ap (first_of (declared_at n)) interfaces_one ∙ first_flat (declared_at n) (λ i. i ∷ interfaces_up_to is k i) (interface_parents is c)

    -- what the members of a chain give: the class itself, else those from its kind-0 parent on
    pub along_one : (g : ClassAt → Option MethodAt) → first_of g (chain_up_to is k c) ≡ or_else (g c)
        (kind0_parent is c and_then λ d. first_of g (chain_up_to is k d))
    along_one g = ap (first_of g) chain_one ∙ ap (or_else (g c)) (first_of_lem g (kind0_parent is c) (chain_up_to is k))

  -- the search is first the chain, then the interfaces of each of its members in turn
  pub search_one : (k : ℕ) (c : ClassAt) (n : ℕ) → search_up_to is k c n ≡ or_else (first_of (declared_at n) (chain_up_to is k c))
      (first_of (λ d. first_of (declared_at n) (interfaces_up_to is k d)) (chain_up_to is k c))
  search_one k c n = first_append (declared_at n) (chain_up_to is k c) (flat (interfaces_up_to is k) (chain_up_to is k c)) ∙ ap
      (or_else (first_of (declared_at n) (chain_up_to is k c))) (first_flat (declared_at n) (interfaces_up_to is k) (chain_up_to is k c))
