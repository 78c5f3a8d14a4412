-- The search for a declaration goes through classes at or above the one named, and its bound cuts nothing off: of a class whose depth is
-- within bound k it finds what the rules mean without a bound. Assumes nothing.
use Prim.Native.Nat.{ℕ, zero, suc, ◌+◌, ◌≤◌}
use native.Mathlib.Omega.{arith}
use mathlib.Core.Path.{◌≡◌, refl, sym, ◌∙◌, ap, ap₂, subst}
use mathlib.Core.Logic.{◌⊎◌, inl, inr}
use mathlib.Core.List.Memᴰ
use mathlib.Core.List.{List, [], ◌∷◌, ◌++◌, Memᴰ}
use mathlib.Core.Option.{Option, none, some, some-injective}
use lib.Dec.{eqb}
use Rattle.rules.specs.Bytes.{first_of, list_of, flat}
use Rattle.rules.specs.Package.{Method, Class}
use Rattle.rules.specs.Classes.{Installed, ClassAt, record_of, parents_named, parents_of, depth_up_to, is_interface, kind0_parent, declared, declared_at, MethodAt}
use Rattle.rules.specs.Search.{chain_up_to, interface_parents, interfaces_up_to, searched_up_to, search_up_to}
use Rattle.rules.specs.Paths.{IsOrBelow, itself, below, Chain, top, up, DepthFirst, stop, visit, Means}
use Rattle.rules.proofs.Tests.{and_then_is, find_some, flat_mem_is, list_of_mem}
use Rattle.rules.proofs.Lists.{flat_flat, keep_mem, first_of_some}
use Rattle.rules.proofs.Bounds.{parent_depth, depth_stays, kind0_parent_lem}

module _ (is : List Installed) where
  -- at or above a class that is at or above
  pub below_trans : {b c x : ClassAt} → IsOrBelow is b c → IsOrBelow is c x → IsOrBelow is b x
  below_trans itself s = s
  below_trans (below m r) s = below m (below_trans r s)

  -- a class at or above is as deep at most
  above_depth : (k : ℕ) {c x : ClassAt} → IsOrBelow is c x → depth_up_to is (suc k) c ≤ k → depth_up_to is (suc k) x ≤ k
  above_depth zero r h = absurd (omega arith)
  above_depth (suc k) itself h = h
  above_depth (suc k) {c} (below {c = d} m r) h =
      let p = parent_depth is k c d h m in
      let z : suc k + 1 ≡ suc (suc k) = omega arith in
      let e : depth_up_to is (suc (suc k)) d ≡ depth_up_to is (suc k) d = rw z at (depth_stays is k d 1 p) in
      above_depth (suc k) r (omega arith)

  -- an interface among the parents is a parent
  pub interface_parent : (c d : ClassAt) → Memᴰ d (interface_parents is c) → Memᴰ d (parents_of is c)
  interface_parent c d m = (keep_mem is_interface (parents_of is c) d m).0

  -- the classes of the search are at or above
  chain_below : (k : ℕ) (c x : ClassAt) → Memᴰ x (chain_up_to is k c) → IsOrBelow is c x
  chain_below zero c x m = let z : x ≡ c = Memᴰ.eq_of_singleton m in rw z itself
  chain_below (suc k) c x m = go (Memᴰ.cases_cons m) (λ d. chain_below k d x)
    where
      go : (x ≡ c) ⊎ Memᴰ x (list_of (kind0_parent is c) (chain_up_to is k)) → ((d : ClassAt) → Memᴰ x (chain_up_to is k d) → IsOrBelow is d x) →
          IsOrBelow is c x
      go (inl e) rec = rw e itself
      go (inr h) rec = let d = list_of_mem (kind0_parent is c) (chain_up_to is k) x h in below (kind0_parent_lem is c d.0 d.1) (rec d.0 d.2)

  interfaces_below : (k : ℕ) (c x : ClassAt) → Memᴰ x (interfaces_up_to is k c) → IsOrBelow is c x
  interfaces_below zero c x m = elim m [ ]
  interfaces_below (suc k) c x m =
      let i = flat_mem_is (λ (i : ClassAt). i ∷ interfaces_up_to is k i) (interface_parents is c) x m in
      below (interface_parent c i.0 i.1) (go i.0 (Memᴰ.cases_cons i.2) (λ d. interfaces_below k d x))
    where
      go : (d : ClassAt) → (x ≡ d) ⊎ Memᴰ x (interfaces_up_to is k d) → ((d : ClassAt) → Memᴰ x (interfaces_up_to is k d) → IsOrBelow is d x) →
          IsOrBelow is d x
      go d (inl e) rec = rw e itself
      go d (inr h) rec = rec d h

  pub searched_below : (k : ℕ) (c x : ClassAt) → Memᴰ x (searched_up_to is k c) → IsOrBelow is c x
  searched_below k c x m = elim (Memᴰ.append_cases (chain_up_to is k c) m) [
    | inl h ↦ chain_below k c x h
    | inr h ↦ let d = flat_mem_is (interfaces_up_to is k) (chain_up_to is k c) x h in
        below_trans (chain_below k c d.0 d.1) (interfaces_below k d.0 x d.2)
  ]

  -- what is found is declared by a class at or above the one named
  pub record Found (c : ClassAt) (n : ℕ) (m : MethodAt) : Type 0 where
    pub above : IsOrBelow is c m.class
    pub class : Class
    pub there : record_of m.class ≡ some class
    pub declares : declared class n ≡ some m.method

  pub search_found : (k : ℕ) (c : ClassAt) (n : ℕ) (m : MethodAt) → search_up_to is k c n ≡ some m → Found c n m
  search_found k c n m e =
      let f = first_of_some (declared_at n) (searched_up_to is k c) m e in
      let r = and_then_is (record_of f.0) _ m f.2 in
      let o = and_then_is (declared r.0 n) _ m r.2 in
      subst (Found c n) (some-injective _ _ o.2) (record { above = searched_below k c f.0 f.1; class = r.0; there = r.1; declares = o.1 })

  pub found_member : {c : ClassAt} {n : ℕ} {m : MethodAt} (f : Found c n m) → Memᴰ m.method f.class.methods
  found_member {n = n} {m = m} f = (find_some (λ (y : Method). eqb y.name n) f.class.methods m.method f.declares).0

  -- a class at or below one that is there is there
  pub below_there : {c x : ClassAt} (k : Class) → IsOrBelow is c x → record_of x ≡ some k → (r : Class) × (record_of c ≡ some r)
  below_there k itself e = (k, e)
  below_there {c} k (below {c = d} m r) e = let p = list_of_mem (record_of c) (λ (q : Class). parents_named is c.home q.parents) d m in (p.0, p.1)

  -- a chain is the one within a bound, where the depth is
  chain_is_lem : (k : ℕ) {c : ClassAt} {cs : List ClassAt} → depth_up_to is (suc k) c ≤ k → Chain is c cs → chain_up_to is k c ≡ cs
  chain_is_lem zero h r = absurd (omega arith)
  chain_is_lem (suc k) h (top e) = rw e
  chain_is_lem (suc k) {c} h (up {d = d} e r) = rw e (ap (λ (t : List ClassAt). c ∷ t) (chain_is_lem k (parent_depth is k c d h (kind0_parent_lem is c d e)) r))

  is_chain : (k : ℕ) (c : ClassAt) → depth_up_to is (suc k) c ≤ k → Chain is c (chain_up_to is k c)
  is_chain zero c h = absurd (omega arith)
  is_chain (suc k) c h = go (kind0_parent is c) refl (is_chain k)
    where
      go : (o : Option ClassAt) → kind0_parent is c ≡ o → ((d : ClassAt) → depth_up_to is (suc k) d ≤ k → Chain is d (chain_up_to is k d)) → Chain is c
          (c ∷ list_of o (chain_up_to is k))
      go none e rec = top e
      go (some d) e rec = up e (rec d (parent_depth is k c d h (kind0_parent_lem is c d e)))

  -- interfaces and theirs within a bound; classes whose depths are within it
  abbrev visited : ℕ → List ClassAt → List ClassAt
  visited k cs = flat (λ i. i ∷ interfaces_up_to is k i) cs

  abbrev Within : ℕ → List ClassAt → Type 0
  Within k cs = (c : ClassAt) → Memᴰ c cs → depth_up_to is (suc k) c ≤ k

  parents_within : (k : ℕ) (c : ClassAt) → depth_up_to is (suc (suc k)) c ≤ suc k → Within k (interface_parents is c)
  parents_within k c h d m = parent_depth is k c d h (interface_parent c d m)

  -- the former are those of the rules, depth first, where the latter holds
  depth_first_is : (k : ℕ) {cs xs : List ClassAt} → Within k cs → DepthFirst is cs xs → visited k cs ≡ xs
  depth_first_is k h stop = refl
  depth_first_is zero h (visit {c = c} r s) = absurd (let d = h c (Memᴰ.head refl) in omega arith)
  depth_first_is (suc k) h (visit {c = c} r s) =
      ap₂ (λ (x y : List ClassAt). c ∷ (x ++ y)) (depth_first_is k (parents_within k c (h c (Memᴰ.head refl))) r)
      (depth_first_is (suc k) (λ d m. h d (Memᴰ.tail m)) s)

  visit_all : (k : ℕ) → ((ds : List ClassAt) → Within k ds → DepthFirst is ds (visited k ds)) →
      (cs : List ClassAt) → Within (suc k) cs → DepthFirst is cs (visited (suc k) cs)
  visit_all k rec [] h = stop
  visit_all k rec (c ∷ cs) h =
      visit (rec (interface_parents is c) (parents_within k c (h c (Memᴰ.head refl)))) (visit_all k rec cs (λ d m. h d (Memᴰ.tail m)))

  is_depth_first : (k : ℕ) (cs : List ClassAt) → Within k cs → DepthFirst is cs (visited k cs)
  is_depth_first zero [] h = stop
  is_depth_first zero (c ∷ cs) h = absurd (let d = h c (Memᴰ.head refl) in omega arith)
  is_depth_first (suc k) cs h = visit_all k (is_depth_first k) cs h

  -- the interfaces of a chain, each member's in turn
  of_chain : (k : ℕ) (cs : List ClassAt) → visited k (flat (interface_parents is) cs) ≡ flat (interfaces_up_to is (suc k)) cs
  of_chain k cs = flat_flat (λ (i : ClassAt). i ∷ interfaces_up_to is k i) (interface_parents is) cs

  of_chain_within : (k : ℕ) (c : ClassAt) → depth_up_to is (suc (suc k)) c ≤ suc k → Within k (flat (interface_parents is) (chain_up_to is (suc k) c))
  of_chain_within k c h x m =
      let d = flat_mem_is (interface_parents is) (chain_up_to is (suc k) c) x m in
      parents_within k d.0 (above_depth (suc k) (chain_below (suc k) c d.0 d.1) h) x d.2

  -- what is meant is found within a bound, where the depth is
  pub means_found : (k : ℕ) (c : ClassAt) (n : ℕ) (m : MethodAt) → depth_up_to is (suc k) c ≤ k → Means is c n m → search_up_to is k c n ≡ some m
  means_found zero c n m h r = absurd (omega arith)
  means_found (suc k) c n m h r =
      let e : chain_up_to is (suc k) c ≡ r.chain = chain_is_lem (suc k) h r.chain_is in
      let w = subst (λ (cs : List ClassAt). Within k (flat (interface_parents is) cs)) e (of_chain_within k c h) in
      let o : flat (interfaces_up_to is (suc k)) r.chain ≡ r.others = sym (of_chain k r.chain) ∙ depth_first_is k w r.others_are in
      ap (first_of (declared_at n)) (ap₂ ◌++◌ e (ap (flat (interfaces_up_to is (suc k))) e ∙ o)) ∙ r.first

  -- and what is found is meant
  pub found_means : (k : ℕ) (c : ClassAt) (n : ℕ) (m : MethodAt) (r : Class) → record_of c ≡ some r → depth_up_to is (suc k) c ≤ k →
      search_up_to is k c n ≡ some m → Means is c n m
  found_means zero c n m r t h e = absurd (omega arith)
  found_means (suc k) c n m r t h e = record {
    class = r;
    there = t;
    chain = chain_up_to is (suc k) c;
    chain_is = is_chain (suc k) c h;
    others = flat (interfaces_up_to is (suc k)) (chain_up_to is (suc k) c);
    others_are = subst (DepthFirst is (flat (interface_parents is) (chain_up_to is (suc k) c))) (of_chain k (chain_up_to is (suc k) c))
        (is_depth_first k (flat (interface_parents is) (chain_up_to is (suc k) c)) (of_chain_within k c h));
    first = e;
  }
