-- The classes that a package leads to, their depths, what runs for them and what the search finds from them depend on the installed packages
-- only at those that it reaches through imports. Assumes nothing.
-- `R` holds of the packages reached; the two lists agree at their imports, and what is found there is reached.
use Prim.Native.Nat.{ℕ, zero, suc}
use mathlib.Core.Path.{◌≡◌, refl, sym, ◌∙◌, ap, subst}
use mathlib.Core.List.Memᴰ
use mathlib.Core.List.{List, [], ◌∷◌, Memᴰ}
use mathlib.Core.Option.{Option, some, some-injective}
use Rattle.rules.specs.Bytes.{Aid, at, find, or_else, ◌and_then◌, list_of, flat}
use Rattle.rules.specs.Package.{ClassNumber}
use Rattle.rules.specs.Classes.{Installed, by_aid, package_numbered, ClassAt, record_of, class_named, parents_named, parents_of, greatest, depth_up_to, ancestors_up_to, is_kind0, kind0_parent, declared_instance, MethodAt, method_in, first_instance, runs_up_to}
use Rattle.rules.specs.Search.{search_up_to}
use Rattle.rules.proofs.Tests.{flat_mem_is, list_of_mem, and_then_is, find_some}
use Rattle.rules.proofs.Lists.{list_of_cong, greatest_cong, flat_cong, at_mem, and_then_cong}
use Rattle.rules.proofs.SearchBy.{search_by_lem}

module _ (is js : List Installed) (R : Installed → Type 0)
    (agree : (x : Installed) → R x → (a : Aid) → Memᴰ a x.pack.imports → by_aid is a ≡ by_aid js a)
    (closed : (x : Installed) → R x → (a : Aid) → Memᴰ a x.pack.imports → (y : Installed) → by_aid is a ≡ some y → R y) where
  package_numbered_agree : (x : Installed) → R x → (k : ℕ) → package_numbered is x k ≡ package_numbered js x k
  package_numbered_agree x r zero = refl
  package_numbered_agree x r (suc k) = and_then_cong (at x.pack.imports k) _ _ (λ a e. agree x r a (at_mem x.pack.imports k a e))

  package_numbered_reached : (x : Installed) → R x → (k : ℕ) (y : Installed) → package_numbered is x k ≡ some y → R y
  package_numbered_reached x r zero y e = subst R (some-injective _ _ e) r
  package_numbered_reached x r (suc k) y e =
      let a = and_then_is (at x.pack.imports k) _ y e in
      closed x r a.0 (at_mem x.pack.imports k a.0 a.1) y a.2

  pub class_named_agree : (x : Installed) → R x → (n : ClassNumber) → class_named is x n ≡ class_named js x n
  class_named_agree x r n = ap (λ (o : Option Installed). o and_then λ i. some (record { home = i; number = n.class })) (package_numbered_agree x r n.pack)

  pub class_named_reached : (x : Installed) → R x → (n : ClassNumber) (c : ClassAt) → class_named is x n ≡ some c → R c.home
  class_named_reached x r n c e =
      let i = and_then_is (package_numbered is x n.pack) _ c e in
      subst R (ap (λ (y : ClassAt). y.home) (some-injective _ _ i.2)) (package_numbered_reached x r n.pack i.0 i.1)

  parents_named_agree : (x : Installed) → R x → (ns : List ClassNumber) → parents_named is x ns ≡ parents_named js x ns
  parents_named_agree x r ns = flat_cong _ _ ns (λ n m. ap (λ (o : Option ClassAt). list_of o (λ c. c ∷ [])) (class_named_agree x r n))

  pub parents_of_agree : (c : ClassAt) → R c.home → parents_of is c ≡ parents_of js c
  parents_of_agree c r = list_of_cong (record_of c) _ _ (λ k e. parents_named_agree c.home r k.parents)

  -- a parent of a class that is reached is reached
  pub parent_reached : (c : ClassAt) → R c.home → (d : ClassAt) → Memᴰ d (parents_of is c) → R d.home
  parent_reached c r d m =
      let k = list_of_mem (record_of c) _ d m in
      let n = flat_mem_is _ k.0.parents d k.2 in
      let e = list_of_mem (class_named is c.home n.0) _ d n.2 in
      let z : d ≡ e.0 = Memᴰ.eq_of_singleton e.2 in
      subst (λ (y : ClassAt). R y.home) (sym z) (class_named_reached c.home r n.0 e.0 e.1)

  pub depth_agree : (k : ℕ) (c : ClassAt) → R c.home → depth_up_to is k c ≡ depth_up_to js k c
  depth_agree zero c r = refl
  depth_agree (suc k) c r =
      let h = greatest_cong (depth_up_to is k) (depth_up_to js k) (parents_of is c) (λ d m. depth_agree k d (parent_reached c r d m)) in
      ap suc (h ∙ ap (greatest (depth_up_to js k)) (parents_of_agree c r))

  pub ancestors_agree : (k : ℕ) (c : ClassAt) → R c.home → ancestors_up_to is k c ≡ ancestors_up_to js k c
  ancestors_agree zero c r = refl
  ancestors_agree (suc k) c r =
      let h = flat_cong (ancestors_up_to is k) (ancestors_up_to js k) (parents_of is c) (λ d m. ancestors_agree k d (parent_reached c r d m)) in
      ap (λ (t : List ClassAt). c ∷ t) (h ∙ ap (flat (ancestors_up_to js k)) (parents_of_agree c r))

  kind0_parent_agree : (c : ClassAt) → R c.home → kind0_parent is c ≡ kind0_parent js c
  kind0_parent_agree c r = ap (find is_kind0) (parents_of_agree c r)

  first_agree : (k : ℕ) (c : ClassAt) (n : ℕ) → R c.home → first_instance is k c n ≡ first_instance js k c n
  first_agree zero c n r = refl
  first_agree (suc k) c n r =
      let up = and_then_cong (kind0_parent is c) (λ d. first_instance is k d n) (λ d. first_instance js k d n)
      (λ d e. first_agree k d n (parent_reached c r d (find_some is_kind0 (parents_of is c) d e).0)) in
      let next = up ∙ ap (λ (o : Option ClassAt). o and_then λ d. first_instance js k d n) (kind0_parent_agree c r) in
      ap (λ (t : Option MethodAt). record_of c and_then λ x. or_else (method_in c (declared_instance x n)) t) next

  pub runs_agree : (k : ℕ) (c : ClassAt) (n : ℕ) → R c.home → runs_up_to is k c n ≡ runs_up_to js k c n
  runs_agree k c n r = rw (first_agree k c n r)

  -- what the search finds
  pub search_agree : (k : ℕ) (c : ClassAt) (n : ℕ) → R c.home → search_up_to is k c n ≡ search_up_to js k c n
  search_agree = search_by_lem (parents_of is) (parents_of js) (λ c. R c.home) parents_of_agree parent_reached
