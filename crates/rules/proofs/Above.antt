-- What a class and a name mean is declared by that class or one above it, without a bound. Assumes nothing.
use Prim.Native.Nat.{ℕ}
use mathlib.Core.Path.{refl, subst}
use mathlib.Core.Logic.{inl, inr}
use mathlib.Core.List.Memᴰ
use mathlib.Core.List.{List, ◌++◌, Memᴰ}
use mathlib.Core.Option.{some-injective}
use Rattle.rules.specs.Classes.{Installed, ClassAt, record_of, declared, declared_at, MethodAt}
use Rattle.rules.specs.Search.{interface_parents}
use Rattle.rules.specs.Paths.{IsOrBelow, itself, below, Chain, top, up, DepthFirst, stop, visit, Means}
use Rattle.rules.proofs.Tests.{and_then_is, flat_mem_is}
use Rattle.rules.proofs.Lists.{first_of_some}
use Rattle.rules.proofs.Bounds.{kind0_parent_lem}
use Rattle.rules.proofs.Search.{below_trans, interface_parent, Found}

module _ (is : List Installed) where
  -- of a chain
  chain_above : {c : ClassAt} {cs : List ClassAt} → Chain is c cs → (x : ClassAt) → Memᴰ x cs → IsOrBelow is c x
  chain_above (top e) x m = let z = Memᴰ.eq_of_singleton m in rw z itself
  chain_above (up {c = c} {d = d} e r) x m = elim (Memᴰ.cases_cons m) [
    | inl z ↦ rw z itself
    | inr h ↦ below (kind0_parent_lem is c d e) (chain_above r x h)
  ]

  -- of interfaces and theirs
  abbrev Over : List ClassAt → ClassAt → Type 0
  Over cs x = (c : ClassAt) × Memᴰ c cs × IsOrBelow is c x

  interfaces_above : {cs xs : List ClassAt} → DepthFirst is cs xs → (x : ClassAt) → Memᴰ x xs → Over cs x
  interfaces_above stop x m = elim m [ ]
  interfaces_above (visit {c = c} {cs = cs} {xs = xs} r s) x m = elim (Memᴰ.cases_cons m) [
    | inl z ↦ (c, Memᴰ.head refl, rw z itself)
    | inr h ↦ elim (Memᴰ.append_cases xs h) [
      | inl k ↦ let i = interfaces_above r x k in (c, Memᴰ.head refl, below (interface_parent is c i.0 i.1) i.2)
      | inr k ↦ let i = interfaces_above s x k in (i.0, Memᴰ.tail i.1, i.2)
    ]
  ]

  -- of both
  searched_above : {c : ClassAt} {n : ℕ} {m : MethodAt} (r : Means is c n m) → (x : ClassAt) → Memᴰ x (r.chain ++ r.others) → IsOrBelow is c x
  searched_above r x k = elim (Memᴰ.append_cases r.chain k) [
    | inl h ↦ chain_above r.chain_is x h
    | inr h ↦ let i = interfaces_above r.others_are x h in
        let d = flat_mem_is (interface_parents is) r.chain i.0 i.1 in
        below_trans is (chain_above r.chain_is d.0 d.1) (below (interface_parent is d.0 i.0 d.2) i.2)
  ]

  pub means_above : (c : ClassAt) (n : ℕ) (m : MethodAt) → Means is c n m → Found is c n m
  means_above c n m r =
      let f = first_of_some (declared_at n) (r.chain ++ r.others) m r.first in
      let k = and_then_is (record_of f.0) _ m f.2 in
      let o = and_then_is (declared k.0 n) _ m k.2 in
      subst (Found is c n) (some-injective _ _ o.2) (record { above = searched_above r f.0 f.1; class = k.0; there = k.1; declares = o.1 })
