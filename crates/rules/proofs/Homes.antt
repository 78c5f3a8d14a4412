-- Where the classes that a package leads to lie: a property of the package and of every installed one holds of each of their packages; and
-- the AIDs tell a file from what is installed. Assumes nothing.
use Prim.Native.Nat.{ℕ, zero, suc}
use mathlib.Core.Path.{◌≡◌, refl, sym, subst}
use mathlib.Core.Bool.{Bool, true, false}
use mathlib.Core.List.Memᴰ
use mathlib.Core.List.{List, Memᴰ}
use mathlib.Core.Option.{some, some-injective}
use lib.Dec.{T, T_not}
use Rattle.rules.specs.Bytes.{at, is_some}
use Rattle.rules.specs.Package.{ClassNumber}
use Rattle.rules.specs.Classes.{Installed, has_aid, by_aid, package_numbered, ClassAt, record_of, class_named, parents_of}
use Rattle.rules.specs.Questions.{q12_new}
use Rattle.rules.specs.Paths.{IsOrBelow, itself, below}
use Rattle.rules.proofs.Tests.{of_true, and_then_is, find_some, flat_mem_is, list_of_mem, same_refl}
use Rattle.rules.proofs.Lists.{find_there}

module _ (is : List Installed) (P : Installed → Type 0) (each : (x : Installed) → Memᴰ x is → P x) where
  -- the package of a number
  package_home : (self : Installed) → P self → (k : ℕ) (x : Installed) → package_numbered is self k ≡ some x → P x
  package_home self r zero x e = subst P (some-injective _ _ e) r
  package_home self r (suc k) x e =
      let a = and_then_is (at self.pack.imports k) _ x e in
      each x (find_some (has_aid a.0) is x a.2).0

  -- that of a class named
  pub class_home : (self : Installed) → P self → (n : ClassNumber) (c : ClassAt) → class_named is self n ≡ some c → P c.home
  class_home self r n c e =
      let i = and_then_is (package_numbered is self n.pack) _ c e in
      subst (λ (y : ClassAt). P y.home) (some-injective _ _ i.2) (package_home self r n.pack i.0 i.1)

  -- that of a parent
  pub parent_home : (c d : ClassAt) → P c.home → Memᴰ d (parents_of is c) → P d.home
  parent_home c d h m =
      let k = list_of_mem (record_of c) _ d m in
      let n = flat_mem_is _ k.0.parents d k.2 in
      let e = list_of_mem (class_named is c.home n.0) _ d n.2 in
      let z : d ≡ e.0 = Memᴰ.eq_of_singleton e.2 in
      subst (λ (y : ClassAt). P y.home) (sym z) (class_home c.home h n.0 e.0 e.1)

  -- that of a class at or above
  pub above_home : {b x : ClassAt} → P b.home → IsOrBelow is b x → P x.home
  above_home h itself = h
  above_home h (below {b = b} {c = c} m r) = above_home (parent_home b c h m) r

-- a package has its own AID, and where question 12 says yes no installed one has it
module _ (is : List Installed) (self : Installed) where
  pub own_aid_lem : T (has_aid self.pack.aid self)
  own_aid_lem = same_refl self.pack.aid

  pub other_aid : T (q12_new is self.pack) → (y : Installed) → Memᴰ y is → has_aid self.pack.aid y ≡ false
  unfolding q12_new
  other_aid h y m = go (has_aid self.pack.aid y) refl
    where
      go : (b : Bool) → has_aid self.pack.aid y ≡ b → b ≡ false
      go false e = refl
      go true e = absurd (T_not (is_some (by_aid is self.pack.aid)) h (find_there (has_aid self.pack.aid) is y m (of_true e)))
