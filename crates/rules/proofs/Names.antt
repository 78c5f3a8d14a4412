-- What a call names and means without a bound is what the questions find, where no class that its package leads to is deeper than the limit.
-- Assumes nothing.
-- `P` holds of the package and of every installed one, and of a class there that is there the depth is within the limit.
use Prim.Native.Nat.{ℕ, suc, ◌≤◌}
use mathlib.Core.Path.{◌≡◌, subst}
use mathlib.Core.List.{List, Memᴰ}
use mathlib.Core.Option.{some, some-injective}
use Rattle.rules.specs.Bytes.{at}
use Rattle.rules.specs.Code.{Call}
use Rattle.rules.specs.Package.{Limits, Class}
use Rattle.rules.specs.Classes.{Installed, ClassAt, record_of, class_named, depth_up_to, MethodAt}
use Rattle.rules.specs.Search.{search_up_to}
use Rattle.rules.specs.Questions.{Named, call_names}
use Rattle.rules.specs.Paths.{Names}
use Rattle.rules.proofs.Tests.{and_then_is}
use Rattle.rules.proofs.Homes.{class_home}
use Rattle.rules.proofs.Search.{below_there, Found, search_found, means_found, found_means}

-- what a call means: a declaration of a class at or above the one named
pub named_is : (l : Limits) (is : List Installed) (self : Installed) (c : Call) (x : Named) → call_names l is self c ≡ some x →
    (n : ℕ) × Found is x.class n x.means
named_is l is self c x e =
    let r = and_then_is (at self.pack.references c.index) _ x e in
    let i = and_then_is (class_named is self r.0.class) _ x r.2 in
    let m = and_then_is (search_up_to is l.depth i.0 r.0.name) _ x i.2 in
    subst (λ (y : Named). (n : ℕ) × Found is y.class n y.means) (some-injective _ _ m.2)
    (r.0.name, search_found is l.depth i.0 r.0.name m.0 m.1)

module _ (l : Limits) (is : List Installed) (P : Installed → Type 0) (each : (x : Installed) → Memᴰ x is → P x)
    (depths : (x : ClassAt) (k : Class) → P x.home → record_of x ≡ some k → depth_up_to is (suc l.depth) x ≤ l.depth)
    (self : Installed) (here : P self) where
  -- what a call names and means is what the questions find
  pub names_found : (c : Call) (x : ClassAt) (t : MethodAt) → Names is self c x t → call_names l is self c ≡ some (record { class = x; means = t })
  names_found c x t r =
      let home = class_home is P each self here r.reference.class x r.class_is in
      let depth = depths x r.means.class home r.means.there in
      rw (r.reference_is, r.class_is, means_found is l.depth x r.reference.name t depth r.means)

  -- and what they find is named and meant
  pub found_names : (c : Call) (x : Named) → call_names l is self c ≡ some x → Names is self c x.class x.means
  found_names c x e =
      let r = and_then_is (at self.pack.references c.index) _ x e in
      let i = and_then_is (class_named is self r.0.class) _ x r.2 in
      let t = and_then_is (search_up_to is l.depth i.0 r.0.name) _ x i.2 in
      let f = search_found is l.depth i.0 r.0.name t.0 t.1 in
      let k = below_there is f.class f.above f.there in
      let home = class_home is P each self here r.0.class i.0 i.1 in
      let means = found_means is l.depth i.0 r.0.name t.0 k.0 k.1 (depths i.0 k.0 home k.1) t.1 in
      subst (λ (y : Named). Names is self c y.class y.means) (some-injective _ _ t.2)
      (record { reference = r.0; reference_is = r.1; class_is = i.1; means = means })
