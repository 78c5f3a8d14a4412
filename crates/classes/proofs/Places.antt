-- A class where it stands: the places of its record and of its list of methods, and the depth of own classes. Assumes nothing.
use Rattle.std.specs.Prelude.{Some, None}
use Prim.Native.Nat.{ℕ, suc, ◌≤◌}
use mathlib.Core.Path.{◌≡◌, sym, ◌∙◌, subst}
use mathlib.Core.List.{List}
use mathlib.Core.Option.{some, some-injective}
use lib.Dec.{leb→le}
use lib.ListN.{length}
use Rattle.rules.specs.Bytes.{Bytes, at, u1, counted}
use Rattle.rules.specs.Package.{most_methods, Class, method, class}
use Rattle.rules.specs.Store.{Entry, store_limits}
use Rattle.rules.specs.Classes.{Installed, installed, depth_up_to}
use Rattle.rules.specs.Questions.{own, depth_within}
use Rattle.rules.proofs.Tests.{none_some, all_from_zero}
use Rattle.rules.proofs.Asked.{parents_yes}
use Rattle.places.specs.Reads.{Reads}
use Rattle.places.proofs.Track.{placed_at, placed_none}
use Rattle.files.specs.Say.{MethodsAt}
use Rattle.files.specs.Say as say
use Rattle.homes.specs.Homes.{file_of, format_at, own_home, HomeIs, ClassPlaced}
use Rattle.homes.specs.Homes as homes
use Rattle.homes.specs.declared.Home.{Home}
use Rattle.homes.proofs.Homes.{home_bounds}
use Rattle.classes.specs.Say.{Judged, ClassThere, MethodsIn, OwnThere, RecordAt}

module _ (f s : Bytes) (h : Home) (n : ℕ) where
  pub there_bounds : ClassThere f s h n → (h.from ≤ h.to) × (h.to ≤ length s)
  there_bounds t = let c = t.1 in home_bounds f s t.0 c.entries c.self h c.pack c.home

  -- the place of a class's record
  pub class_at : (i : ℕ) → ClassPlaced f s h n (Some i) → (end : ℕ) (es : List Entry) (self : Installed) → Judged f s end es self → (x : Installed) →
      HomeIs f s end es self h x →
      (k : Class) → at x.pack.classes n ≡ some k → (j : ℕ) × Reads (class (format_at s (file_of f s h)) x.pack.domains) (file_of f s h) i k j
  class_at i p end es self j x o k e =
      let y = placed_at (p end es self j.parents.imported x o) in
      let z : y.0 ≡ k = some-injective _ _ (sym y.2 ∙ e) in
      (y.1, subst (λ (a : Class). Reads (class (format_at s (file_of f s h)) x.pack.domains) (file_of f s h) i a y.1) z y.3)

  pub class_nowhere : (i : ℕ) → ClassPlaced f s h n None → ClassThere f s h n → RecordAt f s h n i
  class_nowhere i p t = let c = t.1 in absurd
      (none_some (sym (placed_none (p t.0 c.entries c.self c.asked.parents.imported c.pack c.home)) ∙ c.is))

  pub class_there : (g : Bytes) (i : ℕ) → g ≡ file_of f s h → ClassPlaced f s h n (Some i) → ClassThere f s h n → say.ClassThere g i
  class_there g i z p t =
      let c = t.1 in
      let y = class_at i p t.0 c.entries c.self c.asked c.pack c.home c.class c.is in (
        store_limits s,
        c.pack.pack.domains,
        (
          c.class,
          y.0,
          subst (λ (b : Bytes). Reads (class (format_at s b) c.pack.pack.domains) b i c.class
              y.0) (sym z) y.1,
        ),
      )

  -- the list of methods
  pub methods_in_lem : (g : Bytes) (i r : ℕ) → g ≡ file_of f s h → ClassPlaced f s h n (Some i) → MethodsAt g i r → MethodsIn f s h n r
  methods_in_lem g i r z p q end es self j x o k e =
      let y = class_at i p end es self j x o k e in (
        y.0,
        subst (λ (b : Bytes). Reads (counted most_methods u1 (method (format_at s b) x.pack.domains)) b r k.methods y.0) z
            (q (store_limits s) x.pack.domains k y.0 (subst (λ (b : Bytes). Reads (class (format_at s b) x.pack.domains) b i k y.0) (sym z)
            y.1)),
      )

-- own class b
module _ (f s : Bytes) (end b : ℕ) where
  -- its depth is within the limit
  pub own_depth : (es : List Entry) (self : Installed) → Judged f s end es self → (k : Class) → at self.pack.classes b ≡ some k →
      depth_up_to (installed (store_limits s) es) (suc (store_limits s).depth) (own self b) ≤ (store_limits s).depth
  own_depth es self j k e =
      leb→le (depth_up_to (installed (store_limits s) es) (suc (store_limits s).depth) (own self b)) (store_limits s).depth
      (all_from_zero (λ i k. depth_within (store_limits s) (installed (store_limits s) es) self i) self.pack.classes b k
      (parents_yes (store_limits s) (installed (store_limits s) es) self j.q14).depths e)

  pub own_class_there : OwnThere f s end b → ClassThere f s (own_home end) b
  own_class_there t = (end, record { entries = t.0; self = t.1; asked = t.2; pack = t.1; home = homes.own; class = t.3; is = t.4 })
