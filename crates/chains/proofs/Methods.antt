-- Methods where they stand: the first of a name, the one that runs, and what it allows. Assumes nothing.
use Prim.Native.Nat.{ℕ, ◌≤◌}
use lib.ListN.{length}
use mathlib.Core.Path.{◌≡◌, refl, sym, ◌∙◌, ap, subst}
use mathlib.Core.Bool.{Bool, true, false, not}
use mathlib.Core.List.{List}
use mathlib.Core.Option.{Option, none, some, some-injective}
use Rattle.rules.specs.Bytes.{Bytes, Aid, at}
use Rattle.rules.specs.Package.{Class, method, class}
use Rattle.rules.specs.Store.{Entry, store_limits}
use Rattle.rules.specs.Classes.{Installed, installed, ClassAt, record_of, is_kind0, kind0_parent, declared_instance, MethodAt, first_instance, if_implemented, runs_up_to}
use Rattle.rules.specs.Questions.{own}
use Rattle.rules.specs.Paths.{First, declares, inherits}
use Rattle.rules.proofs.Tests.{is_true, none_some, some_and_is}
use Rattle.rules.proofs.Bounds.{first_is, is_first}
use Rattle.places.specs.Reads.{Reads, Placed}
use Rattle.places.proofs.Track.{placed_at, placed_none}
use Rattle.files.specs.Say.{ImplementedIs, InstancePlaced}
use Rattle.files.specs.Say as say
use Rattle.std.specs.Prelude.{Some, None}
use Rattle.std.specs.Prelude.{Option as Optional}
use Rattle.std.specs.Prelude.{ℕ}
use Rattle.fields.specs.Told.{told}
use Rattle.homes.specs.Homes.{file_of, format_at, own_home, ClassPlaced}
use Rattle.homes.specs.Homes as homes
use Rattle.homes.specs.declared.Home.{Home}
use Rattle.homes.proofs.Homes.{home_bounds}
use Rattle.classes.specs.Say.{ClassThere, Kind0ParentIs}
use Rattle.classes.specs.declared.ClassSpot.{ClassSpot}
use Rattle.classes.proofs.Places.{class_at, own_depth}
use Rattle.chains.specs.Say.{Running, InstanceAt, runs_at, FirstFound, FirstIs, RunningThere, RunsIs}
use Rattle.chains.specs.declared.MethodSpot.{MethodSpot}

module _ (f s : Bytes) (h : Home) (n : ℕ) where
  -- the non-static method of a name
  pub instance_is : (g : Bytes) (i name : ℕ) (r : Optional ℕ) → g ≡ file_of f s h → ClassPlaced f s h n (Some i) → InstancePlaced g i name r → InstanceAt f s
      h n name r
  instance_is g i name r z p q end es self j x o k e =
      let y = class_at f s h n i p end es self j x o k e in
      subst (λ (b : Bytes). Placed (method (format_at s b) x.pack.domains) b (declared_instance k name) (told r)) z
      (q (store_limits s) x.pack.domains k y.0 (subst (λ (b : Bytes). Reads (class (format_at s b) x.pack.domains) b i k y.0) (sym z) y.1))

  -- the first method of a name: the class declares it
  pub first_here : (name i : ℕ) → InstanceAt f s h n name (Some i) → FirstIs f s h n name (runs_at h i)
  first_here name i p end es self j x o k e =
      let y = placed_at (p end es self j x o k e) in
      (record { class = record { home = x; number = n }; method = y.0 }, declares k y.0 e y.2, record { home = o; ends = y.1; reads = y.3 })

  -- or its kind-0 parent has it
  module _ (name : ℕ) (p : InstanceAt f s h n name None) where
    first_up : (is : List Installed) (c : ClassAt) (k : Class) → record_of c ≡ some k → declared_instance k name ≡ none → (d : ClassAt) → kind0_parent is c ≡
        some d →
        (m : MethodAt) → First is c name m → First is d name m
    first_up is _ k e i d q m (declares k' o e' i') =
        let z : k' ≡ k = some-injective _ _ (sym e' ∙ e) in
        absurd (none_some (sym i ∙ ap (λ (a : Class). declared_instance a name) (sym z) ∙ i'))
    first_up is c k e i d q m (inherits k' d' e' i' q' r) = let z : d' ≡ d = some-injective _ _ (sym q' ∙ q) in subst
        (λ (a : ClassAt). First is a name m) z r

    first_not : (is : List Installed) (c : ClassAt) (k : Class) → record_of c ≡ some k → declared_instance k name ≡ none → kind0_parent is c ≡ none →
        (m : MethodAt) → First is c name m → ⊥
    first_not is _ k e i q m (declares k' o e' i') =
        let z : k' ≡ k = some-injective _ _ (sym e' ∙ e) in
        none_some (sym i ∙ ap (λ (a : Class). declared_instance a name) (sym z) ∙ i')
    first_not is c k e i q m (inherits k' d' e' i' q' r) = none_some (sym q ∙ q')

    pub first_above : (d : ClassSpot) (r : Optional MethodSpot) → Kind0ParentIs f s h n (Some d) → FirstIs f s d.home d.number name r → FirstIs f s h n name r
    first_above d r q t end es self j x o k e =
        let u = q end es self j x o k e in
        go r (t end es self j u.0 u.1 u.3 u.4) (placed_none (p end es self j x o k e)) u.2
      where
        go : (r : Optional MethodSpot) {y : Installed} → FirstFound f s end es self (record { home = y; number = d.number }) name r → declared_instance k name ≡ none →
            kind0_parent (installed (store_limits s) es) (record { home = x; number = n }) ≡ some (record { home = y; number = d.number }) → FirstFound f s
            end es self (record { home = x; number = n }) name r
        go (Some y) v w z = (v.0, inherits k _ e w z v.1, v.2)
        go None v w z = λ m first. v m (first_up (installed (store_limits s) es) (record { home = x; number = n }) k e w _ z m first)

    pub first_nowhere : Kind0ParentIs f s h n None → FirstIs f s h n name None
    first_nowhere q end es self j x o k e m first =
        first_not (installed (store_limits s) es) (record { home = x; number = n }) k e (placed_none (p end es self j x o k e)) (q end es self j x o k e) m first

-- own class b
module _ (f s : Bytes) (end b : ℕ) where
  -- its record
  pub own_class : (es : List Entry) (self : Installed) → Running f s end b es self → (k : Class) × (at self.pack.classes b ≡ some k)
  own_class es self r = let y = some_and_is (record_of (own self b)) (λ k. not k.interface) r.kind0 in (y.0, y.1)

  pub own_there : RunningThere f s end b → ClassThere f s (own_home end) b
  own_there t =
      let y = own_class t.0 t.1 t.2 in
      (end, record { entries = t.0; self = t.1; asked = t.2.judged; pack = t.1; home = homes.own; class = y.0; is = y.1 })

  -- what runs, by the first of the name
  module _ (es : List Entry) (self : Installed) (r : Running f s end b es self) (name : ℕ) where
    pub runs_first : (o : MethodAt) → First (installed (store_limits s) es) (own self b) name o → runs_up_to (installed (store_limits s) es)
        (store_limits s).depth (own self b) name ≡ if_implemented o
    runs_first o q =
        let y = own_class es self r in
        let z : is_kind0 (own self b) ≡ true = is_true (is_kind0 (own self b)) r.kind0 in
        rw (z, is_first (installed (store_limits s) es) (store_limits s).depth (own self b) name o (own_depth f s end b es self r.judged y.0 y.1) q)

    runs_never : ((o : MethodAt) → First (installed (store_limits s) es) (own self b) name o → ⊥) → runs_up_to (installed (store_limits s) es)
        (store_limits s).depth (own self b) name ≡ none
    runs_never q = go (first_instance (installed (store_limits s) es) (store_limits s).depth (own self b) name) refl
      where
        go : (o : Option MethodAt) → first_instance (installed (store_limits s) es) (store_limits s).depth (own self b) name ≡ o → runs_up_to
            (installed (store_limits s) es) (store_limits s).depth (own self b) name ≡ none
        go none e = let z : is_kind0 (own self b) ≡ true = is_true (is_kind0 (own self b)) r.kind0 in rw (z, e)
        go (some m) e = absurd (q m (first_is (installed (store_limits s) es) (store_limits s).depth (own self b) name m e))

  module _ (name : ℕ) where
    pub first_own : (r : Optional MethodSpot) → FirstIs f s (own_home end) b name r → (es : List Entry) (self : Installed) → Running f s end b es self → FirstFound f s
        end es self (own self b) name r
    first_own r p es self q = let y = own_class es self q in p end es self q.judged self homes.own y.0 y.1

    pub runs_none : FirstIs f s (own_home end) b name None → RunsIs f s end b name None
    runs_none p es self q = runs_never es self q name (first_own None p es self q)

    module _ (h : Home) (i : ℕ) (p : FirstIs f s (own_home end) b name (runs_at h i)) where
      pub first_bounds : RunningThere f s end b → (h.from ≤ h.to) × (h.to ≤ length s)
      first_bounds t = let u = first_own (runs_at h i) p t.0 t.1 t.2 in home_bounds f s end t.0 t.1 h u.0.class.home u.2.home

      module _ (g : Bytes) (z : g ≡ file_of f s h) where
        pub first_method : RunningThere f s end b → say.MethodThere g i
        first_method t =
            let u = first_own (runs_at h i) p t.0 t.1 t.2 in
            let d : List Aid = u.0.class.home.pack.domains in (
              store_limits s,
              d,
              (
                u.0.method,
                u.2.ends,
                subst (λ (y : Bytes). Reads (method (format_at s y) d) y i u.0.method u.2.ends) (sym z)
                    u.2.reads,
              ),
            )

        -- the first is implemented
        implemented_is : (b' : Bool) → ImplementedIs g i b' → (es : List Entry) (self : Installed) (q : Running f s end b es self) → b' ≡
            (first_own (runs_at h i) p es self q).0.method.implemented
        implemented_is b' y es self q =
            let u = first_own (runs_at h i) p es self q in
            let d : List Aid = u.0.class.home.pack.domains in
            y (store_limits s) d u.0.method u.2.ends (subst (λ (t : Bytes). Reads (method (format_at s t) d) t i u.0.method u.2.ends)
            (sym z) u.2.reads)

        pub runs_this : ImplementedIs g i true → RunsIs f s end b name (runs_at h i)
        runs_this y es self q =
            let u = first_own (runs_at h i) p es self q in
            (u.0, runs_first es self q name u.0 u.1 ∙ given u.0 (sym (implemented_is true y es self q)), u.2)
          where
            given : (o : MethodAt) → o.method.implemented ≡ true → if_implemented o ≡ some o
            given o e = rw e

        pub runs_not : ImplementedIs g i false → RunsIs f s end b name None
        runs_not y es self q =
            let u = first_own (runs_at h i) p es self q in
            runs_first es self q name u.0 u.1 ∙ given u.0 (sym (implemented_is false y es self q))
          where
            given : (o : MethodAt) → o.method.implemented ≡ false → if_implemented o ≡ none
            given o e = rw e
