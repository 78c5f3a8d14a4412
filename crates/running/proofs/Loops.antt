-- The loop over the methods of a class: start, turn and end. Assumes nothing.
use Prim.Native.Nat.{ℕ, ◌+◌, ◌-◌, ◌≤◌, ◌<◌}
use mathlib.Core.Path.{◌≡◌, sym, ◌∙◌, ap, subst}
use mathlib.Core.Bool.{Bool, true, false}
use mathlib.Core.List.{List}
use mathlib.Core.Option.{some}
use lib.ListN.{length, get_or}
use Rattle.rules.specs.Bytes.{Bytes, Aid, all, at, u1, counted}
use Rattle.rules.specs.Package.{most_methods, Method, Class, method}
use Rattle.rules.specs.Store.{Entry, store_limits}
use Rattle.rules.specs.Classes.{Installed, installed, ClassAt, MethodAt}
use Rattle.rules.specs.Questions.{own}
use Rattle.places.specs.Reads.{Reads, Tracks}
use Rattle.places.proofs.Steady.{steady_method}
use Rattle.places.proofs.Track.{track_start, track_ends, counted_inside}
use Rattle.places.proofs.Search.{each_hit, each_miss, each_none}
use Rattle.files.specs.Say.{AfterMethod}
use Rattle.files.specs.Say as say
use Rattle.homes.specs.Homes.{file_of, format_at, HomeIs, DomainAt}
use Rattle.homes.specs.declared.Home.{Home}
use Rattle.homes.proofs.Homes.{home_bounds}
use Rattle.classes.specs.Say.{ClassThere, MethodsIn}
use Rattle.running.specs.Say.{RunningIn, method_passes, MethodThere, MethodPasses, WalkThere, OfWalk, MethodsPass}

-- the test of a method of a class
abbrev pub passes_in : Bytes → List Entry → Installed → ℕ → ClassAt → Method → Bool
passes_in s es self b c m = method_passes (store_limits s) (installed (store_limits s) es) (own self b) (record { class = c; method = m })

-- of the methods of class n, listed at `start`, `left` are still to be read at place c, and all pass where all of these do
abbrev pub MethodsLeft : Bytes → Bytes → ℕ → ℕ → ℕ → Home → ℕ → ℕ → ℕ → ℕ → Type 0
MethodsLeft f s end d b h n start left c = OfWalk f s end d b h n λ es self x k.
    Tracks (method (format_at s (file_of f s h)) x.pack.domains) (file_of f s h)
    (counted most_methods u1 (method (format_at s (file_of f s h)) x.pack.domains)) start
    (all (passes_in s es self b (record { home = x; number = n }))) (all (passes_in s es self b (record { home = x; number = n }))) left c

-- so it is of each class whose methods are listed there
abbrev pub MethodsOn : Bytes → Bytes → ℕ → ℕ → ℕ → Home → ℕ → ℕ → ℕ → Type 0
MethodsOn f s end d b h start left c = (n : ℕ) → MethodsIn f s h n start → MethodsLeft f s end d b h n start left c

module _ (f s : Bytes) (end d b : ℕ) (h : Home) (n : ℕ) where
  unfoldable pub walk_class : WalkThere f s end d b h n → ClassThere f s h n
  walk_class t =
      let j = t.asked.running.judged in
      (end, record { entries = t.entries; self = t.self; asked = j; pack = t.pack; home = t.home; class = t.class; is = t.is })

  pub walk_bounds : WalkThere f s end d b h n → (h.from ≤ h.to) × (h.to ≤ length s)
  walk_bounds t = home_bounds f s end t.entries t.self h t.pack t.home

  module _ (start : ℕ) (q : MethodsIn f s h n start) where
    methods_of_lem : (es : List Entry) (self : Installed) → RunningIn f s end d b es self → (x : Installed) → HomeIs f s end es self h x → (k : Class) →
        at x.pack.classes n ≡ some k →
        (j : ℕ) × Reads (counted most_methods u1 (method (format_at s (file_of f s h)) x.pack.domains)) (file_of f s h) start k.methods j
    methods_of_lem es self r x o k e = q end es self r.running.judged x o k e

    -- the count is inside the file
    pub methods_inside : (g : Bytes) → g ≡ file_of f s h → WalkThere f s end d b h n → start < length g
    methods_inside g z t =
        let y = methods_of_lem t.entries t.self t.asked t.pack t.home t.class t.is in
        subst (λ (v : Bytes). start < length v) (sym z) (counted_inside (method (format_at s (file_of f s h)) t.pack.pack.domains)
        (file_of f s h) most_methods start
        t.class.methods y.0 y.1)

    pub methods_start : (g : Bytes) (m : ℕ) → g ≡ file_of f s h → m ≡ get_or g start 0 → MethodsLeft f s end d b h n start m (start + 1)
    methods_start g m z y es self r x o k e =
        let e' : m ≡ get_or (file_of f s h) start 0 = y ∙ ap (λ (v : Bytes). get_or v start 0) z in
        rw e' (track_start (method (format_at s (file_of f s h)) x.pack.domains) (file_of f s h) (all (passes_in s es self b (record { home = x; number = n })))
        most_methods start)

    module _ (left c : ℕ) (inv : MethodsLeft f s end d b h n start left c) where
      module _ (more : 0 < left) where
        -- the method at hand
        pub method_here : WalkThere f s end d b h n → (m : MethodThere f s end b h c) × DomainAt s d m.1
        method_here t =
            let y = methods_of_lem t.entries t.self t.asked t.pack t.home t.class t.is in
            let m = track_ends (method (format_at s (file_of f s h)) t.pack.pack.domains)
            (steady_method (format_at s (file_of f s h)) t.pack.pack.domains) (file_of f s h)
            (counted most_methods u1 (method (format_at s (file_of f s h)) t.pack.pack.domains)) start
            _ _ left c (inv t.entries t.self t.asked t.pack t.home t.class t.is) more (t.class.methods, y.0, y.1) in
            let o : MethodAt = record { class = record { home = t.pack; number = n }; method = m.0 } in
            ((t.entries, t.self, t.asked.running, o, record { home = t.home; ends = m.1; reads = m.2 }), t.asked.loads)

        pub file_here : (g : Bytes) → g ≡ file_of f s h → WalkThere f s end d b h n → say.MethodThere g c
        unfolding method_here
        file_here g z t =
            let m = (method_here t).0 in
            let ds : List Aid = t.pack.pack.domains in (
              store_limits s,
              ds,
              (
                m.3.method,
                m.4.ends,
                subst (λ (v : Bytes). Reads (method (format_at s v) ds) v c m.3.method m.4.ends) (sym z)
                    m.4.reads,
              ),
            )

        pub methods_hit : MethodPasses f s end d b h c false → MethodsPass f s end d b h n false
        methods_hit q es self r x o k e =
            let y = methods_of_lem es self r x o k e in
            let w = each_hit (method (format_at s (file_of f s h)) x.pack.domains) (steady_method (format_at s (file_of f s h)) x.pack.domains)
            (file_of f s h) (counted
            most_methods u1 (method (format_at s (file_of f s h)) x.pack.domains)) start left c
            (passes_in s es self b (record { home = x; number = n })) (inv es self r x o k e) more
            (λ m a p. sym (q es self r (record { class = record { home = x; number = n }; method = m }) (record { home = o; ends = a; reads = p }))) k.methods y.0 y.1 in
            sym (rw e w)

        pub methods_miss : (g : Bytes) (j rest : ℕ) → rest ≡ left - 1 → g ≡ file_of f s h → MethodPasses f s end d b h c true → AfterMethod g c j →
            MethodsLeft f s end d b h n start rest j
        methods_miss g j rest y z q a es self r x o k e =
            rw y (each_miss (method (format_at s (file_of f s h)) x.pack.domains) (steady_method (format_at s (file_of f s h)) x.pack.domains)
            (file_of f s h) (counted most_methods u1
            (method (format_at s (file_of f s h)) x.pack.domains)) start left c
            (passes_in s es self b (record { home = x; number = n })) (inv es self r x o k e) j more
            (λ m i p. sym (q es self r (record { class = record { home = x; number = n }; method = m }) (record { home = o; ends = i; reads = p })))
            (λ m i p. a (store_limits s) x.pack.domains m i (subst (λ (v : Bytes). Reads (method (format_at s v) x.pack.domains) v c m i) (sym z) p)))

      pub methods_done : left ≤ 0 → MethodsPass f s end d b h n true
      methods_done z es self r x o k e =
          let y = methods_of_lem es self r x o k e in
          let w = each_none (method (format_at s (file_of f s h)) x.pack.domains) (steady_method (format_at s (file_of f s h)) x.pack.domains)
          (file_of f s h) (counted
          most_methods u1 (method (format_at s (file_of f s h)) x.pack.domains)) start left c
          (passes_in s es self b (record { home = x; number = n })) (inv es self r x o k e) z k.methods y.0 y.1 in
          sym (rw e w)
