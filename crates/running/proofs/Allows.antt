-- What one method allows beside another, and a method beside the one that runs. Assumes nothing.
use Prim.Native.Nat.{ℕ, ◌+◌, ◌≤◌, ◌<◌}
use native.Mathlib.Omega.{arith}
use mathlib.Core.Path.{◌≡◌, refl, sym, ◌∙◌, ap, ap₂, subst}
use mathlib.Core.Bool.{Bool, true, false, ◌||◌}
use mathlib.Core.List.{List, []}
use mathlib.Core.Option.{Option, none, some}
use lib.ListN.{length, get_or}
use Rattle.rules.specs.Bytes.{Bytes, Aid, none_or, aid}
use Rattle.rules.specs.Package.{Limits, Policy, only, item, method, policy, read_file}
use Rattle.rules.specs.Store.{Entry, store_limits}
use Rattle.rules.specs.Classes.{Installed, installed, MethodAt, Rights, every_domain, these, meant, rights, runs_up_to, admits_all_of, allows_all_of}
use Rattle.rules.specs.Questions.{own}
use Rattle.places.specs.Reads.{Reads, Ends}
use Rattle.places.proofs.Inverse.{reads_done}
use Rattle.files.proofs.Steps.{policy_in}
use Rattle.policies.proofs.Rules.{only_list}
use Rattle.files.specs.Say.{Readable, PolicyAt, NameIs, StaticIs, DomainsAt}
use Rattle.files.specs.Say as say
use Rattle.files.proofs.Walks.{domains_read}
use Rattle.policies.specs.Say.{PolicyOver, AdmitsAllOf}
use Rattle.policies.specs.declared.RightsPlace.{RightsPlace}
use Rattle.homes.specs.Homes.{Imports, file_of, format_at, aid_at, DomainAt, domain_place}
use Rattle.homes.specs.declared.Home.{Home}
use Rattle.homes.proofs.Homes.{home_reads, home_bounds}
use Rattle.homes.proofs.Domains.{domain_there, domain_is}
use Rattle.chains.specs.Say.{MethodIn, RunningThere, RunsIs}
use Rattle.running.specs.Rows.{BesideIs}
use Rattle.running.specs.Say.{BothThere, AllowsAllOf, method_passes, MethodThere, MethodPasses}
use Rattle.chains.specs.declared.MethodSpot.{MethodSpot}
use Rattle.std.specs.Prelude.{Some, None}
use Rattle.std.specs.Prelude.{Option as Optional}

-- a method in its file g
module _ (f s : Bytes) (h : Home) (i : ℕ) (g : Bytes) (z : g ≡ file_of f s h) (end : ℕ) (es : List Entry) (self : Installed) (o : MethodAt) (m : MethodIn f
    s end es self h i o) where
  file_method : Reads (method (format_at s g) o.class.home.pack.domains) g i o.method m.ends
  file_method = subst (λ (b : Bytes). Reads (method (format_at s b) o.class.home.pack.domains) b i o.method m.ends) (sym z) m.reads

  pub method_there : say.MethodThere g i
  method_there = (store_limits s, o.class.home.pack.domains, (o.method, m.ends, file_method))

  module _ (a : Imports f s end es self) where
    pub file_reads : read_file (store_limits s) g ≡ some o.class.home.pack
    file_reads = ap (read_file (store_limits s)) z ∙ home_reads f s end es self a.setting h o.class.home m.home

    pub method_file : Readable g
    method_file = (store_limits s, o.class.home.pack, file_reads)

    pub policy_over : (d p : ℕ) → DomainsAt g d → PolicyAt g i p → PolicyOver g d p
    policy_over d p q r =
        let x = domains_read q (store_limits s) o.class.home.pack file_reads in
        let y = r (store_limits s) o.class.home.pack.domains o.method m.ends file_method in
        (o.class.home.pack.domains, x.0, x.1, (o.method.policy, y.0, y.1))

module _ (f s : Bytes) (d : ℕ) (x y : MethodSpot) where
  module _ (t : BothThere f s d x y) where
    pub both_bounds : ((x.home.from ≤ x.home.to) × (x.home.to ≤ length s)) × ((y.home.from ≤ y.home.to) × (y.home.to ≤ length s))
    both_bounds = (
      home_bounds f s t.0 t.1 t.2 x.home t.5.class.home t.6.home,
      home_bounds f s t.0 t.1 t.2 y.home t.7.class.home t.8.home,
    )

    -- the domains of both stand in the store
    pub both_domains : Ends aid s (domain_place x.home d) × Ends aid s (domain_place y.home d)
    both_domains = (domain_there t.3.setting t.6.home t.4, domain_there t.3.setting t.8.home t.4)

  -- their files, the domains of these, and where their rights stand
  module _ (a b : Bytes) (za : a ≡ file_of f s x.home) (zb : b ≡ file_of f s y.home) (da db : Aid) (ya : da ≡ aid_at s (domain_place x.home d))
      (yb : db ≡ aid_at s (domain_place y.home d)) (p q : RightsPlace) (ra : DomainsAt a p.domains) (qa : PolicyAt a x.place p.policy)
      (rb : DomainsAt b q.domains) (qb : PolicyAt b y.place q.policy) where
    pub allows_is : (r : Bool) → AdmitsAllOf a p.domains da p.policy b q.domains db q.policy r → AllowsAllOf f s d x y r
    allows_is r w end es self u l m v o z =
        let ma = domains_read ra (store_limits s) m.class.home.pack (file_reads f s x.home x.place a za end es self m v u) in
        let mb = domains_read rb (store_limits s) o.class.home.pack (file_reads f s y.home y.place b zb end es self o z u) in
        let wa = qa (store_limits s) m.class.home.pack.domains m.method v.ends (file_method f s x.home x.place a za end es self m v) in
        let wb = qb (store_limits s) o.class.home.pack.domains o.method z.ends (file_method f s y.home y.place b zb end es self o z) in
        let told =
        w m.class.home.pack.domains ma.0 ma.1 m.method.policy wa.0 wa.1 o.class.home.pack.domains mb.0 mb.1
        o.method.policy wb.0 wb.1
        in
        told ∙ ap₂ (λ (e g : Aid). admits_all_of (meant e m.method.policy) (meant g o.method.policy))
        (ya ∙ sym (domain_is v.home l)) (yb ∙ sym (domain_is z.home l))

-- a method beside the one that runs for own class b and its name
passes_static : (l : Limits) (is : List Installed) (b : _) (o : MethodAt) → o.method.static ≡ true → true ≡ method_passes l is b o
passes_static l is b o e = rw e

passes_none : (l : Limits) (is : List Installed) (b : _) (o : MethodAt) → o.method.static ≡ false → runs_up_to is l.depth b o.method.name ≡ none →
    true ≡ method_passes l is b o
passes_none l is b o e n = rw (e, n)

passes_runs : (l : Limits) (is : List Installed) (b : _) (o r : MethodAt) → o.method.static ≡ false → runs_up_to is l.depth b o.method.name ≡ some r →
    allows_all_of r o ≡ method_passes l is b o
passes_runs l is b o r e n = rw (e, n)

-- a method that allows nothing
admits_nothing : (r : Rights) (e : Aid) (q : Policy) → q ≡ only [] → admits_all_of r (meant e q) ≡ true
admits_nothing every_domain e q z = refl
admits_nothing (these ds) e q z = rw z

passes_nothing : (l : Limits) (is : List Installed) (b : _) (o : MethodAt) → o.method.policy ≡ only [] → true ≡ method_passes l is b o
passes_nothing l is b o e = sym (go o.method.static (runs_up_to is l.depth b o.method.name))
  where
    go : (a : Bool) (x : Option MethodAt) → (a || none_or x (λ r. allows_all_of r o)) ≡ true
    go true x = refl
    go false none = refl
    go false (some r) = admits_nothing (rights r) o.class.home.domain o.method.policy e

-- its list is empty
list_empty : (ds : List Aid) (g : Bytes) (i : ℕ) (q : Policy) (j : ℕ) → Reads (policy ds) g i q j → get_or g i 0 ≡ 0 → q ≡ only []
list_empty ds g i q j p z =
    let o = only_list ds g i q j p (λ e. omega arith) in
    let e = reads_done (item ds) (get_or g i 0) g (i + 1) o.listed j (omega arith) o.list in
    sym o.is ∙ ap only e.0

module _ (f s : Bytes) (end b : ℕ) (h : Home) (i : ℕ) where
  pub method_bounds : MethodThere f s end b h i → (h.from ≤ h.to) × (h.to ≤ length s)
  method_bounds t = home_bounds f s end t.0 t.1 h t.3.class.home t.4.home

  pub method_running : MethodThere f s end b h i → RunningThere f s end b
  method_running t = (t.0, t.1, t.2)

  module _ (g : Bytes) (z : g ≡ file_of f s h) where
    pub here_method : MethodThere f s end b h i → say.MethodThere g i
    here_method t = method_there f s h i g z end t.0 t.1 t.3 t.4

    pub method_static : StaticIs g i true → BesideIs f s end b h i None
    method_static q es self r o m =
        passes_static (store_limits s) (installed (store_limits s) es) (own self b) o (sym (q (store_limits s) o.class.home.pack.domains o.method m.ends (file_method f s h i g z end es self o m)))

    -- it allows nothing
    pub policy_inside : MethodThere f s end b h i → (p : ℕ) → PolicyAt g i p → p < length g
    policy_inside t p q =
        let o = t.3 in
        let r = q (store_limits s) o.class.home.pack.domains o.method t.4.ends (file_method f s h i g z end t.0 t.1 o t.4) in
        policy_in (o.class.home.pack.domains, (o.method.policy, r.0, r.1))

    pub method_nothing : (p : ℕ) → PolicyAt g i p → (w : ℕ) → w ≡ get_or g p 0 → w ≡ 0 → BesideIs f s end b h i None
    method_nothing p q w v u es self r o m =
        let y = q (store_limits s) o.class.home.pack.domains o.method m.ends (file_method f s h i g z end es self o m) in
        passes_nothing (store_limits s) (installed (store_limits s) es) (own self b) o (list_empty o.class.home.pack.domains g p o.method.policy y.0 y.1 (sym v ∙ u))

    module _ (q : StaticIs g i false) (name : ℕ) (n : NameIs g i name) where
      static_not : (es : List Entry) (self : Installed) (o : MethodAt) → MethodIn f s end es self h i o → o.method.static ≡ false
      static_not es self o m = sym (q (store_limits s) o.class.home.pack.domains o.method m.ends (file_method f s h i g z end es self o m))

      name_is : (es : List Entry) (self : Installed) (o : MethodAt) → MethodIn f s end es self h i o → name ≡ o.method.name
      name_is es self o m = n (store_limits s) o.class.home.pack.domains o.method m.ends (file_method f s h i g z end es self o m)

      -- what is asked beside what runs
      pub beside_is : (r : Optional MethodSpot) → RunsIs f s end b name r → BesideIs f s end b h i r
      beside_is None w es self r o m =
          passes_none (store_limits s) (installed (store_limits s) es) (own self b) o (static_not es self o m)
          (subst (λ (v : ℕ). runs_up_to (installed (store_limits s) es) (store_limits s).depth (own self b) v ≡ none) (name_is es self o m) (w es self r))
      beside_is (Some x) w es self r o m =
          let u = w es self r in
          let runs =
          subst (λ (v : ℕ). runs_up_to (installed (store_limits s) es) (store_limits s).depth (own self b) v ≡ some u.0) (name_is es self o m) u.1
          in
          (u.0, u.2, passes_runs (store_limits s) (installed (store_limits s) es) (own self b) o u.0 (static_not es self o m) runs)

-- what is told of the method beside another, where the domain of the file being judged stands at d
module _ {f s : Bytes} {end : ℕ} (d : ℕ) {b : ℕ} {h : Home} {i : ℕ} where
  pub beside_none : BesideIs f s end b h i None → MethodPasses f s end d b h i true
  beside_none w es self r o m = w es self r.running o m

  module _ (x : MethodSpot) (w : BesideIs f s end b h i (Some x)) where
    pub beside_both : (t : MethodThere f s end b h i) → DomainAt s d t.1 → BothThere f s d x (record { home = h; place = i })
    beside_both t l =
        let u = w t.0 t.1 t.2 t.3 t.4 in
        (end, t.0, t.1, t.2.judged.parents.imported, l, u.0, u.1, t.3, t.4)

    pub beside_passes : (v : Bool) → AllowsAllOf f s d x (record { home = h; place = i }) v → MethodPasses f s end d b h i v
    beside_passes v y es self r o m =
        let u = w es self r.running o m in
        y end es self r.running.judged.parents.imported r.loads u.0 u.1 o m ∙ u.2
