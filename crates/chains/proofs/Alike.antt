-- Own classes without names of their own whose chains go on at the same stored class: what runs for them allows the same. Assumes nothing.
use Prim.Native.Nat.{ℕ, zero, suc, ◌+◌, ◌-◌, ◌<◌}
use native.Mathlib.Omega.{arith}
use mathlib.Core.Path.{◌≡◌, refl, sym, ◌∙◌, ap, subst}
use mathlib.Core.Bool.{Bool, true, false}
use mathlib.Core.List.{List}
use mathlib.Core.Logic.{◌⊎◌, inl, inr, ⊎_elim}
use mathlib.Core.Option.{none, some, some-injective}
use lib.ListN.{get_or}
use Rattle.std.specs.Prelude.{Some, None}
use Rattle.std.specs.Prelude.{Option as Optional}
use Rattle.rules.specs.Bytes.{Bytes, Aid, pick, none_or}
use Rattle.rules.specs.Package.{Method, Package, method}
use Rattle.rules.specs.Store.{Entry, store_limits}
use Rattle.rules.specs.Classes.{Installed, installed, MethodAt, meant, rights, if_implemented, runs_up_to, admits_all_of, allows_all_of}
use Rattle.rules.specs.Questions.{own}
use Rattle.rules.proofs.Lists.{same_or_not}
use Rattle.places.specs.Reads.{Reads}
use Rattle.places.proofs.Inverse.{reads_same}
use Rattle.homes.specs.Homes.{file_of, format_at, own_home, DomainAt}
use Rattle.homes.specs.declared.Home.{Home}
use Rattle.homes.proofs.Homes.{home_reads}
use Rattle.homes.proofs.Domains.{domain_is}
use Rattle.methods.specs.Table.{name_at, Has, Nameless}
use Rattle.chains.specs.Say.{Running, MethodIn, runs_at, FirstIs}
use Rattle.chains.specs.Names.{text_of, Gathered, Kept, AsStored, RunAlike}
use Rattle.chains.specs.declared.Names.{Names}
use Rattle.chains.specs.declared.MethodSpot.{MethodSpot}
use Rattle.chains.proofs.Methods.{first_own, runs_first, runs_none}

-- of the k numbers from a on one is the place of a method of name x, or none is
has_or_none : (t : Bytes) (l : List ℕ) (a x k : ℕ) → ((q : ℕ) × Has l a (a + k) q × (name_at t q ≡ x)) ⊎ Nameless t l a (a + k) x
has_or_none t l a x zero = inr (λ q has y. omega (arith, has.1, has.2))
has_or_none t l a x (suc k) = ⊎_elim before last (has_or_none t l a x k)
  where
    before : ((q : ℕ) × Has l a (a + k) q × (name_at t q ≡ x)) → ((q : ℕ) × Has l a (a + suc k) q × (name_at t q ≡ x)) ⊎ Nameless t l a (a + suc k) x
    before p = inl (p.0, (p.1.0, p.1.1, omega (arith, p.1.2), p.1.3), p.2)

    last : Nameless t l a (a + k) x → ((q : ℕ) × Has l a (a + suc k) q × (name_at t q ≡ x)) ⊎ Nameless t l a (a + suc k) x
    last nl = ⊎_elim (λ e. inl (get_or l (a + k) 0, (a + k, omega arith, omega arith, refl), e)) (λ ne. inr (other ne))
        (same_or_not (name_at t (get_or l (a + k) 0)) x)
      where
        other : (name_at t (get_or l (a + k) 0) ≡ x → ⊥) → Nameless t l a (a + suc k) x
        other ne q has y = ⊎_elim here (λ e. nl q (has.0, has.1, omega (arith, has.2, e), has.3) y) (same_or_not has.0 (a + k))
          where
            here : has.0 ≡ a + k → ⊥
            here e = ne (ap (λ (i : ℕ). name_at t (get_or l i 0)) (sym e) ∙ ap (name_at t) has.3 ∙ y)

-- what is first for a stored class and a name can be told
stored_first : (f s : Bytes) (l : List ℕ) (h : Home) (n a e : ℕ) → Gathered f s l h n None a e → (x : ℕ) → (r : Optional MethodSpot) × FirstIs f s h n x r
stored_first f s l h n a e g x = ⊎_elim hit none (subst Told within (has_or_none (text_of f s h) l a x (e - a)))
  where
    Told : ℕ → Type 0
    Told i = ((q : ℕ) × Has l a i q × (name_at (text_of f s h) q ≡ x)) ⊎ Nameless (text_of f s h) l a i x

    within : a + (e - a) ≡ e
    within = omega (arith, g.sorted.low)

    hit : ((q : ℕ) × Has l a e q × (name_at (text_of f s h) q ≡ x)) → (r : Optional MethodSpot) × FirstIs f s h n x r
    hit p =
        let u = g.hit p.0 p.1 in
        (runs_at u.0 (p.0 - u.0.from), subst (λ (y : ℕ). FirstIs f s h n y (runs_at u.0 (p.0 - u.0.from))) p.2 u.2)

    none : Nameless (text_of f s h) l a e x → (r : Optional MethodSpot) × FirstIs f s h n x r
    none nl = (None, g.rest x nl None refl)

-- whether a method, if implemented, allows all that another allows, by its domain and its policy
abbrev asked : Aid → Method → MethodAt → Bool
asked a m o = pick m.implemented (admits_all_of (meant a m.policy) (rights o)) true

asked_is : (m o : MethodAt) → none_or (if_implemented m) (λ r. allows_all_of r o) ≡ asked m.class.home.domain m.method o
asked_is m o = go m.method.implemented
  where
    go : (i : Bool) → none_or (pick i (some m) none) (λ r. allows_all_of r o) ≡ pick i (allows_all_of m o) true
    go true = refl
    go false = refl

-- two own classes in one setting
module _ (f s : Bytes) (end d b c : ℕ) (es : List Entry) (self : Installed) (p : Running f s end b es self) (q : Running f s end c es self)
    (l : DomainAt s d self) where
  -- methods that stand at one place
  same_method_lem : (h : Home) (i : ℕ) (m n : MethodAt) → MethodIn f s end es self h i m → MethodIn f s end es self h i n →
      (m.class.home.domain ≡ n.class.home.domain) × (m.method ≡ n.method)
  same_method_lem h i m n u v =
      let g = p.judged.parents.imported.setting in
      let packs : m.class.home.pack ≡ n.class.home.pack = some-injective _ _
      (sym (home_reads f s end es self g h m.class.home u.home) ∙ home_reads f s end es self g h n.class.home v.home) in
      let reads = subst (λ (k : Package). Reads (method (format_at s (file_of f s h)) k.domains) (file_of f s h) i m.method u.ends) packs u.reads in (
        domain_is u.home l ∙ sym (domain_is v.home l),
        (reads_same (method (format_at s (file_of f s h)) n.class.home.pack.domains) (file_of f s h) i m.method n.method u.ends v.ends reads
            v.reads).0,
      )

  -- what is first is told alike for both
  first_alike : (x : ℕ) (r : Optional MethodSpot) → FirstIs f s (own_home end) b x r → FirstIs f s (own_home end) c x r → (o : MethodAt) →
      none_or (runs_up_to (installed (store_limits s) es) (store_limits s).depth (own self b) x) (λ r. allows_all_of r o)
      ≡ none_or (runs_up_to (installed (store_limits s) es) (store_limits s).depth (own self c) x) (λ r. allows_all_of r o)
  first_alike x None u v o = rw (runs_none f s end b x u es self p, runs_none f s end c x v es self q)
  first_alike x (Some y) u v o =
      let m = first_own f s end b x (Some y) u es self p in
      let n = first_own f s end c x (Some y) v es self q in
      let same = same_method_lem y.home y.place m.0 n.0 m.2 n.2 in
      rw (runs_first f s end b es self p x m.0 m.1, runs_first f s end c es self q x n.0 n.1)
      (asked_is m.0 o ∙ ap (λ (a : Aid). asked a m.0.method o) same.0 ∙ ap (λ (k : Method). asked n.0.class.home.domain k o) same.1
      ∙ sym (asked_is n.0 o))

-- what runs for the own classes of two names that run alike
pub runs_alike : (f s : Bytes) (names : List ℕ) (end d : ℕ) (v w : Names) → RunAlike v w → v.end ≡ end → w.end ≡ end → AsStored f s v → AsStored f s w →
    Kept f s names w → (es : List Entry) (self : Installed) → Running f s end v.own es self → Running f s end w.own es self → DomainAt s d self →
    (x : ℕ) (o : MethodAt) →
    none_or (runs_up_to (installed (store_limits s) es) (store_limits s).depth (own self v.own) x) (λ r. allows_all_of r o)
    ≡ none_or (runs_up_to (installed (store_limits s) es) (store_limits s).depth (own self w.own) x) (λ r. allows_all_of r o)
runs_alike f s names end d v w t ev ew av aw k es self p q l x o =
    let behind = subst (λ (h : Home). 0 < h.from) t.home t.behind in
    let r = stored_first f s names w.home w.number _ _ (k behind).names x in
    let first = subst (λ (h : Home). FirstIs f s h v.number x r.0) (sym t.home)
    (subst (λ (n : ℕ). FirstIs f s w.home n x r.0) (sym t.number) r.1) in
    let a = subst (λ (e : ℕ). FirstIs f s (own_home e) v.own x r.0) ev (av t.behind t.nameless x r.0 first) in
    let b = subst (λ (e : ℕ). FirstIs f s (own_home e) w.own x r.0) ew (aw behind t.also x r.0 r.1) in
    first_alike f s end d v.own w.own es self p q l x r.0 a b o
