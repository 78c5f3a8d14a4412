-- What a method allows where it stands: its policy, the domains that this counts, the domain of its package. Assumes nothing.
use Prim.Native.Nat.{ℕ, ◌≤◌}
use mathlib.Core.Path.{◌≡◌, refl, sym, ◌∙◌, subst}
use mathlib.Core.List.{List}
use mathlib.Core.Option.{some-injective}
use Rattle.rules.specs.Bytes.{Bytes, Aid, aid}
use Rattle.rules.specs.Package.{Package, method}
use Rattle.rules.specs.Store.{Entry, store_limits}
use Rattle.rules.specs.Classes.{Installed, MethodAt}
use Rattle.rules.specs.Questions.{own_method}
use Rattle.places.specs.Reads.{Reads, Ends}
use Rattle.files.specs.Say.{AidBytes, Readable, DomainsAt, PolicyAt, MethodThere}
use Rattle.files.proofs.Walks.{domains_read}
use Rattle.policies.specs.Say.{PolicyOver}
use Rattle.policies.specs.declared.RightsPlace.{RightsPlace}
use Rattle.homes.specs.Homes.{Setting, HomeIs, own_home, file_of, format_at, aid_at, domain_place, own, stored, HomeThere}
use Rattle.homes.specs.declared.Home.{Home}
use Rattle.homes.proofs.Homes.{home_reads}
use Rattle.homes.proofs.Domains.{aid_at_lem, domain_there}
use Rattle.references.specs.Setting.{Loading, imports_of, setting_of, Judged}
use Rattle.calls.specs.Rights.{Stands, StandsThere, RightsAt, Callee}
use Rattle.calls.specs.Calls.{OwnMethod}
use Rattle.calls.specs.Maps.{asker_at, group_from, asker_from, AskerTrue, MapTrue}
use Rattle.calls.specs.declared.Asker.{Asker}
use Rattle.references.specs.Named.{GroupTrue}
use Rattle.references.specs.declared.Group.{Group}
use Rattle.references.specs.declared.Meant.{Meant}

module _ {f s : Bytes} {h : Home} {m : ℕ} where
  pub stands_home : StandsThere f s h m → HomeThere f s h
  stands_home t = (t.0, t.1, t.2, t.3, t.4.class.home, t.5.lies)

  module _ (g : Bytes) (e : g ≡ file_of f s h) where
    pub stands_reads : StandsThere f s h m → Readable g
    stands_reads t = rw e (store_limits s, t.4.class.home.pack, home_reads f s t.0 t.1 t.2 t.3.setting h t.4.class.home t.5.lies)

    pub stands_method : StandsThere f s h m → MethodThere g m
    stands_method t = rw e (store_limits s, t.4.class.home.pack.domains, (t.4.method, t.5.to, t.5.reads))

    -- the domains stand at d, the policy at i
    pub rights_at : (d i : ℕ) → DomainsAt g d → PolicyAt g m i → RightsAt f s h m (record { domains = d; policy = i })
    rights_at d i q p = (
      subst (λ (b : Bytes). DomainsAt b d) e q,
      λ end es self t x y. subst (λ (b : Bytes). PolicyAt b m i) e p (store_limits s) x.class.home.pack.domains x.method y.to y.reads,
    )

    pub rights_over : (r : RightsPlace) → RightsAt f s h m r → StandsThere f s h m → PolicyOver g r.domains r.policy
    rights_over r q t =
        let k = t.4.class.home in
        let a = domains_read q.0 (store_limits s) k.pack (home_reads f s t.0 t.1 t.2 t.3.setting h k t.5.lies) in
        let b = q.1 t.0 t.1 t.2 t.3 t.4 t.5 in
        rw e (k.pack.domains, a.0, a.1, (t.4.method.policy, b.0, b.1))

-- the bytes of the AID at a place
pub aid_is : {s r : Bytes} {i : ℕ} → Ends aid s i → AidBytes s i r → r ≡ aid_at s i
aid_is t q = q t.0 t.1 t.2 ∙ aid_at_lem t.2

-- the domain of the package at a home stands in the store: no setting need lie in the loading domain
home_domain : {f s : Bytes} {end : ℕ} {es : List Entry} {self : Installed} {h : Home} {x : Installed} (at : ℕ) → Setting f s end es self →
    HomeIs f s end es self h x → Ends aid s at → Ends aid s (domain_place h at)
home_domain at g own e = e
home_domain {f} {s} {end} {es} {self} at g (stored t) e =
    let loads : Installed = record { domain = aid_at s at; pack = self.pack } in
    let setting : Setting f s end es loads = record { stand = g.stand; size = g.size; sound = g.sound; reads = g.reads } in
    domain_there setting (stored t) (record { there = e; is = refl })

pub stands_domain : {f s : Bytes} {h : Home} {m : ℕ} (at : ℕ) → StandsThere f s h m → Ends aid s at → Ends aid s (domain_place h at)
stands_domain at t e = home_domain at t.3.setting t.5.lies e

-- the caller
module _ {f s : Bytes} {end i : ℕ} (g : OwnMethod f s end i) where
  pub caller_judged : Judged f s end
  caller_judged = (g.0, g.1, g.2)

  pub caller_stands : StandsThere f s (own_home end) i
  caller_stands = (end, g.0, g.1, imports_of g.2, own_method g.1 0 g.3.0, record { lies = own; to = g.3.1; reads = g.3.2 })

-- the caller stands there in every setting
pub caller_everywhere : {f s : Bytes} {end i : ℕ} → OwnMethod f s end i → (es : List Entry) (self : Installed) → Loading f s end es self →
    (z : MethodAt) × Stands f s end es self (own_home end) i z
caller_everywhere {f} {s} {end} {i} g es self l =
    let same : g.1.pack ≡ self.pack = some-injective _ _ (sym (setting_of g.2).reads ∙ (setting_of l).reads) in
    let reads = subst (λ (p : Package). Reads (method (format_at s f) p.domains) f i g.3.0 g.3.1) same g.3.2 in
    (own_method self 0 g.3.0, record { lies = own; to = g.3.1; reads = reads })

-- what is called
pub callee_stands : {f s : Bytes} {end : ℕ} (x : Meant) → Callee f s end x → Judged f s end → StandsThere f s x.home x.method
callee_stands {end = end} x q g =
    let z = q.1 g.0 g.1 g.2 in
    let d = z.2.declared in
    (end, g.0, g.1, imports_of g.2, z.0.means, record { lies = d.lies; to = d.method_end; reads = d.method })

-- what a walk carries, at another place
pub asker_moved : {f s : Bytes} {a : Asker} {i : ℕ} → AskerTrue f s a → AskerTrue f s (asker_at a i)
asker_moved t = record { file = t.file; domain = t.domain; loading = t.loading }

-- what is told of the place that a walk was moved to, and the table with it
pub told_at : {f s : Bytes} {x : Asker} {i : ℕ} {v : List ℕ} (a : Asker) (P : Group → Aid → ℕ → Type 0) → x ≡ asker_at a i →
    P x.group (aid_at s x.domain) x.at × MapTrue f s x.group.end (aid_at s x.domain) v →
    P a.group (aid_at s a.domain) i × MapTrue f s a.group.end (aid_at s a.domain) v
told_at {f} {s} {v = v} a P e p =
    subst (λ (y : Asker). P y.group (aid_at s y.domain) y.at × MapTrue f s y.group.end (aid_at s y.domain) v) e p

-- what is told of the file serves for every group of its references
pub group_from_lem : {f : Bytes} {n : ℕ} (g : Group) → GroupTrue f g → n ≤ 65535 → GroupTrue f (group_from g n)
group_from_lem g t l = record { stand = t.stand; count = t.count; first = l }

pub asker_from_lem : {f s : Bytes} {a : Asker} {n : ℕ} → AskerTrue f s a → n ≤ 65535 → AskerTrue f s (asker_from a n)
asker_from_lem {a = a} t l = record { file = group_from_lem a.group t.file l; domain = t.domain; loading = t.loading }
