-- Question 19 of a call by a table of numbers: what the table tells, and what a comparison by it says. Assumes nothing.
use Prim.Native.Nat.{ℕ, zero, suc, ◌+◌, ◌*◌, ◌/◌, ◌%◌, ◌<◌}
use native.Mathlib.Omega.{arith}
use mathlib.Core.Path.{◌≡◌, refl, sym, ◌∙◌, ap, ap₂, subst}
use mathlib.Core.Bool.{Bool, ◌&&◌}
use mathlib.Core.List.{List, [], ◌∷◌, ◌++◌}
use mathlib.Core.Option.{Option, some}
use lib.ListN.{length, get_or, replicate, length-replicate, get_or-replicate}
use Rattle.rules.specs.Bytes.{Bytes, Aid, none_or, u1, aid, counted}
use Rattle.rules.specs.Package.{most_domains, Policy, Package, read_file}
use Rattle.rules.specs.Store.{Entry, store_limits}
use Rattle.rules.specs.Classes.{Installed, installed, package_numbered, meant, admits, admits_all_of, MethodAt, allows, allows_all_of}
use Rattle.rules.specs.Questions.{Named}
use Rattle.places.specs.Reads.{Reads, Ends}
use Rattle.places.proofs.Inverse.{reads_same}
use Rattle.files.specs.Say.{DomainsAt}
use Rattle.files.proofs.Walks.{domains_read}
use Rattle.policies.specs.Say.{slot_aid}
use Rattle.policies.specs.Numbers.{number_in, NumberIs}
use Rattle.policies.specs.Rows.{row_length, unknown, Tells}
use Rattle.policies.specs.declared.TwoLists.{TwoLists}
use Rattle.policies.specs.declared.RightsPlace.{RightsPlace}
use Rattle.policies.proofs.Slots.{slot_most}
use Rattle.coverage.specs.Covers.{CoversKept}
use Rattle.coverage.specs.declared.Asked.{Asked}
use Rattle.homes.specs.Homes.{HomeIs, own, own_home, file_of, aid_at, domain_place, DomainAt}
use Rattle.homes.specs.declared.Home.{Home}
use Rattle.homes.proofs.Homes.{home_reads}
use Rattle.homes.proofs.Domains.{domain_is}
use Rattle.references.specs.Setting.{Loading, imports_of, setting_of, Judged}
use Rattle.calls.specs.Maps.{listed, domains_of, rows_number, map_length, LoadingIs, MapTrue}
use Rattle.calls.specs.Rights.{Stands, RightsAt, MayCall, Callee, CalleeAllows}
use Rattle.calls.specs.declared.Asker.{Asker}
use Rattle.references.specs.declared.Meant.{Meant}

-- what stands at the place of a file's domains are its domains
domains_are : (s g : Bytes) (u : ℕ) (p : Package) → read_file (store_limits s) g ≡ some p → DomainsAt g u → (ds : List Aid) (j : ℕ) →
    Reads (counted most_domains u1 aid) g u ds j → p.domains ≡ ds
domains_are s g u p e h ds j r =
    let x = domains_read h (store_limits s) p e in
    (reads_same (counted most_domains u1 aid) g u p.domains ds x.0 j x.1 r).0

-- the number of the loading domain
pub loading_number : (f s : Bytes) (end : ℕ) → Judged f s end → (u : ℕ) → DomainsAt f u → (a : Asker) → LoadingIs f s a →
    NumberIs f u (aid_at s a.domain) (aid_at s a.domain) a.loading
loading_number f s end z u hu a e ds j rd =
    let reads = (setting_of z.2).reads in
    let are = ap listed reads ∙ domains_are s f u z.1.pack reads hu ds j rd in
    let d = aid_at s a.domain in
    e ∙ ap (λ (y : List Aid). number_in (y ++ d ∷ []) d) are

-- the lists of a caller and of what it calls, whose row is p; their policies
abbrev pub lists : RightsPlace → RightsPlace → ℕ → TwoLists
lists q r p = record { own = q.domains; other = r.domains; base = row_length * p }

abbrev pub asked : RightsPlace → RightsPlace → Asker → Asked
asked q r a = record { caller = q.policy; called = r.policy; loading = a.loading }

-- a table tells the numbers of the slots of the package of row p, which lies at a home
module _ {f s : Bytes} {end : ℕ} {es : List Entry} {self : Installed} (i : Loading f s end es self) (d : Aid) (l : self.domain ≡ d)
    (of : ℕ → Option Installed) (u : ℕ) (hu : DomainsAt f u) where
  rows_tell : (p t : ℕ) (h : Home) (y : Installed) → HomeIs f s end es self h y → of p ≡ some y → DomainsAt (file_of f s h) t → (e : Aid) → e ≡ y.domain →
      Tells (rows_number self of) f d (file_of f s h) e (record { own = u; other = t; base = row_length * p })
  rows_tell p t h y lies o ht e le = record {
    number = λ n ds j rd gs k rg w.
        let m = slot_most gs n w in
        let a : (33 * p + n) / 33 ≡ p = omega arith in
        let b : (33 * p + n) % 33 ≡ n = omega arith in
        let v = domains_are s f u self.pack (setting_of i).reads hu ds j rd in
        let z = domains_are s (file_of f s h) t y.pack (home_reads f s end es self (setting_of i) h y lies) ht gs k rg in
        let own' = ap₂ (λ (x : List Aid) (c : Aid). x ++ c ∷ []) v l in
        let other = ap₂ (λ (x : List Aid) (c : Aid). slot_aid x c n) z (sym le) in
        rw (a, b, o) (ap₂ number_in own' other);
  }

-- one call: what is called stands at m of the file at home h, whose row is p
module _ {f s : Bytes} {end : ℕ} (at : ℕ) (stands : Ends aid s at) (a : Asker) (h : Home) (p m : ℕ) (q r : RightsPlace)
    (v : RightsAt f s (own_home end) a.at q) (w : RightsAt f s h m r)
    (g d e : Bytes) (file : g ≡ file_of f s h) (loading : d ≡ aid_at s at) (lies : e ≡ aid_at s (domain_place h at))
    {x y : List ℕ} (b : Bool) (o : CoversKept f d g e (lists q r p) (asked q r a) x y b) where
  there : CoversKept f (aid_at s at) (file_of f s h) (aid_at s (domain_place h at)) (lists q r p) (asked q r a) x y b
  there = rw (← file, ← loading, ← lies) o

  pub may_call_lem : MayCall f s end (aid_at s at) a.at h m p x y b
  may_call_lem es self i l z st c sc of first second known =
      let domain : DomainAt s at self = record { there = stands; is = l } in
      let other = c.class.home in
      let own' = z.class.home in
      let ds = domains_read w.0 (store_limits s) other.pack (home_reads f s end es self (setting_of i) h other sc.lies) in
      let os = domains_read v.0 (store_limits s) own'.pack (home_reads f s end es self (setting_of i) (own_home end) own' st.lies) in
      let po = w.1 end es self (imports_of i) c sc in
      let pc = v.1 end es self (imports_of i) z st in
      let tells = rows_tell i (aid_at s at) l of q.domains v.0 p r.domains h other sc.lies second w.0 _ (sym (domain_is sc.lies domain)) in
      let tells_own = rows_tell i (aid_at s at) l of q.domains v.0 0 q.domains (own_home end) self own first v.0 _ (sym l) in
      let policies = there.holds (rows_number self of) tells tells_own known
      other.pack.domains ds.0 ds.1 c.method.policy po.0 po.1 own'.pack.domains os.0 os.1 z.method.policy pc.0 pc.1
      in
      record {
        answer = policies ∙ ap₂ (λ (u : Aid) (t : Aid). may_call u c.method.policy t z.method.policy)
            (sym (domain_is sc.lies domain)) (sym (domain_is st.lies domain));
        known = there.known (rows_number self of) tells tells_own known;
      }
    where
      -- what a policy means in domain u allows the loading domain, and all that another means in domain t
      may_call : Aid → Policy → Aid → Policy → Bool
      may_call u c t z = admits (meant u c) (aid_at s at) && admits_all_of (meant u c) (meant t z)

-- every call that calls a declaration, by a table for which the answer was given
module _ {f s : Bytes} {end : ℕ} {d : Aid} {i : ℕ} (c : Meant) where
  -- the answer of question 19, where the declaration is told
  says : (b : Bool) → ((es : List Entry) (self : Installed) → Loading f s end es self → self.domain ≡ d → (z : MethodAt) →
      Stands f s end es self (own_home end) i z → (n : Named) → Stands f s end es self c.home c.method n.means →
      (c.pack < 16 → package_numbered (installed (store_limits s) es) self c.pack ≡ some n.means.class.home) →
      b ≡ (allows n.means d && allows_all_of n.means z)) → CalleeAllows f s end d i c b
  says b h index t es self m l z st =
      let n = t es self m in
      let k = n.2.declared in
      let answer = h es self m l z st n.0 (record { lies = k.lies; to = k.method_end; reads = k.method }) n.2.numbered in
      subst (λ (y : Option Named). b ≡ none_or y (λ x. allows x.means d && allows_all_of x.means z)) (sym n.1) answer

  -- by the table of all packages
  module _ {x y : List ℕ} (b : Bool) (small : c.pack < 16) (k : MapTrue f s end d x)
      (o : MayCall f s end d i c.home c.method c.pack x y b) where
    pub callee_by_map : CalleeAllows f s end d i c b
    callee_by_map = says b λ es self m l z st n sc e.
        (o es self m l z st n.means sc (package_numbered (installed (store_limits s) es) self) refl (e small) (k.known es self m l)).answer

    pub map_kept : (caller : (es : List Entry) (self : Installed) → Loading f s end es self → (z : MethodAt) × Stands f s end es self (own_home end) i z) →
        Callee f s end c → length y ≡ length x → MapTrue f s end d y
    map_kept caller t e = record {
      size = e ∙ k.size;
      known = λ es self m l.
          let n = t.1 es self m in
          let z = caller es self m in
          let q = n.2.declared in
          (o es self m l z.0 z.1 n.0.means (record { lies = q.lies; to = q.method_end; reads = q.method })
          (package_numbered (installed (store_limits s) es) self) refl (n.2.numbered small) (k.known es self m l)).known;
    }

  -- by a table of two rows, of which nothing was known
  pub callee_apart : (x : List ℕ) {y : List ℕ} (b : Bool) → ((k : ℕ) → k < length x → get_or x k 0 ≡ unknown) →
      MayCall f s end d i c.home c.method 1 x y b → CalleeAllows f s end d i c b
  callee_apart x b none o = says b λ es self m l z st n sc e.
      (o es self m l z st n.means sc (two self n.means.class.home) refl refl (λ k i u. absurd (u (none k i)))).answer
    where
      -- the file being judged, and the package called
      two : Installed → Installed → ℕ → Option Installed
      two a b zero = some a
      two a b (suc k) = some b

-- a table of which nothing is known
pub unknowns : (m k : ℕ) → k < length {A = ℕ} (replicate m unknown) → ◌≡◌ {A = ℕ} (get_or (replicate m unknown) k 0) unknown
unknowns m k l = get_or-replicate m k unknown 0 (omega (arith, length-replicate {A = ℕ} m unknown))

pub map_none : {f s : Bytes} {end : ℕ} {d : Aid} (m : ℕ) → m ≡ map_length → MapTrue f s end d (replicate m unknown)
map_none m e = record { size = length-replicate m unknown ∙ e; known = λ es self i l k w n. absurd (n (unknowns m k w)) }

-- the number of the loading domain, found in the file's own list
pub loading_told : (f s : Bytes) (at : ℕ) (d : Aid) → d ≡ aid_at s at → (u : ℕ) → DomainsAt f u → (p : Package) → read_file (store_limits s) f ≡ some p →
    (n : ℕ) → NumberIs f u d d n → n ≡ number_in (domains_of s f ++ aid_at s at ∷ []) (aid_at s at)
loading_told f s at d w u h p e n q =
    let x = domains_read h (store_limits s) p e in
    q p.domains x.0 x.1 ∙ ap₂ (λ (y : List Aid) (z : Aid). number_in (y ++ z ∷ []) z) (sym (ap listed e)) w
