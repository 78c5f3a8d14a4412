-- What a reference names, step by step: its numbers and name, the class record, the declaration meant. Assumes nothing.
use Rattle.std.specs.Prelude.{Some, None}
use Rattle.std.specs.Prelude.{Option as Optional}
use Rattle.files.specs.declared.Reference.{Reference as Naming}
use Prim.Native.Nat.{ℕ, zero, suc, ◌≤◌}
use native.Mathlib.Omega.{arith}
use mathlib.Core.Path.{◌≡◌, refl, sym, ◌∙◌, ap, subst}
use mathlib.Core.Bool.{Bool, not}
use mathlib.Core.List.{List}
use mathlib.Core.Option.{Option, none, some}
use lib.ListN.{length}
use Rattle.std.specs.Prelude.{Some, None}
use Rattle.rules.specs.Bytes.{Bytes, at, ◌and_then◌}
use Rattle.rules.specs.Package.{Reference, Method, Class}
use Rattle.rules.specs.Store.{Entry, first_entry, store_limits}
use Rattle.store.proofs.Stand.{entries_to}
use Rattle.rules.specs.Classes.{Installed, installed, ClassAt, package_numbered, record_of, class_named, is_kind0, declared, MethodAt, declared_at}
use Rattle.rules.specs.Search.{search_up_to}
use Rattle.rules.specs.Questions.{Named, reference_names}
use Rattle.places.proofs.Track.{placed_at, placed_none}
use Rattle.files.specs.Say.{referenced, Readable, ReferencesAt, ReferenceNth, InterfaceIs, DeclaredPlaced}
use Rattle.files.specs.Say as say
use Rattle.files.proofs.Walks.{references_read}
use Rattle.homes.specs.Homes.{file_of, HomeIs, own, HomeThere, NumberedIs, ClassPlaced, own_home}
use Rattle.homes.specs.declared.Home.{Home}
use Rattle.homes.proofs.Homes.{home_bounds, home_below}
use Rattle.slots.specs.Slots.{SmallHome}
use Rattle.search.specs.Search.{SearchIs, DeclaredThere}
use Rattle.search.specs.declared.Sought.{Sought}
use Rattle.references.specs.Setting.{Loading, imports_of, setting_of, Judged, OfJudged}
use Rattle.references.specs.Named.{ClassThere, ClassIs, RecordThere, NamedIs, named_from, MeantIs, NumbersName, ReferenceIs}
use Rattle.references.specs.declared.Meant.{Meant}
use Rattle.references.specs.declared.NamedRecord.{NamedRecord}

-- the file being judged reads, and lies at its own home
pub judged_reads : {f s : Bytes} {end : ℕ} → Judged f s end → Readable f
judged_reads {s = s} g = (store_limits s, g.1.pack, (setting_of g.2).reads)

pub own_there : {f s : Bytes} {end : ℕ} → Judged f s end → HomeThere f s (own_home end)
own_there {end = end} g = (end, g.0, g.1, imports_of g.2, g.1, own)

-- the places of a home fit two bytes
pub there_small : {f s : Bytes} (h : Home) → HomeThere f s h → length s ≤ 65535 → SmallHome h
there_small {f} {s} h t z =
    let g = t.3.setting in
    let w = home_bounds f s t.0 t.1 t.2 h t.4 t.5 in
    let e = (entries_to s (first_entry s) t.1 t.0 g.stand).1 in
    let l = home_below f s t.0 t.1 t.2 g h t.4 t.5 in
    record { from = omega (arith, w.0, w.1); to = omega (arith, w.1); before = omega (arith, l, e) }

-- the package that a number stands for in the file being judged
module _ {f s : Bytes} {end : ℕ} where
  pub numbered_at : (p : ℕ) (h : Home) → NumberedIs f s (own_home end) p (Some h) →
      OfJudged f s end λ es self. (y : Installed) × (package_numbered (installed (store_limits s) es) self p ≡ some y) × HomeIs f s end es self h y
  numbered_at zero h q es self i = (self, refl, subst (λ (g : Home). HomeIs f s end es self g self) (same_home q) own)
    where
      same_home : Some h ≡ Some (own_home end) → own_home end ≡ h
      same_home e = cc
  numbered_at (suc p) h q es self i = let z = q end es self (imports_of i) self own in (z.0, z.1, z.2)

  pub numbered_there : (p : ℕ) (h : Home) → NumberedIs f s (own_home end) p (Some h) → Judged f s end → HomeThere f s h
  numbered_there p h q g = let z = numbered_at p h q g.0 g.1 g.2 in (end, g.0, g.1, imports_of g.2, z.0, z.2)

  -- where it stands for none no class is named
  pub numbered_none : (p c : ℕ) → NumberedIs f s (own_home end) p None → ClassIs f s end p c None
  numbered_none zero c q es self i = absurd (clash q)
    where
      clash : None ≡ Some (own_home end) → ⊥
      clash e = let z : ◌≡◌ {A = ℕ} 0 1 = cc in omega arith
  numbered_none (suc p) c q es self i = rw (q end es self (imports_of i) self own)

  -- the class named, where its record stands
  pub class_found_lem : (p c : ℕ) (h : Home) (i : ℕ) → NumberedIs f s (own_home end) p (Some h) → ClassPlaced f s h c (Some i) →
      ClassIs f s end p c (Some (record { home = h; place = i }))
  class_found_lem p c h i q r es self m =
      let z = numbered_at p h q es self m in
      let w = placed_at (r end es self (imports_of m) z.0 z.2) in
      record { pack = z.0; numbered = z.1; lies = z.2; known = w.0; is = w.2; to = w.1; reads = w.3 }

  pub class_missing : (p c : ℕ) (h : Home) → NumberedIs f s (own_home end) p (Some h) → ClassPlaced f s h c None →
      ClassIs f s end p c None
  class_missing p c h q r es self m =
      let z = numbered_at p h q es self m in
      rw z.1 (placed_none (r end es self (imports_of m) z.0 z.2))

-- a class that declares a name means its own declaration
own_declared : (is : List Installed) (k : ℕ) (c : ClassAt) (n : ℕ) (m : MethodAt) → declared_at n c ≡ some m → search_up_to is k c n ≡ some m
own_declared is zero c n m e = rw e
own_declared is (suc k) c n m e = rw e

-- what a class that is there declares by a name
declared_here : (c : ClassAt) (k : Class) (n : ℕ) (m : Method) → record_of c ≡ some k → declared k n ≡ some m →
    declared_at n c ≡ some (record { class = c; method = m })
declared_here c k n m e d = rw (e, d)

-- the record of a class that is named stands in its file
module _ {f s : Bytes} (x : Sought) (r : NamedRecord) (t : RecordThere f s x r) (g : Bytes) (e : g ≡ file_of f s x.home) where
  pub record_there : Judged f s x.end → say.ClassThere g r.place
  record_there j =
      let z = t j.0 j.1 j.2 in
      rw e (store_limits s, z.pack.pack.domains, (z.known, z.to, z.reads))

  -- whether it is of kind 0
  kind_is : (b : Bool) → InterfaceIs g r.place b → OfJudged f s x.end λ es self.
      (z : ClassThere f s x.end es self r.pack x.number x.home r.place) →
      not b ≡ is_kind0 (record { home = z.pack; number = x.number })
  kind_is b h es self m z =
      let w = subst (λ (v : Bytes). InterfaceIs v r.place b) e h (store_limits s) z.pack.pack.domains z.known z.to z.reads in
      rw z.is (ap not w)

  -- what is named by the class and the name sought
  means : (q : Optional Meant) → ((es : List Entry) (self : Installed) → Loading f s x.end es self →
      (z : ClassThere f s x.end es self r.pack x.number x.home r.place) →
      NamedIs f s x.end es self (named_from (store_limits s) (installed (store_limits s) es) (record { home = z.pack; number = x.number }) x.name) q) →
      MeantIs f s x r q
  means q h es self m y l e' =
      let z = t es self m in
      let same : z.pack ≡ y = option_same z.numbered e' in
      let is = installed (store_limits s) es in
      subst (λ (w : Installed). NamedIs f s x.end es self (named_from (store_limits s) is (record { home = w; number = x.number }) x.name) q)
      same (h es self m z)
    where
      option_same : {o : Option Installed} {a b : Installed} → o ≡ some a → o ≡ some b → a ≡ b
      option_same {a = a} {b} p q = let w : ◌≡◌ {A = Option Installed} (some a) (some b) = sym p ∙ q in cc

  -- its own declaration
  module _ (b : Bool) (h : InterfaceIs g r.place b) where
    pub own_meant : (v : ℕ) → DeclaredPlaced g r.place x.name (Some v) →
        MeantIs f s x r (Some (record { home = x.home; class = r.place; method = v; kind0 = not b; pack = r.pack }))
    own_meant v d = means (Some (record { home = x.home; class = r.place; method = v; kind0 = not b; pack = r.pack })) λ es self m z.
        let u = subst (λ (w : Bytes). DeclaredPlaced w r.place x.name (Some v)) e d in
        let w = placed_at (u (store_limits s) z.pack.pack.domains z.known z.to z.reads) in
        let c : ClassAt = record { home = z.pack; number = x.number } in
        let y : MethodAt = record { class = c; method = w.0 } in
        let here : declared_at x.name c ≡ some y = declared_here c z.known x.name w.0 z.is w.2 in
        let there : DeclaredThere f s x.end es self x.home r.place v y = record {
          lies = z.lies;
          class = z.known;
          is = z.is;
          class_end = z.to;
          stands = z.reads;
          method_end = w.1;
          method = w.3;
        } in
        let is = installed (store_limits s) es in
        let n : Named = record { class = c; means = y } in
        let found : named_from (store_limits s) is c x.name ≡ some n = rw (own_declared is (store_limits s).depth c x.name y here) in
        (n, found, record { declared = there; kind0 = kind_is b h es self m z; numbered = λ l. z.numbered })

    -- that of a class above it, or none
    pub above_meant : (h' : Home) (c m : ℕ) → SearchIs f s x (Some (record { home = h'; class = c; method = m })) →
        MeantIs f s x r (Some (record { home = h'; class = c; method = m; kind0 = not b; pack = 16 }))
    above_meant h' c m q = means (Some (record { home = h'; class = c; method = m; kind0 = not b; pack = 16 })) λ es self i z.
        let w = q es self i.judged z.pack z.lies z.known z.is in
        let k : ClassAt = record { home = z.pack; number = x.number } in (
          record { class = k; means = w.0 },
          rw w.1,
          record { declared = w.2; kind0 = kind_is b h es self i z; numbered = λ l. absurd (omega arith) },
        )

    pub none_meant : SearchIs f s x None → MeantIs f s x r None
    none_meant q = means None λ es self i z. rw (q es self i.judged z.pack z.lies z.known z.is)

-- a reference's numbers and name
abbrev pub naming : ℕ → ℕ → ℕ → Naming
naming p c n = record { pack = p; class = c; name = n }

-- a class that is not there means nothing
nothing_declared : (is : List Installed) (k : ℕ) (c : ClassAt) (n : ℕ) → record_of c ≡ none → search_up_to is k c n ≡ none
nothing_declared is zero c n e = rw e
nothing_declared is (suc k) c n e = rw e

-- the class named, and the name
module _ {f s : Bytes} {end : ℕ} (p c n : ℕ) where
  pub numbers_missing : ClassIs f s end p c None → NumbersName f s end (naming p c n) None
  numbers_missing q es self m = unnamed (class_named (installed (store_limits s) es) self (record { pack = p; class = c })) (q es self m)
    where
      is : List Installed
      is = installed (store_limits s) es

      unnamed : (o : Option ClassAt) → (o and_then record_of) ≡ none → (o and_then λ d. named_from (store_limits s) is d n) ≡ none
      unnamed none e = refl
      unnamed (some d) e = rw (nothing_declared is (store_limits s).depth d n e)

  pub numbers_named : (h : Home) (i : ℕ) → ClassIs f s end p c (Some (record { home = h; place = i })) → (q : Optional Meant) →
      MeantIs f s (record { end = end; home = h; number = c; name = n }) (record { pack = p; place = i }) q → NumbersName f s end (naming p c n) q
  numbers_named h i t q d es self m =
      let z = t es self m in
      let is = installed (store_limits s) es in
      let named' : Option Installed → Option Named = λ o.
      (o and_then λ y. some (record { home = y; number = c })) and_then λ k. named_from (store_limits s) is k n in
      subst (λ (o : Option Installed). NamedIs f s end es self (named' o) q) (sym z.numbered) (d es self m z.pack z.lies z.numbered)

-- the numbers and the name of a reference
module _ {f s : Bytes} {end : ℕ} (i k : ℕ) (a : ReferencesAt f i) where
  pub reference_is_lem : (r : Optional Naming) → ReferenceNth f i k r → OfJudged f s end λ es self. at self.pack.references k ≡ referenced r
  reference_is_lem r q es self m = let z = references_read a (store_limits s) self.pack (setting_of m).reads in sym (q self.pack.references z.0 z.1)

  pub reference_named_lem : (p c n : ℕ) → ReferenceNth f i k (Some (naming p c n)) → (r : Optional Meant) → NumbersName f s end (naming p c n) r →
      ReferenceIs f s end k r
  reference_named_lem p c n q r d es self m =
      let e = reference_is_lem (Some (naming p c n)) q es self m in
      let is = installed (store_limits s) es in
      subst (λ (o : Option Reference). NamedIs f s end es self (o and_then reference_names (store_limits s) is self) r) (sym e) (d es self m)

  pub reference_none : ReferenceNth f i k None → ReferenceIs f s end k None
  reference_none q es self m = rw (reference_is_lem None q es self m)
