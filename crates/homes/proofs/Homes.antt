-- What a home says of the file there: it reads, it was accepted over the entries before it, its imports are found there. Assumes nothing.
use Rattle.std.specs.Prelude.{Some}
use Prim.Native.Nat.{ℕ, ◌+◌, ◌<◌, ◌≤◌}
use native.Mathlib.Omega.{arith}
use mathlib.Core.Path.{◌≡◌, sym, ◌∙◌, ap, subst}
use mathlib.Core.Bool.{◌||◌, not}
use mathlib.Core.List.{List, [], ◌∷◌, ◌++◌, append-nil, append_assoc, Memᴰ}
use mathlib.Core.Option.{Option, none, some, some-injective}
use lib.Dec.{T, ltb, eqb, eqb→eq, ltb→lt}
use lib.ListN.{length, length-append}
use borrow.Author.Tests.{ne_eqb}
use Rattle.rules.specs.Bytes.{Bytes, Aid, at, is_some, some_and}
use Rattle.rules.specs.Package.{ClassNumber, Class, read_file}
use Rattle.rules.specs.Store.{Opening, opening_limits, Entry, domain, loaded, entry_bytes, entries_bytes, first_entry, store_limits, store_opening}
use Rattle.rules.specs.Classes.{Installed, installed_by, installed, by_aid, class_named, record_of}
use Rattle.rules.specs.Questions.{q13_imports, parent_exists}
use Rattle.rules.specs.Operations.{is_package, accepted, accepted_all}
use Rattle.rules.proofs.Tests.{and_l, and_r, all_mem, all_from_zero, none_some}
use Rattle.rules.proofs.Lists.{flat_append}
use Rattle.rules.proofs.Asked.{LoadYes, load_yes, parents_yes}
use Rattle.rules.proofs.Sound.{by_aid_more}
use Rattle.rules.proofs.Step.{accepted_append}
use Rattle.store.specs.Entries.{part, Entries, FileReads, AllRead, PackageAt}
use Rattle.store.proofs.Stand.{entry_one, entries_to, entries_next}
use Rattle.store.proofs.Walk.{found_at}
use Rattle.homes.specs.Homes.{Setting, Imports, Parents, file_of, Stored, HomeIs, own, stored, FoundIs}
use Rattle.homes.specs.declared.Home.{Home}

-- the file of each accepted entry reads
pub all_read : (v : Opening) (n : ℕ) (pre es : List Entry) → T (accepted_all v n pre es) → AllRead (opening_limits v) es
all_read v n pre [] h = tt
all_read v n pre (e ∷ es) h = (one e (and_l (accepted v n pre e) _ h), all_read v n (pre ++ e ∷ []) es (and_r (accepted v n pre e) _ h))
  where
    one : (e : Entry) → T (accepted v n pre e) → FileReads (opening_limits v) e
    one (domain k a) h = tt
    one (loaded d f) h = let y = load_yes v n pre d f (eqb→eq _ 0 h) in (y.0, y.1.q11)

-- a parent that exists and is an own one has a smaller number
smaller : (is : List Installed) (y : Installed) (n : ℕ) (p : ClassNumber) → T (parent_exists is y n p) → p.pack ≡ 0 → p.class < n
smaller is y n p h z =
    let r : T (not (eqb p.pack 0) || ltb p.class n) = and_r (some_and (class_named is y p) (λ c. is_some (record_of c))) _ h in
    ltb→lt p.class n (rw z at r)

module _ (f s : Bytes) (end : ℕ) (es : List Entry) (self : Installed) where
  -- the file at a home
  pub stored_file : (h : Home) (x : Installed) → Stored s es h x → file_of f s h ≡ part s h.from h.to
  stored_file h x t = rw (ne_eqb h.from 0 (λ e. omega (arith, t.inside)))

  pub home_reads : Setting f s end es self → (h : Home) (x : Installed) → HomeIs f s end es self h x → read_file (store_limits s) (file_of f s h) ≡ some x.pack
  home_reads g _ _ own = g.reads
  home_reads g h x (stored t) = ap (read_file (store_limits s)) (stored_file h x t) ∙ t.reads

  pub home_bounds : (h : Home) (x : Installed) → HomeIs f s end es self h x → (h.from ≤ h.to) × (h.to ≤ length s)
  home_bounds _ _ own = (omega arith, omega arith)
  home_bounds h x (stored t) = (t.order, t.entry.to)

  -- its entry starts where the entries end, or before
  pub home_below : Setting f s end es self → (h : Home) (x : Installed) → HomeIs f s end es self h x → h.before ≤ end
  home_below g _ _ own = omega arith
  home_below g h x (stored t) =
      let e : Entry = loaded x.domain (part s h.from h.to) in
      let l : length (entries_bytes es) ≡ length (entries_bytes t.pre) + length (entries_bytes (e ∷ t.post)) =
      ap (λ (zs : List Entry). length (entries_bytes zs)) t.are ∙ ap length (flat_append entry_bytes t.pre (e ∷ t.post)) ∙ length-append
      (entries_bytes t.pre) (entries_bytes (e ∷ t.post)) in
      omega (arith, entries_next s (first_entry s) es end g.stand, entries_next s (first_entry s) t.pre h.before t.stand, l)

  -- a stored package was accepted over the entries before it
  pub stored_yes : (g : Setting f s end es self) (h : Home) (x : Installed) (t : Stored s es h x) → LoadYes (store_opening s) g.size t.pre x.domain
      (part s h.from h.to) x.pack
  stored_yes g h x t =
      let e : Entry = loaded x.domain (part s h.from h.to) in
      let a : T (accepted_all (store_opening s) g.size [] (t.pre ++ e ∷ t.post)) = subst
      (λ (zs : List Entry). T (accepted_all (store_opening s) g.size [] zs)) t.are g.sound in
      let b = and_r (accepted_all (store_opening s) g.size [] t.pre) _ (subst T (accepted_append (store_opening s) g.size [] t.pre (e ∷ t.post)) a) in
      let c : T (accepted (store_opening s) g.size t.pre e) = and_l (accepted (store_opening s) g.size t.pre e) _ b in
      let y = load_yes (store_opening s) g.size t.pre x.domain (part s h.from h.to) (eqb→eq _ 0 c) in
      let z : y.0 ≡ x.pack = some-injective _ _ (sym y.1.q11 ∙ t.reads) in
      subst (LoadYes (store_opening s) g.size t.pre x.domain (part s h.from h.to)) z y.1

  -- the entries before a home
  pub record Before (h : Home) (x : Installed) : Type 0 where
    pub pre : List Entry
    pub post : List Entry
    pub are : es ≡ pre ++ post
    pub stand : Entries s (first_entry s) pre h.before
    pub reads : AllRead (store_limits s) pre
    pub imports : T (q13_imports (installed (store_limits s) pre) x.pack)

  pub home_before : Imports f s end es self → (h : Home) (x : Installed) → HomeIs f s end es self h x → Before h x
  home_before i _ _ own =
      let g = i.setting in
      record {
        pre = es;
        post = [];
        are = sym (append-nil es);
        stand = g.stand;
        reads = all_read (store_opening s) g.size [] es g.sound;
        imports =
            i.imports;
      }
  home_before i h x (stored t) =
      let g = i.setting in
      let e : Entry = loaded x.domain (part s h.from h.to) in
      let a : T (accepted_all (store_opening s) g.size [] (t.pre ++ e ∷ t.post)) = subst
      (λ (zs : List Entry). T (accepted_all (store_opening s) g.size [] zs)) t.are g.sound in
      let b = and_l (accepted_all (store_opening s) g.size [] t.pre) _ (subst T (accepted_append (store_opening s) g.size [] t.pre (e ∷ t.post)) a) in
      record {
        pre = t.pre;
        post = e ∷ t.post;
        are = t.are;
        stand = t.stand;
        reads = all_read (store_opening s) g.size [] t.pre b;
        imports =
            (stored_yes g h x t).q13;
      }

  -- an import of the package at a home, found among the entries before it
  pub import_found : (h : Home) (x : Installed) (b : Before h x) (a : Aid) → Memᴰ a x.pack.imports → (i j k : ℕ) → PackageAt s b.pre a i j k →
      FoundIs f s end es self h (by_aid (installed (store_limits s) es) a) (Some (record { from = j; to = k; before = i }))
  unfolding q13_imports
  import_found h x b a m i j k p =
      let r = found_at (is_package (store_limits s) a) s (first_entry s) b.pre h.before i k b.stand p.place in
      let z = entry_one s i r.one (loaded p.home.domain (part s j k)) k k r.stands p.stands in
      let more = by_aid_more (installed (store_limits s) b.pre) (installed (store_limits s) b.post) a
      (all_mem (λ c. is_some (by_aid (installed (store_limits s) b.pre) c)) b.imports m) in
      let e : by_aid (installed (store_limits s) es) a ≡ some p.home = sym
      (more ∙ ap (λ (is : List Installed). by_aid is a) (sym (flat_append (installed_by (store_limits s)) b.pre b.post) ∙ ap
      (installed (store_limits s)) (sym b.are))) ∙ p.is in
      let are : es ≡ r.before ++ loaded p.home.domain (part s j k) ∷ (r.after ++ b.post) =
      b.are ∙ ap (λ (zs : List Entry). zs ++ b.post) (r.are ∙ ap (λ (v : Entry). r.before ++ v ∷ r.after) z.0) ∙ append_assoc r.before
      (loaded p.home.domain (part s j k) ∷ r.after) b.post in
      let t : Stored s es (record { from = j; to = k; before = i }) p.home =
      record {
        pre = r.before;
        post = r.after ++ b.post;
        are = are;
        stand = r.earlier;
        entry = p.stands;
        reads = p.reads;
        inside = p.inside;
        order = p.from;
      } in
      (p.home, e, stored t, omega (arith, (entries_to s k r.after h.before r.later).0, p.inside, p.from))

  -- an import is never missing there
  pub import_there : (h : Home) (x : Installed) (b : Before h x) (a : Aid) → Memᴰ a x.pack.imports → by_aid (installed (store_limits s) b.pre)
      a ≡ none → ⊥
  unfolding q13_imports
  import_there h x b a m e = none_absurd (by_aid (installed (store_limits s) b.pre) a) e
      (all_mem (λ c. is_some (by_aid (installed (store_limits s) b.pre) c)) b.imports m)
    where
      none_absurd : (o : Option Installed) → o ≡ none → T (is_some o) → ⊥
      none_absurd none e h = h
      none_absurd (some y) e h = none_some (sym e)

  -- an own parent has a smaller number, in the package at any home
  pub parent_smaller : Parents f s end es self → (h : Home) (x : Installed) → HomeIs f s end es self h x → (n : ℕ) (k : Class) → at x.pack.classes n ≡
      some k →
      (p : ClassNumber) → Memᴰ p k.parents → p.pack ≡ 0 → p.class < n
  parent_smaller g _ _ own n k e p m z =
      smaller (installed (store_limits s) es) self n p (all_mem _ (all_from_zero _ self.pack.classes n k g.exist e) m) z
  parent_smaller g h x (stored t) n k e p m z =
      let y = stored_yes g.imported.setting h x t in
      let q = (parents_yes (store_limits s) (installed (store_limits s) t.pre) (record { domain = x.domain; pack = x.pack }) y.inside.q14).exist in
      smaller (installed (store_limits s) t.pre) x n p (all_mem _ (all_from_zero _ x.pack.classes n k q e) m) z
