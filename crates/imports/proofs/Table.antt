-- The table of the imports' places while it is filled, and what it says in the end. Assumes nothing.
use Rattle.std.specs.Prelude.{Some, None}
use Prim.Native.Nat.{ℕ, suc, ◌+◌, ◌≤◌, ◌<◌}
use native.Mathlib.Omega.{arith}
use mathlib.Core.Path.{◌≡◌, sym, ◌∙◌, ap, subst, subst⁻¹}
use mathlib.Core.Bool.{Bool, true, false}
use mathlib.Core.List.{List, [], ◌∷◌, append-nil}
use mathlib.Core.Logic.{◌⊎◌, inl, inr}
use mathlib.Core.Option.{Option, some, some-injective}
use lib.Dec.{T}
use lib.ListN.{length, get_or, set, length-set}
use lib.Seq.{get_or-set_same, get_or-set_other}
use Rattle.rules.specs.Bytes.{Bytes, Aid, pick, at, is_some}
use Rattle.rules.specs.Package.{Limits}
use Rattle.rules.specs.Store.{Entry, entry_bytes, first_entry, store_limits, store_opening}
use Rattle.rules.specs.Classes.{Installed, installed, by_aid, package_numbered}
use Rattle.rules.specs.Questions.{q13_imports}
use Rattle.rules.specs.Operations.{is_package}
use Rattle.rules.specs.Places.{place_from}
use Rattle.rules.proofs.Tests.{none_some}
use Rattle.rules.proofs.Lists.{at_mem, at_below, at_there, same_or_not}
use Rattle.files.specs.Say.{ImportsAt}
use Rattle.store.specs.Entries.{place_of}
use Rattle.homes.specs.Homes.{Setting, Imports, own_home, home_of, FoundIs, HomeSays}
use Rattle.homes.specs.Found.{places_length, home_at, ImportPlaces}
use Rattle.homes.specs.declared.Home.{Home}
use Rattle.homes.proofs.Homes.{all_read, Before, import_found}
use Rattle.homes.proofs.Places.{entry_home}
use Rattle.imports.specs.Say.{SettingThere, OfSetting, ImportsIs, ImportHomeIs}
use Rattle.imports.proofs.Imports.{every, one_not, imports_count}

-- the place of an entry that holds the package with an AID
place_is : (l : Limits) (a : Aid) (i : ℕ) (es : List Entry) (j k : ℕ) → place_of (is_package l a) i es ≡ some (j, k) → place_from l a i es ≡ some j
place_is l a i [] j k h = absurd (none_some h)
place_is l a i (e ∷ es) j k h = go (is_package l a e) (place_is l a (i + length (entry_bytes e)) es j k) h
  where
    go : {o : Option (ℕ × ℕ)} {p : Option ℕ} (b : Bool) → (o ≡ some (j, k) → p ≡ some j) → pick b (some (i, i + length (entry_bytes e))) o ≡ some (j, k) →
        pick b (some i) p ≡ some j
    go true q h = ap (λ (z : ℕ × ℕ). some z.0) (some-injective _ _ h)
    go false q h = q h

module _ (f s : Bytes) (end : ℕ) where
  -- the places of the first k imports stand in the table, and 0 behind them
  pub record Filled (k : ℕ) (t : List ℕ) : Type 0 where
    pub size : length t ≡ places_length
    pub homes : OfSetting f s end λ es self. (i : ℕ) → i < k → (a : Aid) → at self.pack.imports i ≡ some a → HomeSays s es a (Some (home_at s t i))
    pub past : (i : ℕ) → k ≤ i → get_or t i 0 ≡ 0

  pub filled_start : (t : List ℕ) → length t ≡ places_length → ((i : ℕ) → get_or t i 0 ≡ 0) → Filled 0 t
  filled_start t e z = record { size = e; homes = λ es self g i b. absurd (omega arith); past = λ i l. z i }

  -- the home of an import is that of its place, which fits two bytes
  home_placed : {es : List Entry} {a : Aid} (h : Home) → HomeSays s es a (Some h) → h ≡ home_of s h.before
  home_placed h p = entry_home s h.before h.from h.to p.home.domain p.stands p.from

  pub place_small : (k i : ℕ) (h : Home) → SettingThere f s end → ImportsAt f i → k < get_or f i 0 → ImportHomeIs f s end k (Some h) → length s ≤ 65535 →
      h.before ≤ 65535
  place_small k i h t a b p small =
      let n = imports_count f s end i a t.0 t.1 t.2 in
      let x = at_there t.1.pack.imports k (omega (arith, n)) in
      let m = p t.0 t.1 t.2 x.0 x.1 in
      omega (arith, m.inside, m.from, m.to)

  pub filled_more : (k : ℕ) (t : List ℕ) (h : Home) → Filled k t → k < places_length → ImportHomeIs f s end k (Some h) → Filled (k + 1) (set t k h.before)
  filled_more k t h q b p = record {
    size = length-set t k h.before ∙ q.size;
    homes = λ es self g i c a n. home es self g i c a n (same_or_not i k);
    past = λ i l. get_or-set_other t k i h.before 0 (λ e. omega arith) ∙ q.past i (omega arith);
  }
    where
      home : (es : List Entry) (self : Installed) → Setting f s end es self → (i : ℕ) → i < k + 1 → (a : Aid) → at self.pack.imports i ≡ some a →
          (i ≡ k) ⊎ (i ≡ k → ⊥) → HomeSays s es a (Some (home_at s (set t k h.before) i))
      home es self g i c a n (inl d) =
          let here = p es self g a (rw (← d) n) in
          let place : get_or (set t k h.before) i 0 ≡ h.before = rw d (get_or-set_same t k h.before 0 (omega (arith, q.size))) in
          subst (λ (v : Home). HomeSays s es a (Some v)) (home_placed h here ∙ ap (home_of s) (sym place)) here
      home es self g i c a n (inr d) =
          subst⁻¹ (λ (v : ℕ). HomeSays s es a (Some (home_of s v))) (get_or-set_other t k i h.before 0 d) (q.homes es self g i (omega (arith, d)) a n)

  -- one is missing
  pub missing : (k i : ℕ) → ImportsAt f i → k < get_or f i 0 → ImportHomeIs f s end k None → ImportsIs f s end false
  unfolding q13_imports
  missing k i h b p es self g =
      let n = imports_count f s end i h es self g in
      let x = at_there self.pack.imports k (omega (arith, n)) in
      let m = p es self g x.0 x.1 in
      sym (one_not (λ a. is_some (by_aid (installed (store_limits s) es) a)) self.pack.imports k x.0 x.1 (ap is_some m))

  -- a question that was answered no is not answered yes
  pub no_places : (t : List ℕ) → length t ≡ places_length → ImportsIs f s end false → ImportPlaces f s end t
  no_places t e p = record {
    size = e;
    places = λ es self i k a b. absurd (never es self i);
    found = λ es self i k b. absurd (never es self i);
    past = λ es self i k b. absurd (never es self i);
  }
    where
      never : (es : List Entry) (self : Installed) → Imports f s end es self → ⊥
      never es self i = subst T (sym (p es self i.setting)) i.imports

  -- all are there
  module _ (k i : ℕ) (t : List ℕ) (h : ImportsAt f i) (b : k ≡ get_or f i 0) (q : Filled k t) where
    pub all_there : ImportsIs f s end true
    unfolding q13_imports
    all_there es self g = sym (every (λ a. is_some (by_aid (installed (store_limits s) es) a)) self.pack.imports λ j a e.
        ap is_some (q.homes es self g j (omega (arith, b, imports_count f s end i h es self g, at_below self.pack.imports j a e)) a e).is)

    pub places_found : ImportPlaces f s end t
    places_found = record {
      size = q.size;
      places = λ es self g j a e. place_is (store_limits s) a (first_entry s) es _ _ (q.homes es self g.setting j (counted es self g j a e) a e).place;
      found = found;
      past = λ es self g j l. q.past j (omega (arith, b, imports_count f s end i h es self g.setting));
    }
      where
        counted : (es : List Entry) (self : Installed) → Imports f s end es self → (j : ℕ) (a : Aid) → at self.pack.imports j ≡ some a → j < k
        counted es self g j a e = omega (arith, b, imports_count f s end i h es self g.setting, at_below self.pack.imports j a e)

        found : (es : List Entry) (self : Installed) → Imports f s end es self → (j : ℕ) → j < length self.pack.imports →
            FoundIs f s end es self (own_home end) (package_numbered (installed (store_limits s) es) self (suc j)) (Some (home_at s t j))
        found es self g j c =
            let x = at_there self.pack.imports j c in
            let m = at_mem self.pack.imports j x.0 x.1 in
            let d : Before f s end es self (own_home end) self =
            record {
              pre = es;
              post = [];
              are = sym (append-nil es);
              stand = g.setting.stand;
              reads = all_read (store_opening s) g.setting.size [] es
                  g.setting.sound;
              imports = g.imports;
            } in
            let v = home_at s t j in
            let p = q.homes es self g.setting j (omega (arith, b, imports_count f s end i h es self g.setting)) x.0 x.1 in
            let o : package_numbered (installed (store_limits s) es) self (suc j) ≡ by_aid (installed (store_limits s) es) x.0 = rw x.1 in
            subst⁻¹ (λ (y : Option Installed). FoundIs f s end es self (own_home end) y (Some v)) o
            (import_found f s end es self (own_home end) self d x.0 m v.before v.from v.to p)
