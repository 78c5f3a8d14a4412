-- The questions about domains and packages, asked of a store's entries by their places. Assumes nothing.
use Prim.Native.Nat.{ℕ, ◌+◌, ◌≤◌}
use native.Mathlib.Omega.{arith}
use mathlib.Core.Path.{◌≡◌, refl, sym, ◌∙◌, ap, ap₂, subst}
use mathlib.Core.Bool.{Bool, true, false, ◌||◌, ◌&&◌, not}
use mathlib.Core.List.{List, [], ◌∷◌, ◌++◌, append-nil}
use mathlib.Core.Option.{Option, none, some}
use lib.Dec.{T, leb, leb→le}
use lib.ListN.{length, length-append}
use borrow.Author.Tests.{le-leb}
use Rattle.rules.specs.Bytes.{Bytes, Aid, within, pick, any, all, is_some, some_and, same}
use Rattle.rules.specs.Package.{Limits, Package, read_file}
use Rattle.rules.specs.Store.{full, without_int, Entry, domain, loaded, entry_bytes, used, first_entry, store_limits, store_opening}
use Rattle.rules.specs.Classes.{Installed, installed, by_aid}
use Rattle.rules.specs.Questions.{q1_size, domains, q5_created, q6_empty, q7_installed, keeps_subset, q21_fits}
use Rattle.rules.specs.Operations.{is_domain, is_package}
use Rattle.rules.proofs.Tests.{and_l, and_r, of_true}
use Rattle.store.specs.Entries.{part, EntryAt, Entries, place_of, FileReads, AllRead, own_aid, lies_in, is_without_int, PackageAt}
use Rattle.store.specs.Answers.{FileSays}
use Rattle.std.specs.Prelude.{Some, None}
use Rattle.store.proofs.Stand.{entry_next, entries_next}
use Rattle.store.proofs.Walk.{FoundAt, found_at, place_any, place_none}
use Rattle.store.proofs.Parts.{part_length}
use Rattle.store.proofs.Own.{own_by}

-- 1. the buffer's length
pub size_is : (s : Bytes) → q1_size s ≡ true → (64 ≤ length s) × (length s ≤ 65535)
unfolding q1_size
size_is s h =
    let t : T (within 64 65535 (length s)) = of_true h in
    (leb→le 64 (length s) (and_l (leb 64 (length s)) (leb (length s) 65535) t), leb→le (length s) 65535 (and_r (leb 64 (length s)) (leb (length s) 65535) t))

-- 5. a domain that has been created has an entry
pub domains_any : (a : Aid) (es : List Entry) → any (same a) (domains es) ≡ any (is_domain a) es
domains_any a [] = refl
domains_any a (domain k b ∷ es) = ap (λ (t : Bool). same a b || t) (domains_any a es)
domains_any a (loaded d f ∷ es) = domains_any a es

pub created_place : (i : ℕ) (es : List Entry) (a : Aid) → q5_created es a ≡ is_some (place_of (is_domain a) i es)
unfolding q5_created
created_place i es a = domains_any a es ∙ sym (place_any (is_domain a) i es)

-- 26. a kind-3 domain has an entry of kind 3
pub subset_any : (a : Aid) (es : List Entry) → keeps_subset es a ≡ any (is_without_int a) es
unfolding keeps_subset
subset_any a [] = refl
subset_any a (domain full b ∷ es) = subset_any a es
subset_any a (domain without_int b ∷ es) = ap (λ (t : Bool). same a b || t) (subset_any a es)
subset_any a (loaded d f ∷ es) = subset_any a es

-- 6. a package lies in the domain
pub in_use : (l : Limits) (es : List Entry) (a : Aid) → AllRead l es → not (q6_empty (installed l es) a) ≡ any (lies_in a) es
unfolding q6_empty
in_use l [] a h = refl
in_use l (domain k b ∷ es) a h = in_use l es a h.1
in_use l (loaded d f ∷ es) a h = rw h.0.1 (go (same a d) (in_use l es a h.1))
  where
    go : (b : Bool) → not (all (λ (i : Installed). not (same a i.domain)) (installed l es)) ≡ any (lies_in a) es → not
        (not b && all (λ (i : Installed). not (same a i.domain)) (installed l es)) ≡ (b || any (lies_in a) es)
    go true e = refl
    go false e = e

-- 7. the installed package of an AID, behind entries that are not its own
module _ (l : Limits) (a : Aid) where
  pub by_aid_skip : (ps rs : List Entry) → any (is_package l a) ps ≡ false → by_aid (installed l (ps ++ rs)) a ≡ by_aid (installed l rs) a
  by_aid_skip [] rs h = refl
  by_aid_skip (domain k b ∷ ps) rs h = by_aid_skip ps rs h
  by_aid_skip (loaded d f ∷ ps) rs h = go (read_file l f) refl (by_aid_skip ps rs)
    where
      go : (o : Option Package) → read_file l f ≡ o → (any (is_package l a) ps ≡ false → by_aid (installed l (ps ++ rs)) a ≡ by_aid (installed l rs) a) →
          by_aid (installed l (loaded d f ∷ (ps ++ rs))) a ≡ by_aid (installed l rs) a
      go none e rec = rw e (rec (rw e at h))
      go (some p) e rec = rw e (test (same a p.aid) (rw e at h))
        where
          test : (b : Bool) → (b || any (is_package l a) ps) ≡ false → pick b (some (record { domain = d; pack = p })) (by_aid (installed l (ps ++ rs)) a) ≡
              by_aid (installed l rs) a
          test true k = let z : ◌≡◌ {A = ℕ} 0 1 = cc in absurd (omega arith)
          test false k = rec k

  pub by_aid_none : (es : List Entry) → any (is_package l a) es ≡ false → by_aid (installed l es) a ≡ none
  by_aid_none es h = ap (λ (t : List Entry). by_aid (installed l t) a) (sym (append-nil es)) ∙ by_aid_skip es [] h

  pub by_aid_here : (d f : Bytes) (rs : List Entry) (p : Package) → read_file l f ≡ some p → same a p.aid ≡ true → by_aid (installed l (loaded d f ∷ rs))
      a ≡ some (record { domain = d; pack = p })
  by_aid_here d f rs p e h = rw (e, h)

  -- the package of an entry that the test finds
  pub package_is : (e : Entry) → is_package l a e ≡ true → (d f : Bytes) × (p : Package) × (e ≡ loaded d f) × (read_file l f ≡ some p) × (same a p.aid ≡ true)
  package_is (domain k b) h = let z : ◌≡◌ {A = ℕ} 0 1 = cc in absurd (omega arith)
  package_is (loaded d f) h = go (read_file l f) refl h
    where
      go : (o : Option Package) → read_file l f ≡ o → some_and o (λ p. same a p.aid) ≡ true → (d₁ f₁ : Bytes) × (p : Package) ×
          (loaded d f ≡ loaded d₁ f₁) × (read_file l f₁ ≡ some p) × (same a p.aid ≡ true)
      go none e k = let z : ◌≡◌ {A = ℕ} 0 1 = cc in absurd (omega arith)
      go (some p) e k = (d, f, p, refl, e, k)

  pub installed_any : (es : List Entry) → q7_installed (installed l es) a ≡ any (is_package l a) es
  unfolding q7_installed
  installed_any [] = refl
  installed_any (domain k b ∷ es) = installed_any es
  installed_any (loaded d f ∷ es) = go (read_file l f) refl (installed_any es)
    where
      go : (o : Option Package) → read_file l f ≡ o → is_some (by_aid (installed l es) a) ≡ any (is_package l a) es → is_some
          (by_aid (installed l (loaded d f ∷ es)) a) ≡ any (is_package l a) (loaded d f ∷ es)
      go none e h = rw e h
      go (some p) e h = rw e (test (same a p.aid))
        where
          test : (b : Bool) → is_some (pick b (some (record { domain = d; pack = p })) (by_aid (installed l es) a)) ≡ (b || any (is_package l a) es)
          test true = refl
          test false = h

-- a package by the AID that stands in its file
abbrev pub named_by : Aid → Entry → Bool
named_by a (domain k b) = false
named_by a (loaded d f) = same a (own_aid f)

pub named_is : (l : Limits) (a : Aid) (e : Entry) → FileReads l e → named_by a e ≡ is_package l a e
named_is l a (domain k b) h = refl
named_is l a (loaded d f) h = rw h.1 (ap (same a) (own_by l f h.0 h.1).is)

pub named_place : (l : Limits) (a : Aid) (i : ℕ) (es : List Entry) → AllRead l es → place_of (named_by a) i es ≡ place_of (is_package l a) i es
named_place l a i [] h = refl
named_place l a i (e ∷ es) h =
    let n : ℕ = i + length (entry_bytes e) in
    ap₂ (λ (b : Bool) (o : Option (ℕ × ℕ)). pick b (some (i, n)) o) (named_is l a e h.0) (named_place l a n es h.1)

-- what the search for a package answers
pub package_found : {s : Bytes} {es : List Entry} {k : ℕ} {a : Aid} {i j m : ℕ} {d : Bytes} → Entries s (first_entry s) es k → AllRead (store_limits s) es →
    place_of (named_by a) (first_entry s) es ≡ some (i, m) → j ≤ m → m ≤ length s →
    ((e : Entry) → EntryAt s i e m → e ≡ loaded d (part s j m)) → FileSays s es a (Some (record { at = i; from = j; to = m }))
package_found {s} {es} {k} {a} {i} {j} {m} {d} r h q from to file = go (found_at (is_package (store_limits s) a) s (first_entry s) es k i m r place)
  where
    place : place_of (is_package (store_limits s) a) (first_entry s) es ≡ some (i, m)
    place = sym (named_place (store_limits s) a (first_entry s) es h) ∙ q

    go : FoundAt (is_package (store_limits s) a) s (first_entry s) es k i m → PackageAt s es a i j m
    go f =
        let z : f.one ≡ loaded d (part s j m) = file f.one f.stands in
        let p = package_is (store_limits s) a f.one f.found in
        done f p.0 p.1 p.2 p.3 p.4 p.5 (cc)
      where
        done : (f : FoundAt (is_package (store_limits s) a) s (first_entry s) es k i m) (d₁ f₁ : Bytes) (p : Package) → f.one ≡ loaded d₁ f₁ →
            read_file (store_limits s) f₁ ≡ some p → same a p.aid ≡ true → f₁ ≡ part s j m → PackageAt s es a i j m
        done f d₁ f₁ p o e t w =
            let stands : EntryAt s i (loaded d₁ (part s j m)) m = subst (λ (x : Entry). EntryAt s i x m) (o ∙ ap (loaded d₁) w) f.stands in
            record {
              place = place;
              home = record { domain = d₁; pack = p };
              stands = stands;
              inside = omega (arith, entry_next s i (loaded d₁ (part s j m)) m stands, part_length s j m to, length-append d₁ (part s j m), from);
              is =
                  ap (λ (x : List Entry). by_aid (installed (store_limits s) x) a) f.are
                  ∙ by_aid_skip (store_limits s) a f.before (f.one ∷ f.after) f.passed
                  ∙ ap (λ (x : Entry). by_aid (installed (store_limits s) (x ∷ f.after)) a) o
                  ∙ by_aid_here (store_limits s) a d₁ f₁ f.after p e t;
              reads = ap (read_file (store_limits s)) (sym w) ∙ e;
              from = from;
              to = to;
            }

pub package_none : (s : Bytes) (es : List Entry) (a : Aid) → AllRead (store_limits s) es → any (named_by a) es ≡ false → FileSays s es a None
package_none s es a h n =
    let p : place_of (is_package (store_limits s) a) (first_entry s) es ≡ none =
    sym (named_place (store_limits s) a (first_entry s) es h) ∙ place_none (named_by a) (first_entry s) es n in
    (p, by_aid_none (store_limits s) a es (sym (place_any (is_package (store_limits s) a) (first_entry s) es) ∙ ap is_some p))

-- 21. an entry that stands in the buffer behind others fits
pub fits_standing : (s : Bytes) (es : List Entry) (i : ℕ) (e : Entry) (j : ℕ) → Entries s (first_entry s) es i → EntryAt s i e j →
    q21_fits (store_opening s) (length s) es e ≡ true
unfolding q21_fits
fits_standing s es i e j r t =
    le-leb (used (store_opening s) es + length (entry_bytes e)) (length s) (omega (arith, entries_next s (first_entry s) es i r, entry_next s i e j t, t.to))
