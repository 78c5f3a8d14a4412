-- Going through the entries of a store for the first one that a test finds. Assumes nothing.
use Prim.Native.Nat.{ℕ, ◌+◌, ◌≤◌, ◌<◌}
use native.Mathlib.Omega.{arith}
use mathlib.Core.Path.{◌≡◌, refl, sym, ◌∙◌, ap, subst}
use mathlib.Core.Bool.{Bool, true, false, ◌||◌}
use mathlib.Core.List.{List, [], ◌∷◌, ◌++◌, append_assoc, append-nil}
use mathlib.Core.Option.{none, some, some-injective}
use lib.ListN.{length}
use Rattle.rules.specs.Bytes.{Bytes, pick, any, is_some}
use Rattle.rules.specs.Package.{Limits}
use Rattle.rules.specs.Store.{Entry, entry_bytes, first_entry}
use Rattle.rules.specs.Operations.{without}
use Rattle.rules.proofs.Tests.{none_some}
use Rattle.store.specs.Entries.{EntryAt, Entries, FirstIs, AllRead, place_of}
use Rattle.store.proofs.Stand.{entry_next, entry_later, entries_to, entries_more}

module _ {A : Type 0} (q : A → Bool) where
  pub any_append : (xs ys : List A) → any q (xs ++ ys) ≡ (any q xs || any q ys)
  any_append [] ys = refl
  any_append (x ∷ xs) ys = go (q x) (any_append xs ys)
    where
      go : (b : Bool) → any q (xs ++ ys) ≡ (any q xs || any q ys) → (b || any q (xs ++ ys)) ≡ ((b || any q xs) || any q ys)
      go true e = refl
      go false e = e

module _ (q : Entry → Bool) where
  -- the test finds an entry exactly where it has a place
  pub place_any : (i : ℕ) (es : List Entry) → is_some (place_of q i es) ≡ any q es
  place_any i [] = refl
  place_any i (e ∷ es) = go (q e) (place_any (i + length (entry_bytes e)) es)
    where
      go : (b : Bool) → is_some (place_of q (i + length (entry_bytes e)) es) ≡ any q es → is_some
          (pick b (some (i, i + length (entry_bytes e))) (place_of q (i + length (entry_bytes e)) es)) ≡ (b || any q es)
      go true h = refl
      go false h = h

  pub place_none : (i : ℕ) (es : List Entry) → any q es ≡ false → place_of q i es ≡ none
  place_none i [] h = refl
  place_none i (e ∷ es) h = go (q e) refl h (place_none (i + length (entry_bytes e)) es)
    where
      go : (b : Bool) → q e ≡ b → (b || any q es) ≡ false → (any q es ≡ false → place_of q (i + length (entry_bytes e)) es ≡ none) → place_of q i (e ∷ es) ≡ none
      go true z k rec = let y : ◌≡◌ {A = ℕ} 0 1 = cc in absurd (omega arith)
      go false z k rec = rw z (rec k)

-- an entry in the middle of the entries, the first that the test finds
pub record FoundAt (q : Entry → Bool) (s : Bytes) (i : ℕ) (es : List Entry) (k from to : ℕ) : Type 0 where
  pub before : List Entry
  pub one : Entry
  pub after : List Entry
  pub are : es ≡ before ++ one ∷ after
  pub earlier : Entries s i before from
  pub stands : EntryAt s from one to
  pub later : Entries s to after k
  pub passed : any q before ≡ false
  pub found : q one ≡ true
  pub left : without q es ≡ before ++ after

-- what the place of an entry says
pub found_at : (q : Entry → Bool) (s : Bytes) (i : ℕ) (es : List Entry) (k from to : ℕ) → Entries s i es k → place_of q i es ≡ some (from, to) → FoundAt q
    s i es k from to
found_at q s i _ _ from to (Entries.over h) e = absurd (none_some e)
found_at q s i _ k from to (Entries.more {j = j} {e = e} {es = es} t r) p = go (q e) refl p (λ p. found_at q s j es k from to r p)
  where
    n : i + length (entry_bytes e) ≡ j
    n = entry_next s i e j t

    go : (b : Bool) → q e ≡ b → pick b (some (i, i + length (entry_bytes e))) (place_of q (i + length (entry_bytes e)) es) ≡ some (from, to) →
        (place_of q j es ≡ some (from, to) → FoundAt q s j es k from to) → FoundAt q s i (e ∷ es) k from to
    go true z p rec =
        let w : ◌≡◌ {A = ℕ × ℕ} (i, i + length (entry_bytes e)) (from, to) = some-injective _ _ p in
        let a : i ≡ from = ap (λ (x : ℕ × ℕ). x.0) w in
        let b : j ≡ to = sym n ∙ ap (λ (x : ℕ × ℕ). x.1) w in
        record {
          before = [];
          one = e;
          after = es;
          are = refl;
          earlier = subst (λ (m : ℕ). Entries s i [] m) a (Entries.over (omega (arith, entry_later s i e j t, t.to)));
          stands = subst (λ (m : ℕ). EntryAt s m e to) a (subst (λ (m : ℕ). EntryAt s i e m) b t);
          later = subst (λ (m : ℕ). Entries s m es k) b r;
          passed = refl;
          found = z;
          left = rw z;
        }
    go false z p rec =
        let f = rec (ap (λ (m : ℕ). place_of q m es) (sym n) ∙ p) in
        record {
          before = e ∷ f.before;
          one = f.one;
          after = f.after;
          are = ap (λ (l : List Entry). e ∷ l) f.are;
          earlier = Entries.more t f.earlier;
          stands = f.stands;
          later = f.later;
          passed = rw z f.passed;
          found = f.found;
          left = rw z (ap (λ (l : List Entry). e ∷ l) f.left);
        }

-- the place of an entry behind others that the test does not find
pub place_is : (q : Entry → Bool) (s : Bytes) (i : ℕ) (before : List Entry) (one : Entry) (after : List Entry) (from to : ℕ) → Entries s i before from →
    EntryAt s from one to → any q before ≡ false → q one ≡ true → place_of q i (before ++ one ∷ after) ≡ some (from, to)
place_is q s i _ one after _ to (Entries.over h) t p f = rw f (ap (λ (n : ℕ). some (i, n)) (entry_next s i one to t))
place_is q s i _ one after from to (Entries.more {j = j} {e = e} {es = es} u r) t p f = go (q e) p (λ p. place_is q s j es one after from to r t p f)
  where
    go : (b : Bool) → (b || any q es) ≡ false → (any q es ≡ false → place_of q j (es ++ one ∷ after) ≡ some (from, to)) → pick b
        (some (i, i + length (entry_bytes e))) (place_of q (i + length (entry_bytes e)) (es ++ one ∷ after)) ≡ some (from, to)
    go true p rec = let y : ◌≡◌ {A = ℕ} 0 1 = cc in absurd (omega arith)
    go false p rec = ap (λ (m : ℕ). place_of q m (es ++ one ∷ after)) (entry_next s i e j u) ∙ rec p

-- the walk: at a place, none of the entries passed is found, and the others stand from there on
pub record Walk (q : Entry → Bool) (s : Bytes) (es : List Entry) (k i : ℕ) : Type 0 where
  pub passed : List Entry
  pub rest : List Entry
  pub are : es ≡ passed ++ rest
  pub to : Entries s (first_entry s) passed i
  pub from : Entries s i rest k
  pub none : any q passed ≡ false

pub walk_start : {q : Entry → Bool} {s : Bytes} {es : List Entry} {k : ℕ} → Entries s (first_entry s) es k → Walk q s es k (first_entry s)
walk_start {s = s} {es = es} {k = k} r = let b = entries_to s (first_entry s) es k r in record
    { passed = []; rest = es; are = refl; to = Entries.over {i = first_entry s} (omega arith); from = r; none = refl }

module _ {q : Entry → Bool} {s : Bytes} {es : List Entry} {k i : ℕ} (w : Walk q s es k i) where
  -- the entry at hand is found
  pub walk_found : {e : Entry} {j : ℕ} → FirstIs s i e j k w.rest → q e ≡ true → place_of q (first_entry s) es ≡ some (i, j)
  walk_found {e} {j} f h =
      ap (place_of q (first_entry s)) (w.are ∙ ap (λ (l : List Entry). w.passed ++ l) f.are) ∙ place_is q s (first_entry s) w.passed e f.rest i j w.to f.stands w.none h

  -- it is not
  pub walk_more : {e : Entry} {j : ℕ} → FirstIs s i e j k w.rest → q e ≡ false → Walk q s es k j
  walk_more {e} {j} f h = record {
    passed = w.passed ++ e ∷ [];
    rest = f.rest;
    are = w.are ∙ ap (λ (l : List Entry). w.passed ++ l) f.are ∙ sym (append_assoc w.passed (e ∷ []) f.rest);
    to = entries_more s (first_entry s) w.passed i e j w.to f.stands;
    from = f.after;
    none = any_append q w.passed (e ∷ []) ∙ rw (w.none, h);
  }

  -- there is no further one
  pub walk_none : w.rest ≡ [] → any q es ≡ false
  walk_none h = ap (any q) (w.are ∙ ap (λ (l : List Entry). w.passed ++ l) h ∙ append-nil w.passed) ∙ w.none

  pub walk_any : {e : Entry} {j : ℕ} → FirstIs s i e j k w.rest → q e ≡ true → any q es ≡ true
  walk_any f h = sym (place_any q (first_entry s) es) ∙ ap is_some (walk_found f h)

  -- the files of the entries that follow read where those of all do
  pub walk_reads : (l : Limits) → AllRead l es → AllRead l w.rest
  walk_reads l r = behind w.passed w.rest (subst (AllRead l) w.are r)
    where
      behind : (ps rs : List Entry) → AllRead l (ps ++ rs) → AllRead l rs
      behind [] rs r = r
      behind (p ∷ ps) rs r = behind ps rs r.1

-- the walk goes on
pub first_later : {s : Bytes} {i : ℕ} {e : Entry} {j k : ℕ} {es : List Entry} → FirstIs s i e j k es → (i < j) × (j ≤ k) × (k ≤ length s)
first_later {s} {i} {e} {j} {k} f =
    let b = entries_to s j f.rest k f.after in
    (omega (arith, entry_later s i e j f.stands), b.0, b.1)
