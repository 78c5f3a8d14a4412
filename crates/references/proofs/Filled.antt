-- A table in which what references name is written place by place, and what it tells of those of a group. Assumes nothing.
use Rattle.std.specs.Prelude.{Option as Optional}
use Prim.Native.Nat.{ℕ, ◌+◌, ◌-◌, ◌<◌, ◌≤◌}
use native.Mathlib.Omega.{arith}
use native.Mathlib.Decide.{dec_le}
use mathlib.Core.Path.{◌≡◌, refl, sym, ◌∙◌, ap, subst}
use mathlib.Core.Bool.{Bool, true, false, ◌&&◌}
use mathlib.Core.List.{List}
use mathlib.Core.Logic.{◌⊎◌, inl, inr}
use lib.Dec.{leb, ltb}
use lib.ListN.{length}
use borrow.Author.Tests.{ltb-true, leb-true, leb-false, lt-leb}
use Rattle.rules.specs.Bytes.{Bytes, pick}
use Rattle.rules.proofs.Lists.{same_or_not}
use Rattle.rules.proofs.Tests.{and_l, and_r, is_true, of_true}
use Rattle.homes.specs.declared.Home.{Home}
use Rattle.references.specs.Named.{GroupTrue, ReferenceIs, ToldIs}
use Rattle.references.specs.Kept.{held, kept_count, kept_length, told_at, told_of, is_told, KeptIs, SameTold, KeptTrue, SearchedIn, AllTold, in_group, told_in}
use Rattle.references.specs.declared.Meant.{Meant}
use Rattle.references.specs.declared.Group.{Group}
use Rattle.references.specs.declared.Told.{Told}
use Rattle.references.specs.declared.Told.TheVariants as told
use Rattle.references.proofs.Telling.{told_kept, named_told, named_known, reference_past}

-- what the first n places tell of those references of the group is true
pub record KeptBelow (f s : Bytes) (g : Group) (n : ℕ) (t : List ℕ) : Type 0 where
  pub size : length t ≡ kept_length
  pub told : (k : ℕ) → k < n → ToldIs f s g.end (g.first + k) (told_at t k)

-- a place below the next one is below this one, or this one
below : {k : ℕ} (j : ℕ) → j < k + 1 → (j ≡ k → ⊥) → j < k
below {k} j l z = elim (dec_le (j + 1) k) [
  | yes v ↦ omega arith
  | no v ↦ absurd (z (omega arith))
]

module _ (f s : Bytes) (g : Group) {t : List ℕ} where
  pub kept_start : length t ≡ kept_length → KeptBelow f s g 0 t
  kept_start e = record { size = e; told = λ k l. absurd (omega arith) }

  -- a place is written
  module _ {k : ℕ} {u : List ℕ} (x : Told) (q : ToldIs f s g.end (g.first + k) x) (w : KeptIs t u k x) (e : length u ≡ length t) where
    written : (j : ℕ) → ((j ≡ k → ⊥) → ToldIs f s g.end (g.first + j) (told_at t j)) → ToldIs f s g.end (g.first + j) (told_at u j)
    written j h = which (same_or_not j k)
      where
        which : (j ≡ k) ⊎ (j ≡ k → ⊥) → ToldIs f s g.end (g.first + j) (told_at u j)
        which (inl z) =
            subst (λ (i : ℕ). ToldIs f s g.end (g.first + i) (told_at u i)) (sym z)
            (subst (ToldIs f s g.end (g.first + k)) (sym w.here) (told_kept f s g.end (g.first + k) x q))
        which (inr z) = subst (ToldIs f s g.end (g.first + j)) (sym (w.others j z)) (h z)

    pub kept_on : KeptBelow f s g k t → KeptBelow f s g (k + 1) u
    kept_on p = record { size = e ∙ p.size; told = λ j l. written j (λ z. p.told j (below j l z)) }

    -- in a table that is true
    pub kept_again : KeptTrue f s g t → KeptTrue f s g u
    kept_again p = record { size = e ∙ p.size; told = λ j l m. written j (λ z. p.told j l m) }

  -- all that the table holds of the file's
  pub kept_full : {k : ℕ} → held g ≤ k → KeptBelow f s g k t → KeptTrue f s g t
  kept_full l p = record { size = p.size; told = λ j a b. p.told j (omega arith) }

  -- the same is told
  pub kept_same : {u : List ℕ} → SameTold t u → KeptTrue f s g t → KeptTrue f s g u
  kept_same q p = record {
    size = q.size ∙ p.size;
    told = λ j a b. subst (ToldIs f s g.end (g.first + j)) (sym (q.told j)) (p.told j a b);
  }

-- tables that tell the same, one after the other
pub told_stays : {t u : List ℕ} → u ≡ t → SameTold t u
told_stays {t} {u} e = subst (SameTold t) (sym e) (record { size = refl; told = λ k. refl })

pub told_after : {t u v : List ℕ} → SameTold t u → SameTold u v → SameTold t v
told_after p q = record { size = q.size ∙ p.size; told = λ k. q.told k ∙ p.told k }

-- none of the first n places is open
abbrev pub ToldBelow : ℕ → List ℕ → Type 0
ToldBelow n t = (k : ℕ) → k < n → is_told (told_at t k) ≡ true

pub told_on : {f s : Bytes} {g : Group} {k : ℕ} {t u : List ℕ} → SearchedIn f s g k t u → ToldBelow k t → ToldBelow (k + 1) u
told_on {k = k} {t} {u} w p j l = which (same_or_not j k)
  where
    which : (j ≡ k) ⊎ (j ≡ k → ⊥) → is_told (told_at u j) ≡ true
    which (inl z) = subst (λ (i : ℕ). is_told (told_at u i) ≡ true) (sym z) w.told
    which (inr z) = ap is_told (w.others j z) ∙ p j (below j l z)

pub told_full : (g : Group) (t : List ℕ) (k : ℕ) → held g ≤ k → ToldBelow k t → AllTold g t
told_full g t k n p j l m = p j (omega arith)

-- what is not open is told
pub told_unless : (r : Told) → ((h : Home) (i : ℕ) → r ≡ told.Open h i → ⊥) → is_told r ≡ true
told_unless (told.Method x) n = refl
told_unless told.Nothing n = refl
told_unless (told.Open h i) n = absurd (n h i refl)

-- a place whose reference was searched, or was not open
module _ (f s : Bytes) (g : Group) {t : List ℕ} (k : ℕ) (p : KeptTrue f s g t) where
  pub searched : {u : List ℕ} (x : Optional Meant) → ReferenceIs f s g.end (g.first + k) x → KeptIs t u k (told_of x) → length u ≡ length t →
      SearchedIn f s g k t u
  searched x q w e = record {
    kept = kept_again f s g (told_of x) (named_told (g.first + k) x q) w e p;
    told = ap is_told w.here ∙ named_known x;
    others = w.others;
  }

  pub not_open : is_told (told_at t k) ≡ true → SearchedIn f s g k t t
  not_open e = record { kept = p; told = e; others = λ j n. refl }

-- a reference of the file that is asked with the group is one of the group
module _ (g : Group) (k : ℕ) (e : in_group g k ≡ true) (l : k < g.count) where
  pub inside : (g.first ≤ k) × (k < g.first + kept_count)
  inside =
      let from = leb g.first k in
      let to = ltb k (g.first + kept_count) in
      let both : (from && to) ≡ true = rw (lt-leb g.count k l) at e in
      (leb-true g.first k (is_true from (and_l from to (of_true both))), ltb-true k (g.first + kept_count) (is_true to (and_r from to (of_true both))))

-- what is told of it stands in the table
pub told_inside : (t : List ℕ) (g : Group) (k : ℕ) → k < g.count → (r : Told) → r ≡ told_at t (k - g.first) → r ≡ told_in t g k
told_inside t g k l r q = rw (lt-leb g.count k l) q

-- what is told of a reference that is asked with the group is true
pub told_true : {f s : Bytes} {t : List ℕ} (g : Group) (k : ℕ) → in_group g k ≡ true → GroupTrue f g → KeptTrue f s g t →
    ToldIs f s g.end k (told_in t g k)
told_true {f} {s} {t} g k e a w = go (leb g.count k) refl
  where
    go : (b : Bool) → leb g.count k ≡ b → ToldIs f s g.end k (pick b told.Nothing (told_at t (k - g.first)))
    go true z = reference_past g a (leb-true g.count k z)
    go false z =
        let l = leb-false g.count k z in
        let i = inside g k e l in
        let same : g.first + (k - g.first) ≡ k = omega (arith, i.0) in
        subst (λ (j : ℕ). ToldIs f s g.end j (told_at t (k - g.first))) same (w.told (k - g.first) (omega (arith, i.0, i.1)) (omega (arith, i.0)))

-- where none is open none of these is
pub told_known : (t : List ℕ) (g : Group) (k : ℕ) → in_group g k ≡ true → AllTold g t → is_told (told_in t g k) ≡ true
told_known t g k e w = go (leb g.count k) refl
  where
    go : (b : Bool) → leb g.count k ≡ b → is_told (pick b told.Nothing (told_at t (k - g.first))) ≡ true
    go true z = refl
    go false z =
        let l = leb-false g.count k z in
        let i = inside g k e l in
        w (k - g.first) (omega (arith, i.0, i.1)) (omega (arith, i.0, l))
