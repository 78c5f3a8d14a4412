-- The opening of a buffer by its bytes. Assumes nothing.
use Prim.Native.Nat.{ℕ, ◌<◌, ◌≤◌}
use native.Mathlib.Omega.{arith}
use mathlib.Core.Path.{◌≡◌, refl, sym, ◌∙◌, ap}
use mathlib.Core.Bool.{Bool, true, false}
use mathlib.Core.List.{[], ◌∷◌}
use mathlib.Core.Option.{none, some}
use lib.ListN.{length, take, drop, get_or, length-drop}
use lib.Dec.{leb}
use borrow.Author.Tests.{le-leb, lt-leb}
use Rattle.rules.specs.Bytes.{Bytes, within, same}
use Rattle.rules.specs.Limits.{Limits, limits_range}
use Rattle.rules.specs.Store.{Opening, version1, version2, store_mark, limits, opening_of, store_opening, limits_at}
use Rattle.std.specs.Prelude.{Option as Optional}
use Rattle.store.specs.Openings.{opening_told}
use Rattle.store.specs.declared.openings.Opening as told
use Rattle.store.proofs.Parts.{drop_one}
use Rattle.store.proofs.Checks.{mark_short}

-- limits by their parts
pub limits_same : {a b d e m n : ℕ} → a ≡ b → d ≡ e → m ≡ n → ◌≡◌ {A = Limits} (record { depth = a; parents = d; code = m })
    (record { depth = b; parents = e; code = n })
limits_same x y z = rw (x, y, z)

-- 30 and a stored limit: each lies in its range
module _ (l : Limits) where
  abbrev d : Bool
  d = within 1 16 l.depth

  abbrev p : Bool
  p = within 1 8 l.parents

  abbrev c : Bool
  c = within 1 32767 l.code

  pub range_no : d ≡ false → false ≡ limits_range l
  unfolding limits_range
  range_no e = rw e

  pub range_no_parents : d ≡ true → p ≡ false → false ≡ limits_range l
  unfolding limits_range
  range_no_parents e h = rw (e, h)

  pub range_code : d ≡ true → p ≡ true → (b : Bool) → b ≡ c → b ≡ limits_range l
  unfolding limits_range
  range_code e h b z = z ∙ sym (rw (e, h))

-- a number in a range, or out of it
pub within_yes : (lo hi n : ℕ) → lo ≤ n → n ≤ hi → within lo hi n ≡ true
within_yes lo hi n h g = rw (le-leb lo n h, le-leb n hi g)

pub within_below : (lo hi n : ℕ) → n < lo → within lo hi n ≡ false
within_below lo hi n h = rw (lt-leb lo n h)

pub within_above : (lo hi n : ℕ) → lo ≤ n → hi < n → within lo hi n ≡ false
within_above lo hi n h g = rw (le-leb lo n h, lt-leb n hi g)

pub within_from : (lo hi n : ℕ) → lo ≤ n → within lo hi n ≡ leb n hi
within_from lo hi n h = rw (le-leb lo n h)

-- the limits behind the used field, where there are so many bytes
limits_here : (s : Bytes) → 11 ≤ length s → limits (drop 7 s) ≡ some (limits_at s, drop 11 s)
limits_here s h =
    let a : 7 < length s = omega arith in
    let b : 8 < length s = omega arith in
    let c : 9 < length s = omega arith in
    let d : 10 < length s = omega arith in
    ap limits (drop_one s 7 a ∙ ap (λ (r : Bytes). get_or s 7 0 ∷ r) (drop_one s 8 b
    ∙ ap (λ (r : Bytes). get_or s 8 0 ∷ r) (drop_one s 9 c ∙ ap (λ (r : Bytes). get_or s 9 0 ∷ r) (drop_one s 10 d))))

limits_short : (bs : Bytes) → length bs < 4 → limits bs ≡ none
limits_short [] h = refl
limits_short (a ∷ []) h = refl
limits_short (a ∷ b ∷ []) h = refl
limits_short (a ∷ b ∷ c ∷ []) h = refl
limits_short (a ∷ b ∷ c ∷ d ∷ bs) h = absurd (omega arith)

module _ (s : Bytes) where
  -- no mark
  pub told_short : length s < 5 → none ≡ opening_of s
  unfolding opening_of
  told_short h = rw (mark_short s 1 h, mark_short s 2 h)

  -- that of version 1
  pub told_first : same (take 5 s) (store_mark 1) ≡ true → some version1 ≡ opening_of s
  unfolding opening_of
  told_first e = rw e

  -- not that of version 1
  module _ (other : same (take 5 s) (store_mark 1) ≡ false) where
    pub told_cut : length s < 11 → none ≡ opening_of s
    unfolding opening_of
    told_cut h = go (same (take 5 s) (store_mark 2)) refl
      where
        go : (b : Bool) → same (take 5 s) (store_mark 2) ≡ b → none ≡ opening_of s
        go true e = rw (other, e, limits_short (drop 7 s) (omega (arith, length-drop 7 s)))
        go false e = rw (other, e)

    pub told_other : same (take 5 s) (store_mark 2) ≡ false → none ≡ opening_of s
    unfolding opening_of
    told_other e = rw (other, e)

    -- that of version 2, with limits in their ranges, or one out of its range
    pub told_second : 11 ≤ length s → same (take 5 s) (store_mark 2) ≡ true → (l : Limits) → l ≡ limits_at s → limits_range l ≡ true → some (version2 l) ≡ opening_of s
    unfolding opening_of
    told_second h e l z q = let r : limits_range (limits_at s) ≡ true = ap limits_range (sym z) ∙ q in rw (other, e, limits_here s h, r, z)

    pub told_out : 11 ≤ length s → same (take 5 s) (store_mark 2) ≡ true → (l : Limits) → l ≡ limits_at s → limits_range l ≡ false → none ≡ opening_of s
    unfolding opening_of
    told_out h e l z q = let r : limits_range (limits_at s) ≡ false = ap limits_range (sym z) ∙ q in rw (other, e, limits_here s h, r)

  -- the opening of a store, by the one that is told
  pub opening_told_lem : (r : Optional told.Opening) (v : Opening) → opening_told r ≡ opening_of s → opening_told r ≡ some v → (store_opening s ≡ v) × (opening_of s ≡ some (store_opening s))
  unfolding store_opening
  opening_told_lem r v e z = let k : opening_of s ≡ some v = sym e ∙ z in (rw k, rw k)

  pub opening_none : none ≡ opening_of s → store_opening s ≡ version1
  unfolding store_opening
  opening_none e = rw (← e)
