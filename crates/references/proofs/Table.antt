-- The table of what references name: what is written in a place stands there, and the other places keep what they told; what a reference
-- names fits there. Assumes nothing.
use Prim.Native.Nat.{ℕ, ◌+◌, ◌*◌, ◌/◌, ◌%◌, ◌<◌, ◌≤◌}
use native.Mathlib.Omega.{arith}
use native.Mathlib.Decide.{dec_le}
use mathlib.Core.Path.{◌≡◌, refl, sym, ◌∙◌, ap, subst}
use mathlib.Core.Bool.{Bool, true, false}
use mathlib.Core.List.{List}
use mathlib.Core.Logic.{◌⊎◌, inl, inr}
use lib.Dec.{eqb, ltb}
use lib.ListN.{length, get_or, set, length-set}
use lib.Seq.{get_or-set_same, get_or-set_other}
use borrow.Author.Tests.{lt-ltb, le-ltb, eq-eqb, ne_eqb}
use Rattle.rules.specs.Bytes.{pick}
use Rattle.homes.specs.declared.Home.{Home}
use Rattle.slots.specs.Slots.{home_in, with_home}
use Rattle.slots.proofs.Slots.{home_is, home_length, home_other, home_written}
use Rattle.rules.proofs.Lists.{same_or_not}
use Rattle.references.specs.Kept.{row_of, bit_of, mark_of, no_mark, open_mark, wanted_mark, meant_at, told_from, told_at, kept_meant, is_told, with_row, with_meant, with_nothing, with_open, KeptIs, SameTold}
use Rattle.references.specs.declared.Meant.{Meant}
use Rattle.references.specs.declared.Told.{Told}
use Rattle.references.specs.declared.Told.TheVariants as told

-- the mark of a declaration tells row and kind
module _ (x : Meant) where
  mark_row : mark_of x / 2 ≡ row_of x.pack
  mark_row = go x.kind0
    where
      go : (b : Bool) → (2 * row_of x.pack + bit_of b) / 2 ≡ row_of x.pack
      go true = omega arith
      go false = omega arith

  mark_kind : eqb (mark_of x % 2) 1 ≡ x.kind0
  mark_kind = go x.kind0
    where
      go : (b : Bool) → eqb ((2 * row_of x.pack + bit_of b) % 2) 1 ≡ b
      go true = eq-eqb ((2 * row_of x.pack + 1) % 2) 1 (omega arith)
      go false = ne_eqb ((2 * row_of x.pack + 0) % 2) 1 (λ e. omega (arith, e))

  mark_below : mark_of x < no_mark
  mark_below = go x.kind0
    where
      go : (b : Bool) → 2 * row_of x.pack + bit_of b < no_mark
      go true = omega arith
      go false = omega arith

  mark_some : eqb (mark_of x) no_mark ≡ false
  mark_some = ne_eqb (mark_of x) no_mark (λ e. omega (arith, mark_below, e))

  mark_told : ltb no_mark (mark_of x) ≡ false
  mark_told = le-ltb no_mark (mark_of x) (omega (arith, mark_below))

zero_on : {i : ℕ} → i + 0 ≡ i
zero_on = omega arith

-- six numbers that are the same tell the same
module _ (t u : List ℕ) (i : ℕ) (same : (j : ℕ) → j < 6 → get_or u (i + j) 0 ≡ get_or t (i + j) 0) where
  pub six_same : told_from u i (get_or u (i + 5) 0) ≡ told_from t i (get_or t (i + 5) 0)
  six_same =
      let home : home_in u i ≡ home_in t i = home_is (home_in u i) (home_in t i) (rw zero_on at (same 0 (omega arith))) (same 1 (omega arith))
      (same 2 (omega arith)) in
      rw (home, same 3 (omega arith), same 4 (omega arith), same 5 (omega arith))

-- six numbers written from number i on
module _ (t : List ℕ) (i : ℕ) (h : Home) (c m n : ℕ) where
  -- the table behind the writes
  abbrev homed : List ℕ
  homed = with_home t i h

  abbrev classed : List ℕ
  classed = set homed (i + 3) c

  abbrev placed : List ℕ
  placed = set classed (i + 4) m

  row_other : (j : ℕ) → (j < i) ⊎ (i + 6 ≤ j) → get_or (with_row t i h c m n) j 0 ≡ get_or t j 0
  row_other j w =
      get_or-set_other placed (i + 5) j n 0 (differs 5 w (omega arith)) ∙ get_or-set_other classed (i + 4) j m 0 (differs 4 w (omega arith))
      ∙ get_or-set_other homed (i + 3) j c 0 (differs 3 w (omega arith))
      ∙ home_other t i h j (λ e. differs 0 w (omega arith) (omega (arith, e))) (differs 1 w (omega arith)) (differs 2 w (omega arith))
    where
      differs : (d : ℕ) → (j < i) ⊎ (i + 6 ≤ j) → d < 6 → j ≡ i + d → ⊥
      differs d (inl w) l e = omega arith
      differs d (inr w) l e = omega arith

  module _ (room : i + 5 < length t) where
    home_there : home_in (with_row t i h c m n) i ≡ h
    home_there =
        let before : (d : ℕ) → d < 3 → get_or (with_row t i h c m n) (i + d) 0 ≡ get_or homed (i + d) 0 = λ d l.
        get_or-set_other placed (i + 5) (i + d) n 0 (λ e. omega arith) ∙ get_or-set_other classed (i + 4) (i + d) m 0 (λ e. omega arith)
        ∙ get_or-set_other homed (i + 3) (i + d) c 0 (λ e. omega arith) in
        let from : get_or (with_row t i h c m n) i 0 ≡ get_or homed i 0 = rw zero_on at (before 0 (omega arith)) in
        home_is (home_in (with_row t i h c m n) i) (home_in homed i) from (before 1 (omega arith)) (before 2 (omega arith)) ∙ home_written t i h (omega arith)

    class_there : get_or (with_row t i h c m n) (i + 3) 0 ≡ c
    class_there =
        get_or-set_other placed (i + 5) (i + 3) n 0 (λ e. omega arith) ∙ get_or-set_other classed (i + 4) (i + 3) m 0 (λ e. omega arith)
        ∙ get_or-set_same homed (i + 3) c 0 (omega (arith, home_length t i h))

    method_there : get_or (with_row t i h c m n) (i + 4) 0 ≡ m
    method_there =
        get_or-set_other placed (i + 5) (i + 4) n 0 (λ e. omega arith)
        ∙ get_or-set_same classed (i + 4) m 0 (omega (arith, length-set homed (i + 3) c, home_length t i h))

    mark_there : get_or (with_row t i h c m n) (i + 5) 0 ≡ n
    mark_there =
        let size : length placed ≡ length t = simp length-set in
        get_or-set_same placed (i + 5) n 0 (omega (arith, size))

-- a declaration, and an open reference
meant_there : (t : List ℕ) (i : ℕ) (x : Meant) → i + 5 < length t → told_from (with_meant t i x) i (get_or (with_meant t i x) (i + 5) 0) ≡ told.Method (kept_meant x)
meant_there t i x room = rw (
  mark_there t i x.home x.class x.method (mark_of x) room,
  mark_some x,
  mark_told x,
  home_there t i x.home x.class x.method (mark_of x) room,
  class_there t i x.home x.class x.method (mark_of x) room,
  method_there t i x.home x.class x.method (mark_of x) room,
  mark_kind x,
  mark_row x,
)

open_there : (t : List ℕ) (i : ℕ) (h : Home) (c : ℕ) → i + 5 < length t → told_from (with_open t i h c) i (get_or (with_open t i h c) (i + 5) 0) ≡ told.Open h c
open_there t i h c room = rw (mark_there t i h c 0 open_mark room, home_there t i h c 0 open_mark room, class_there t i h c 0 open_mark room)

-- two places of the table are apart
apart : (j k d : ℕ) → (j ≡ k → ⊥) → d < 6 → (6 * j + d < 6 * k) ⊎ (6 * k + 6 ≤ 6 * j + d)
apart j k d n l = elim (dec_le (j + 1) k) [
  | yes v ↦ inl (omega arith)
  | no v ↦ elim (dec_le (k + 1) j) [
    | yes u ↦ inr (omega arith)
    | no u ↦ absurd (n (omega arith))
  ]
]

-- what is written in place k is what the table tells there
module _ (t u : List ℕ) (k : ℕ) (room : 6 * k + 5 < length t) (r : Told) where
  rows_other : (h : Home) (c m n j : ℕ) → (j ≡ k → ⊥) → told_at (with_row t (6 * k) h c m n) j ≡ told_at t j
  rows_other h c m n j a = six_same t (with_row t (6 * k) h c m n) (6 * j) (λ d l. row_other t (6 * k) h c m n (6 * j + d) (apart j k d a l))

  pub kept_meant_lem : (x : Meant) → r ≡ told.Method x → u ≡ with_meant t (6 * k) x → KeptIs t u k r
  kept_meant_lem x q e = rw (q, e) (record { here = meant_there t (6 * k) x room; others = rows_other x.home x.class x.method (mark_of x) })

  pub kept_open : (h : Home) (c : ℕ) → r ≡ told.Open h c → u ≡ with_open t (6 * k) h c → KeptIs t u k r
  kept_open h c q e = rw (q, e) (record { here = open_there t (6 * k) h c room; others = rows_other h c 0 open_mark })

  -- a mark alone
  marked_others : (n j : ℕ) → (j ≡ k → ⊥) → told_at (set t (6 * k + 5) n) j ≡ told_at t j
  marked_others n j m =
      six_same t (set t (6 * k + 5) n) (6 * j) (λ d l. get_or-set_other t (6 * k + 5) (6 * j + d) n 0 (λ e. differ (apart j k d m l) e))
    where
      differ : {a : ℕ} → (a < 6 * k) ⊎ (6 * k + 6 ≤ a) → a ≡ 6 * k + 5 → ⊥
      differ (inl w) e = omega arith
      differ (inr w) e = omega arith

  pub kept_nothing : r ≡ told.Nothing → u ≡ with_nothing t (6 * k) → KeptIs t u k r
  kept_nothing q e = rw (q, e) (record { here = rw (get_or-set_same t (6 * k + 5) no_mark 0 room); others = marked_others no_mark })

-- what is open is marked so
open_mark_lem : (t : List ℕ) (i n : ℕ) → is_told (told_from t i n) ≡ false → told_from t i n ≡ told.Open (home_in t i) (get_or t (i + 3) 0)
open_mark_lem t i n = go (eqb n no_mark) (ltb no_mark n)
  where
    go : (a b : Bool) →
        is_told (pick a told.Nothing (pick b (told.Open (home_in t i) (get_or t (i + 3) 0)) (told.Method (meant_at t i n)))) ≡ false →
        pick a told.Nothing (pick b (told.Open (home_in t i) (get_or t (i + 3) 0)) (told.Method (meant_at t i n))) ≡ told.Open (home_in t i) (get_or t (i + 3) 0)
    go true b e = let z : ◌≡◌ {A = ℕ} 0 1 = cc in absurd (omega arith)
    go false true e = refl
    go false false e = let z : ◌≡◌ {A = ℕ} 0 1 = cc in absurd (omega arith)

-- it is still open, and the same is told of it, where it is wanted
pub still_open : (t u : List ℕ) (k : ℕ) → 6 * k + 5 < length t → is_told (told_at t k) ≡ false → u ≡ set t (6 * k + 5) wanted_mark → SameTold t u
still_open t u k room q e = rw e (record { size = length-set t (6 * k + 5) wanted_mark; told = λ j. which j (same_or_not j k) })
  where
    below : (d : ℕ) → d < 5 → get_or (set t (6 * k + 5) wanted_mark) (6 * k + d) 0 ≡ get_or t (6 * k + d) 0
    below d l = get_or-set_other t (6 * k + 5) (6 * k + d) wanted_mark 0 (λ e. omega arith)

    home : home_in (set t (6 * k + 5) wanted_mark) (6 * k) ≡ home_in t (6 * k)
    home =
        let from : get_or (set t (6 * k + 5) wanted_mark) (6 * k) 0 ≡ get_or t (6 * k) 0 = rw zero_on at (below 0 (omega arith)) in
        home_is (home_in (set t (6 * k + 5) wanted_mark) (6 * k)) (home_in t (6 * k)) from (below 1 (omega arith)) (below 2 (omega arith))

    here : told_at (set t (6 * k + 5) wanted_mark) k ≡ told_at t k
    here = rw (get_or-set_same t (6 * k + 5) wanted_mark 0 room, home, below 3 (omega arith)) (sym (open_mark_lem t (6 * k) (get_or t (6 * k + 5) 0) q))

    which : (j : ℕ) → (j ≡ k) ⊎ (j ≡ k → ⊥) → told_at (set t (6 * k + 5) wanted_mark) j ≡ told_at t j
    which j (inl w) = subst (λ (i : ℕ). told_at (set t (6 * k + 5) wanted_mark) i ≡ told_at t i) (sym w) here
    which j (inr w) = marked_others t (set t (6 * k + 5) wanted_mark) k room told.Nothing wanted_mark j w

-- a declaration is its places and what else is told of it
meant_of : Home → ℕ → ℕ → Bool → ℕ → Meant
meant_of h c m b p = record { home = h; class = c; method = m; kind0 = b; pack = p }

meant_is : (x y : Meant) → x.home ≡ y.home → x.class ≡ y.class → x.method ≡ y.method → x.kind0 ≡ y.kind0 → x.pack ≡ y.pack → x ≡ y
unfolding meant_of
meant_is x y h c m b p =
    ap (λ (z : Home). meant_of z x.class x.method x.kind0 x.pack) h
    ∙ ap (λ (z : ℕ). meant_of y.home z x.method x.kind0 x.pack) c
    ∙ ap (λ (z : ℕ). meant_of y.home y.class z x.kind0 x.pack) m
    ∙ ap (λ (z : Bool). meant_of y.home y.class y.method z x.pack) b
    ∙ ap (λ (z : ℕ). meant_of y.home y.class y.method y.kind0 z) p

-- six numbers read from place k
module _ (t : List ℕ) (k n : ℕ) (mark : n ≡ get_or t (6 * k + 5) 0) where
  pub nothing_read : n ≡ no_mark → told.Nothing ≡ told_at t k
  nothing_read e = rw (← mark, eq-eqb n no_mark e)

  pub open_read : no_mark < n → (h : Home) (c : ℕ) → h ≡ home_in t (6 * k) → c ≡ get_or t (6 * k + 3) 0 → told.Open h c ≡ told_at t k
  open_read e h c home class =
      rw (← mark, ne_eqb n no_mark (λ z. omega (arith, e, z)), lt-ltb no_mark n e, home, class)

  pub meant_read : (n ≡ no_mark → ⊥) → n ≤ no_mark → (x : Meant) → x.home ≡ home_in t (6 * k) → x.class ≡ get_or t (6 * k + 3) 0 → x.method ≡ get_or t (6 * k + 4) 0 → x.kind0 ≡ eqb (n % 2) 1 →
      x.pack ≡ n / 2 → told.Method x ≡ told_at t k
  meant_read e l x home class method kind0 pack =
      rw (← mark, ne_eqb n no_mark e, le-ltb no_mark n l)
      (ap told.Method (meant_is x (meant_at t (6 * k) n) home class method kind0 pack))
