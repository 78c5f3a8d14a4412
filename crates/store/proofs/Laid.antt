-- The layout by its bytes: a buffer's entries as the definitions read them are those that stand at their places. Assumes nothing.
use Prim.Native.Nat.{ℕ, suc, ◌+◌, ◌-◌, ◌≤◌, ◌<◌}
use native.Mathlib.Omega.{arith}
use native.Mathlib.Decide.{dec_le}
use mathlib.Core.Path.{◌≡◌, refl, sym, ◌∙◌, ap, subst}
use mathlib.Core.Bool.{true}
use mathlib.Core.List.{List, [], ◌∷◌}
use mathlib.Core.Option.{Option, none, some, some-injective}
use lib.Dec.{T, leb, leb→le, lt→ltb}
use lib.ListN.{length, drop, get_or, length-drop}
use borrow.Author.Tests.{le-leb}
use Rattle.rules.specs.Bytes.{Bytes, all, pick, ◌and_then◌, u2, span}
use Rattle.rules.specs.Code.{u2_at}
use Rattle.rules.specs.Store.{Entry, used, entries_in, is_zero, up_to_used, opening_of, entries_of, store_opening, first_entry}
use Rattle.rules.proofs.Tests.{and_i, is_true, none_some, and_then_is}
use Rattle.rules.proofs.Lists.{pick_some}
use Rattle.rules.proofs.Written.{entries_few}
use Rattle.rules.proofs.Opens.{is_byte, entries_opened, opening_fits}
use Rattle.rules.proofs.Back.{write_read}
use Rattle.rules.proofs.Limits as limits
use Rattle.store.specs.Entries.{part, Entries, Holds, Laid}
use Rattle.store.proofs.Parts.{drop_one, part_length, span_drop, drop_span}
use Rattle.store.proofs.Stand.{entries_to, entries_next}
use Rattle.store.proofs.EntriesRead.{part_stand, stand_part}

-- a buffer with the store's layout
pub record LaidBy (s : Bytes) (es : List Entry) : Type 0 where
  pub opens : opening_of s ≡ some (store_opening s)
  pub inside : first_entry s ≤ length s
  pub from : first_entry s ≤ u2_at s 5
  pub stand : Entries s (first_entry s) es (u2_at s 5)
  pub zeros : T (all is_zero (drop (u2_at s 5) s))

-- its used value is within the buffer
pub laid_to : (s : Bytes) (es : List Entry) → LaidBy s es → u2_at s 5 ≤ length s
laid_to s es t = (entries_to s (first_entry s) es (u2_at s 5) t.stand).1

-- what follows the used field
used_then : Bytes × Bytes → Option (List Entry)
used_then x = pick (all is_zero x.1) (entries_in (length x.0) x.0) none

-- the used field
used_at_lem : (s : Bytes) → 7 ≤ length s → u2 (drop 5 s) ≡ some (u2_at s 5, drop 7 s)
used_at_lem s h =
    let a : 5 < length s = omega arith in
    let b : 6 < length s = omega arith in
    ap u2 (drop_one s 5 a ∙ ap (λ (l : Bytes). get_or s 5 0 ∷ l) (drop_one s 6 b))

used_short : (s : Bytes) → length s < 7 → u2 (drop 5 s) ≡ none
used_short s h = short (drop 5 s) (omega (arith, length-drop 5 s))
  where
    short : (bs : Bytes) → length bs < 2 → u2 bs ≡ none
    short [] g = refl
    short (a ∷ []) g = refl
    short (a ∷ b ∷ bs) g = absurd (omega arith)

pub laid_by : (s : Bytes) (es : List Entry) → entries_of s ≡ some es → LaidBy s es
unfolding entries_of used_then
laid_by s es e = elim (dec_le 7 (length s)) [
  | yes h ↦ inside h (rw (used_at_lem s h) at behind)
  | no h ↦ absurd (none_some (rw (used_short s (omega arith)) at behind))
]
  where
    o : opening_of s ≡ some (store_opening s)
    o = entries_opened s es e

    least : ℕ
    least = first_entry s

    behind : (u2 (drop 5 s) and_then λ x. up_to_used least x.0 (drop least s)) ≡ some es
    behind = rw o at e

    inside : 7 ≤ length s → up_to_used least (u2_at s 5) (drop least s) ≡ some es → LaidBy s es
    inside h q =
        let u = pick_some (leb least (u2_at s 5)) (span (u2_at s 5 - least) (drop least s) and_then used_then) es q in
        let l : least ≤ u2_at s 5 = leb→le least (u2_at s 5) u.0 in
        let x = and_then_is (span (u2_at s 5 - least) (drop least s)) used_then es u.1 in
        let y = pick_some (all is_zero x.0.1) (entries_in (length x.0.0) x.0.0) es x.2 in
        let g : least ≤ length s = opening_fits s (store_opening s) o h in
        let d = span_drop s least (u2_at s 5 - least) x.0 g x.1 in
        let m : least + (u2_at s 5 - least) ≡ u2_at s 5 = omega arith in
        let d₁ : part s least (u2_at s 5) ≡ x.0.0 = ap (part s least) (sym m) ∙ d.1 in
        let d₂ : drop (u2_at s 5) s ≡ x.0.1 = ap (λ (n : ℕ). drop n s) (sym m) ∙ d.2 in
        record {
          opens = o;
          inside = g;
          from = l;
          stand = part_stand (length x.0.0) s least (u2_at s 5) es l (omega (arith, d.0)) (ap (entries_in (length x.0.0)) d₁ ∙ y.1);
          zeros = subst (λ (b : Bytes). T (all is_zero b)) (sym d₂) y.0;
        }

pub by_laid : (s : Bytes) (es : List Entry) → LaidBy s es → entries_of s ≡ some es
unfolding entries_of
by_laid s es t =
    let i : ℕ = first_entry s in
    let k = (entries_to s i es (u2_at s 5) t.stand).1 in
    let l : leb i (u2_at s 5) ≡ true = le-leb i (u2_at s 5) t.from in
    let n : length es ≤ length (part s i (u2_at s 5)) = omega (arith, entries_few es, entries_next s i es (u2_at s 5) t.stand, part_length s i (u2_at s 5) k) in
    let h : 7 ≤ length s = omega (arith, t.inside, (limits.first_entry_lem s).0) in
    rw (t.opens, used_at_lem s h) (rw (l, drop_span s i (u2_at s 5) t.from k, is_true (all is_zero (drop (u2_at s 5) s)) t.zeros)
    (stand_part (length (part s i (u2_at s 5))) s i (u2_at s 5) es n t.stand))

-- bytes below 256, by their places
pub all_bytes : (s : Bytes) → ((i : ℕ) → get_or s i 0 < 256) → T (all is_byte s)
all_bytes [] h = tt
all_bytes (b ∷ s) h = and_i (is_byte b) (all is_byte s) (lt→ltb b 256 (h 0)) (all_bytes s (λ i. h (suc i)))

-- a buffer of bytes that reads as entries is their layout
pub holds : (s : Bytes) → ((i : ℕ) → get_or s i 0 < 256) → (es : List Entry) → entries_of s ≡ some es → Holds s es
holds s h es e =
    let t = laid_by s es e in
    let u : u2_at s 5 ≡ used (store_opening s) es = sym (entries_next s (first_entry s) es (u2_at s 5) t.stand) in
    record { reads = e; bytes = write_read s es (all_bytes s h) e; stand = subst (λ (n : ℕ). Entries s (first_entry s) es n) u t.stand }

-- no entries where none can be
pub reads_none : (s : Bytes) → ((es : List Entry) → LaidBy s es → ⊥) → entries_of s ≡ none
reads_none s h = go (entries_of s) refl
  where
    go : (o : Option (List Entry)) → entries_of s ≡ o → entries_of s ≡ none
    go none e = e
    go (some es) e = absurd (h es (laid_by s es e))

-- the used value of the entries of a buffer
abbrev pub used_of : Bytes → Option ℕ
used_of s = entries_of s and_then λ es. some (used (store_opening s) es)

-- what the answer says where there is no layout, and where there is one
module _ (s : Bytes) (h : (i : ℕ) → get_or s i 0 < 256) where
  pub laid_none : ((es : List Entry) → LaidBy s es → ⊥) → (none ≡ used_of s) × ((es : List Entry) → entries_of s ≡ some es → Holds s es)
  laid_none g = (rw (reads_none s g), holds s h)

  pub laid_some : (u : ℕ) (es : List Entry) → u ≡ u2_at s 5 → LaidBy s es → (some u ≡ used_of s) ×
      ((es : List Entry) → entries_of s ≡ some es → Holds s es)
  laid_some u es e t =
      let n : used (store_opening s) es ≡ u = entries_next s (first_entry s) es (u2_at s 5) t.stand ∙ sym e in
      (sym (rw (by_laid s es t) (ap some n)), holds s h)

-- the layout that an answer tells of
pub laid_told : (s : Bytes) (u : ℕ) → some u ≡ used_of s → ((es : List Entry) → entries_of s ≡ some es → Holds s es) → Laid s u
laid_told s u e h =
    let x = and_then_is (entries_of s) (λ es. some (used (store_opening s) es)) u (sym e) in
    (x.0, h x.0 x.1, sym (some-injective _ _ x.2))
