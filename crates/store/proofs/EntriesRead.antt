-- Entries as the definitions read them from a place up to another are those that stand there. Assumes nothing.
use Prim.Native.Nat.{ℕ, zero, suc, ◌+◌, ◌-◌, ◌*◌, ◌≤◌, ◌<◌}
use native.Mathlib.Omega.{arith}
use native.Mathlib.Decide.{dec_le}
use mathlib.Core.Path.{◌≡◌, refl, sym, ◌∙◌, ap, ap₂, subst}
use mathlib.Core.List.{List, [], ◌∷◌}
use mathlib.Core.Option.{Option, some, some-injective}
use lib.ListN.{length, take, drop, get_or, length-drop, drop_of_length-le}
use lib.Seq.{get_or-take, take-take, length-take-le}
use Rattle.rules.specs.Bytes.{Bytes, ◌and_then◌}
use Rattle.rules.specs.Code.{u2_at}
use Rattle.rules.specs.Store.{Entry, entry_of, entry, entries_in}
use Rattle.rules.proofs.Tests.{none_some, and_then_is}
use Rattle.store.specs.Entries.{part, EntryAt, Entries, over, more}
use Rattle.store.proofs.Parts.{drop_take, drop_one}
use Rattle.store.proofs.Stand.{next_of, entry_reads, entry_by, by_entry, entry_later, entries_to}

-- entries of all bytes from a place on
abbrev entries_then : ℕ → Entry × Bytes → Option (List Entry)
entries_then k x = entries_in k x.1 and_then λ es. some (x.0 ∷ es)

entries_in_suc : (k : ℕ) (bs : Bytes) → 0 < length bs → entries_in (suc k) bs ≡ (entry bs and_then entries_then k)
entries_in_suc k [] h = absurd (omega arith)
entries_in_suc k (b ∷ bs) h = refl

entries_in_nil : (k : ℕ) → entries_in k [] ≡ some []
entries_in_nil zero = refl
entries_in_nil (suc k) = refl

-- no entries stand at the end
none_stand : (k : ℕ) (s : Bytes) (i : ℕ) (es : List Entry) → i ≤ length s → length s ≤ i → entries_in k (drop i s) ≡ some es → Entries s i es (length s)
none_stand k s i es h g e =
    let z : i ≡ length s = omega arith in
    let w : [] ≡ es = some-injective _ _ (sym (entries_in_nil k) ∙ ap (entries_in k) (sym (drop_of_length-le s {i = i} g)) ∙ e) in
    subst (λ (l : List Entry). Entries s i l (length s)) w (subst (λ (n : ℕ). Entries s i [] n) z (over h))

-- entries that read stand at their places
pub in_stand : (k : ℕ) (s : Bytes) (i : ℕ) (es : List Entry) → i ≤ length s → entries_in k (drop i s) ≡ some es → Entries s i es (length s)
in_stand zero s i es h e = elim (dec_le (length s) i) [
  | yes g ↦ none_stand zero s i es h g e
  | no g ↦ let l : i < length s = omega arith in absurd (none_some (rw (drop_one s i l) at e))
]
in_stand (suc k) s i es h e = elim (dec_le (length s) i) [
  | yes g ↦ none_stand (suc k) s i es h g e
  | no g ↦ further (omega arith) (λ n fs h e. in_stand k s n fs h e)
]
  where
    further : i < length s → ((n : ℕ) (fs : List Entry) → n ≤ length s → entries_in k (drop n s) ≡ some fs → Entries s n fs (length s)) → Entries s i es
        (length s)
    further l rec =
        let q : (entry (drop i s) and_then entries_then k) ≡ some es = sym (entries_in_suc k (drop i s) (omega (arith, length-drop i s))) ∙ e in
        let x = and_then_is (entry (drop i s)) (entries_then k) es q in
        let y = and_then_is (entries_in k x.0.1) (λ fs. some (x.0.0 ∷ fs)) es x.2 in
        let r = entry_reads s i x.0.0 x.0.1 x.1 in
        let m : Entries s (next_of s i) y.0 (length s) = rec (next_of s i) y.0 r.0.to (ap (entries_in k) r.1 ∙ y.1) in
        subst (λ (l : List Entry). Entries s i l (length s)) (some-injective _ _ y.2) (more (by_entry s i x.0.0 (next_of s i) r.0) m)

-- and the other way
stand_to : (s : Bytes) (k i : ℕ) (es : List Entry) (n : ℕ) → n ≡ length s → length es ≤ k → Entries s i es n → entries_in k (drop i s) ≡ some es
stand_to s k i _ n e h (over g) = rw (drop_of_length-le s {i = i} (omega arith)) (entries_in_nil k)
stand_to s zero i _ n e h (more {j = j} {e = x} {es = es} t r) = absurd (omega arith)
stand_to s (suc k) i _ n e h (more {j = j} {e = x} {es = es} t r) =
    let a = entry_later s i x j t in
    let b = entries_to s j es n r in
    entries_in_suc k (drop i s) (omega (arith, length-drop i s)) ∙ rw (t.is, stand_to s k j es n e (omega arith) r)

pub stand_in : (k : ℕ) (s : Bytes) (i : ℕ) (es : List Entry) → length es ≤ k → Entries s i es (length s) → entries_in k (drop i s) ≡ some es
stand_in k s i es = stand_to s k i es (length s) refl

-- what stands before a place stands in the bytes before it
module _ (s : Bytes) (k : ℕ) (h : k ≤ length s) where
  len : length (take k s) ≡ k
  len = length-take-le k s h

  part_take_first : (i j : ℕ) → j ≤ k → part (take k s) i j ≡ part s i j
  part_take_first i j g = ap (take (j - i)) (drop_take i k s) ∙ take-take (j - i) (k - i) (drop i s) (omega arith)

  field_take : (i j : ℕ) → i + 3 + u2_at s (i + 1) ≡ j → j ≤ k → (get_or (take k s) i 0 ≡ get_or s i 0) × (u2_at (take k s) (i + 1) ≡ u2_at s (i + 1))
  field_take i j e g = (
    get_or-take k s i 0 (omega arith),
    ap₂ (λ (x y : ℕ). x * 256 + y) (get_or-take k s (i + 1) 0 (omega arith)) (get_or-take k s (i + 1 + 1) 0 (omega arith)),
  )

  pub entry_first : (i : ℕ) (e : Entry) (j : ℕ) → j ≤ k → EntryAt s i e j → EntryAt (take k s) i e j
  entry_first i e j g t =
      let b = entry_by s i e j t in
      let f = field_take i j b.next g in
      by_entry (take k s) i e j (record {
        next = ap (λ (n : ℕ). i + 3 + n) f.1 ∙ b.next;
        to = omega (arith, len);
        is = ap₂ entry_of f.0 (part_take_first (i + 3) j g) ∙ b.is;
      })

  pub first_entry_lem : (i : ℕ) (e : Entry) (j : ℕ) → EntryAt (take k s) i e j → EntryAt s i e j
  first_entry_lem i e j t =
      let b = entry_by (take k s) i e j t in
      let g : j ≤ k = omega (arith, len, b.to) in
      let f₀ : get_or (take k s) i 0 ≡ get_or s i 0 = get_or-take k s i 0 (omega (arith, b.next)) in
      let f₁ : u2_at (take k s) (i + 1) ≡ u2_at s (i + 1) =
      ap₂ (λ (x y : ℕ). x * 256 + y) (get_or-take k s (i + 1) 0 (omega (arith, b.next))) (get_or-take k s (i + 1 + 1) 0 (omega (arith, b.next))) in
      by_entry s i e j (record {
        next = ap (λ (n : ℕ). i + 3 + n) (sym f₁) ∙ b.next;
        to = omega arith;
        is = ap₂ entry_of (sym f₀) (sym (part_take_first (i + 3) j g)) ∙ b.is;
      })

pub entries_first : (s : Bytes) (i : ℕ) (es : List Entry) (k : ℕ) → Entries s i es k → Entries (take k s) i es k
entries_first s i _ _ (over h) = over {i = i} (omega (arith, length-take-le i s h))
entries_first s i _ k (more {j = j} {e = e} {es = es} t r) = let b = entries_to s j es k r in more (entry_first s k b.1 i e j b.0 t)
    (entries_first s j es k r)

entries_from : (s : Bytes) (k : ℕ) → k ≤ length s → (i : ℕ) (es : List Entry) (m : ℕ) → Entries (take k s) i es m → Entries s i es m
entries_from s k h i _ _ (over g) = over {i = i} (omega (arith, length-take-le k s h))
entries_from s k h i _ m (more {j = j} {e = e} {es = es} t r) = more (first_entry_lem s k h i e j t) (entries_from s k h j es m r)

pub first_entries : (s : Bytes) (i : ℕ) (es : List Entry) (k m : ℕ) → k ≤ length s → Entries (take k s) i es m → Entries s i es m
first_entries s i es k m h = entries_from s k h i es m

-- entries up to a place, as they are read and as they stand
pub part_stand : (n : ℕ) (s : Bytes) (i k : ℕ) (es : List Entry) → i ≤ k → k ≤ length s → entries_in n (part s i k) ≡ some es → Entries s i es k
part_stand n s i k es h g e =
    let l : length (take k s) ≡ k = length-take-le k s g in
    first_entries s i es k k g (subst (λ (m : ℕ). Entries (take k s) i es m) l
    (in_stand n (take k s) i es (omega arith) (ap (entries_in n) (drop_take i k s) ∙ e)))

pub stand_part : (n : ℕ) (s : Bytes) (i k : ℕ) (es : List Entry) → length es ≤ n → Entries s i es k → entries_in n (part s i k) ≡ some es
stand_part n s i k es h r =
    let l : length (take k s) ≡ k = length-take-le k s (entries_to s i es k r).1 in
    ap (entries_in n) (sym (drop_take i k s)) ∙ stand_in n (take k s) i es h (subst (λ (m : ℕ). Entries (take k s) i es m) (sym l) (entries_first s i es k r))
