-- Entries at their places among the others: where an entry stands that a test finds, and what one entry more adds. Assumes nothing.
use Prim.Native.Nat.{ℕ, ◌≤◌, ◌<◌}
use native.Mathlib.Omega.{arith}
use native.Mathlib.Decide.{dec_le}
use mathlib.Core.Path.{◌≡◌, refl, ◌∙◌, ap, subst}
use mathlib.Core.Bool.{Bool, true, false, ◌||◌}
use mathlib.Core.List.{List, ◌∷◌, ◌++◌}
use mathlib.Core.Logic.{◌⊎◌, inl, inr}
use mathlib.Core.Option.{some}
use lib.ListN.{length}
use Rattle.rules.specs.Bytes.{Bytes, any}
use Rattle.rules.specs.Store.{Entry, first_entry}
use Rattle.rules.proofs.Tests.{of_true}
use Rattle.rules.proofs.Lists.{some_is}
use Rattle.store.specs.Entries.{EntryAt, Entries, StandFrom, place_of}
use Rattle.store.proofs.Stand.{entry_later, entries_to, entry_one, Front, entries_front, Split, entries_split, entry_apart}
use Rattle.store.proofs.Walk.{any_append, place_any, found_at}
use Rattle.index.specs.Index.{Stood}

-- an entry stands behind the opening bytes, and has bytes
pub stood_inside : {s : Bytes} {end p : ℕ} {e : Entry} {j : ℕ} → Stood s end p e j → (first_entry s ≤ p) × (p < j) × (j ≤ end)
stood_inside {s} {end} {p} {e} {j} t =
    let b = entries_to s (first_entry s) t.behind.0 p t.behind.1 in
    let l = entry_later s p e j t.stands in
    (b.0, omega arith, t.to)

-- the entries from an entry's place on
pub stood_from : {s : Bytes} {end p : ℕ} {e : Entry} {j : ℕ} → StandFrom s (first_entry s) end → Stood s end p e j → StandFrom s p end × (p < end)
stood_from {s} {end} {p} {e} {j} f t =
    let l = stood_inside t in
    let r = entries_split s (first_entry s) f.0 t.behind.0 p end (omega (arith, l.1, l.2)) t.behind.1 f.1 in
    ((r.rest, r.stand), omega (arith, l.1, l.2))

-- an entry in the middle of the others
pub record Among (es : List Entry) (e : Entry) : Type 0 where
  pub before : List Entry
  pub after : List Entry
  pub are : es ≡ before ++ e ∷ after

pub stood_among : {s : Bytes} {end p : ℕ} {e : Entry} {j : ℕ} (es : List Entry) → Entries s (first_entry s) es end → Stood s end p e j → Among es e
stood_among {s} {end} {p} {e} {j} es r t =
    let l = stood_inside t in
    split (omega (arith, l.1, l.2)) (entries_split s (first_entry s) es t.behind.0 p end (omega (arith, l.1, l.2)) t.behind.1 r)
  where
    front : (rest : List Entry) → es ≡ t.behind.0 ++ rest → Front s p rest end → Among es e
    front rest z f =
        let o = entry_one s p f.one e f.place j f.stands t.stands in
        record {
          before = t.behind.0;
          after = f.others;
          are = z ∙ ap (λ (v : List Entry). t.behind.0 ++ v)
              (f.are ∙ ap (λ (x : Entry). x ∷ f.others) o.0);
        }

    split : p < end → Split s es t.behind.0 p end → Among es e
    split l x = front x.rest x.are (entries_front s p x.rest end l x.stand)

-- a test that finds it finds one of them
pub stood_any : {s : Bytes} {end p : ℕ} {e : Entry} {j : ℕ} (q : Entry → Bool) (es : List Entry) → Entries s (first_entry s) es end → Stood s end p e j →
    q e ≡ true → any q es ≡ true
stood_any {s} {end} {p} {e} {j} q es r t h = middle (stood_among es r t)
  where
    last : (b : Bool) → (b || true) ≡ true
    last true = refl
    last false = refl

    middle : Among es e → any q es ≡ true
    middle m =
        ap (any q) m.are ∙ any_append q m.before (e ∷ m.after) ∙ ap (λ (b : Bool). any q m.before || (b || any q m.after)) h
        ∙ last (any q m.before)

-- an entry that a test finds
pub record FoundThere (q : Entry → Bool) (s : Bytes) (end : ℕ) (es : List Entry) : Type 0 where
  pub from : ℕ
  pub to : ℕ
  pub one : Entry
  pub stood : Stood s end from one to
  pub found : q one ≡ true
  pub place : place_of q (first_entry s) es ≡ some (from, to)

pub any_stood : (q : Entry → Bool) (s : Bytes) (end : ℕ) (es : List Entry) → Entries s (first_entry s) es end → any q es ≡ true → FoundThere q s end es
any_stood q s end es r h =
    let x = some_is (place_of q (first_entry s) es) (of_true (place_any q (first_entry s) es ∙ h)) in
    go x.0.0 x.0.1 x.1
  where
    go : (i j : ℕ) → place_of q (first_entry s) es ≡ some (i, j) → FoundThere q s end es
    go i j z =
        let f = found_at q s (first_entry s) es end i j r z in
        record {
          from = i;
          to = j;
          one = f.one;
          stood = record { behind = (f.before, f.earlier); stands = f.stands; to = (entries_to s j f.after end f.later).0 };
          found = f.found;
          place = z;
        }

-- of entries that end later too
pub stood_more : {s : Bytes} {end p : ℕ} {e : Entry} {j : ℕ} (later : ℕ) → end ≤ later → Stood s end p e j → Stood s later p e j
stood_more later h t = record { behind = t.behind; stands = t.stands; to = omega (arith, t.to) }

-- with one entry more an entry is an earlier one, or this one
pub stood_cases : {s : Bytes} {p : ℕ} {e : Entry} {j : ℕ} (at next : ℕ) (one : Entry) → StandFrom s (first_entry s) at → EntryAt s at one next →
    Stood s next p e j → Stood s at p e j ⊎ ((p ≡ at) × (e ≡ one) × (j ≡ next))
stood_cases {s} {p} {e} {j} at next one f u t = elim (dec_le at p) [
  | no g ↦ inl (record {
    behind = t.behind;
    stands = t.stands;
    to = entry_apart s (first_entry s) t.behind.0 f.0 p at j e t.behind.1
        t.stands f.1 (omega arith);
  })
  | yes g ↦ elim (dec_le p at) [
    | no h ↦ let a = entry_apart s (first_entry s) f.0 t.behind.0 at p next one f.1 u t.behind.1 (omega arith) in absurd
        (omega (arith, (stood_inside t).1, t.to))
    | yes h ↦
        let z : p ≡ at = omega arith in
        let o = entry_one s at e one j next (subst (λ (n : ℕ). EntryAt s n e j) z t.stands) u in
        inr (z, o.0, o.1)
  ]
]

-- the place behind the entries lies within the buffer
pub end_inside : (s : Bytes) (end : ℕ) → StandFrom s (first_entry s) end → end ≤ length s
end_inside s end f = (entries_to s (first_entry s) f.0 end f.1).1
