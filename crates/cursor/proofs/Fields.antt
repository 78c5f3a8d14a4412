-- The fields at a place: where each reader reads, what, and where it does not. Assumes nothing.
use Prim.Native.Nat.{ℕ, ◌+◌, ◌-◌, ◌≤◌, ◌<◌}
use native.Mathlib.Omega.{arith}
use native.Mathlib.Decide.{dec_le}
use native.Mathlib.Numerals.{add-one}
use mathlib.Core.Path.{◌≡◌, refl}
use mathlib.Core.List.{◌∷◌}
use mathlib.Core.Option.{none, some}
use lib.ListN.{length, take, drop, get_or, length-drop, drop_of_length-le}
use lib.Seq.{drop-cons, drop-drop}
use borrow.Author.Tests.{le-leb, lt-leb}
use Rattle.rules.specs.Bytes.{Bytes, u1, u2, span, aid}
use Rattle.rules.specs.Code.{u2_at}
use Rattle.cursor.specs.Says.{Says, says, says_none, Stops, stops, itself}

-- the byte at a place and what follows it
pub front : (s : Bytes) (i : ℕ) → i < length s → drop i s ≡ get_or s i 0 ∷ drop (i + 1) s
front s i h = rw (add-one, drop-cons s i 0)

-- one byte
pub u1_says : (s : Bytes) (i : ℕ) → i < length s → Says itself u1 s i (some (get_or s i 0, i + 1))
u1_says s i h = says {a = get_or s i 0} {j = i + 1} (rw (front s i h)) refl (omega arith)

pub u1_ends : (s : Bytes) (i : ℕ) → length s ≤ i → Says itself u1 s i none
u1_ends s i h = says_none (rw (drop_of_length-le s {i = i} h))

-- two bytes
pub u2_says : (s : Bytes) (i : ℕ) → i + 1 < length s → Says itself u2 s i (some (u2_at s i, i + 2))
u2_says s i h =
    let k : i < length s = omega arith in
    let e : i + 1 + 1 ≡ i + 2 = omega arith in
    says {a = u2_at s i} {j = i + 2} (rw (front s i k, front s (i + 1) h, e)) refl (omega arith)

pub u2_ends : (s : Bytes) (i : ℕ) → length s ≤ i + 1 → Says itself u2 s i none
u2_ends s i h = elim (dec_le (length s) i) [
  | yes k ↦ says_none (rw (drop_of_length-le s {i = i} k))
  | no k ↦
      let m : i < length s = omega arith in
      says_none (rw (front s i m, drop_of_length-le s {i = i + 1} h))
]

-- so many bytes
pub span_says : (n : ℕ) (s : Bytes) (i : ℕ) → i + n ≤ length s → span n (drop i s) ≡ some (take n (drop i s), drop (i + n) s)
span_says n s i h =
    let k : n ≤ length (drop i s) = omega (arith, length-drop i s) in
    rw (le-leb n (length (drop i s)) k, drop-drop n i s)

pub span_ends : (n : ℕ) (s : Bytes) (i : ℕ) → length s - i < n → span n (drop i s) ≡ none
span_ends n s i h =
    let k : length (drop i s) < n = omega (arith, length-drop i s) in
    rw (lt-leb n (length (drop i s)) k)

pub span_stops : (n : ℕ) (s : Bytes) (i : ℕ) → i + n ≤ length s → Stops (span n) s i (some (i + n))
span_stops n s i h = stops (span_says n s i h) h

-- an AID: its length first
module _ (s : Bytes) (i : ℕ) (h : i < length s) where
  pub aid_low : get_or s i 0 < 5 → Says itself aid s i none
  aid_low l = says_none (rw (front s i h, lt-leb 5 (get_or s i 0) l))

  pub aid_high : 5 ≤ get_or s i 0 → 16 < get_or s i 0 → Says itself aid s i none
  aid_high k l = says_none (rw (front s i h, le-leb 5 (get_or s i 0) k, lt-leb (get_or s i 0) 16 l))

  pub aid_cut : 5 ≤ get_or s i 0 → get_or s i 0 ≤ 16 → length s - (i + 1) < get_or s i 0 → Says itself aid s i none
  aid_cut k m l = says_none (rw (front s i h, le-leb 5 (get_or s i 0) k, le-leb (get_or s i 0) 16 m) (span_ends (get_or s i 0) s (i + 1) l))

  pub aid_says : 5 ≤ get_or s i 0 → get_or s i 0 ≤ 16 → i + 1 + get_or s i 0 ≤ length s → (n : ℕ) → n ≡ get_or s i 0 → Says itself aid s i
      (some (take n (drop (i + 1) s), i + 1 + n))
  aid_says k m l n e = rw e (says {a = take (get_or s i 0) (drop (i + 1) s)} {j = i + 1 + get_or s i 0}
      (rw (front s i h, le-leb 5 (get_or s i 0) k, le-leb (get_or s i 0) 16 m) (span_says (get_or s i 0) s (i + 1) l)) refl l)

pub aid_ends : (s : Bytes) (i : ℕ) → length s ≤ i → Says itself aid s i none
aid_ends s i h = says_none (rw (drop_of_length-le s {i = i} h))
