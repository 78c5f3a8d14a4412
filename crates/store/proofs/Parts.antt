-- Parts of a list of bytes: the bytes from one place up to another. Assumes nothing.
use Prim.Native.Nat.{ℕ, zero, suc, ◌+◌, ◌-◌, ◌≤◌, ◌<◌}
use native.Mathlib.Omega.{arith}
use native.Mathlib.Numerals.{add-one}
use native.Mathlib.Nat.{suc-sub-suc, sub-zero, zero-sub}
use mathlib.Core.Path.{◌≡◌, sym, ◌∙◌, ap, ap₂}
use mathlib.Core.Bool.{true}
use mathlib.Core.List.{[], ◌∷◌}
use mathlib.Core.Option.{some, some-injective}
use lib.Dec.{leb, leb→le}
use lib.ListN.{length, take, drop, get_or, length-drop}
use lib.Seq.{drop-drop, drop-cons, take-take, length-take-le, take-nil}
use borrow.Author.Tests.{le-leb}
use Rattle.rules.specs.Bytes.{Bytes, span}
use Rattle.rules.proofs.Lists.{pick_some}
use Rattle.store.specs.Entries.{part}

pub drop_take : (n m : ℕ) (l : Bytes) → drop n (take m l) ≡ take (m - n) (drop n l)
drop_take zero m l = rw (sub-zero m)
drop_take (suc n) zero l = rw (zero-sub (suc n))
drop_take (suc n) (suc m) [] = sym (take-nil (suc m - suc n))
drop_take (suc n) (suc m) (x ∷ l) = rw (suc-sub-suc m n) (drop_take n m l)

-- the first byte from a place on
pub drop_one : (s : Bytes) (i : ℕ) → i < length s → drop i s ≡ get_or s i 0 ∷ drop (i + 1) s
drop_one s i h = rw (add-one, drop-cons s i 0)

pub part_cons : (s : Bytes) (i j : ℕ) → i < j → j ≤ length s → part s i j ≡ get_or s i 0 ∷ part s (i + 1) j
part_cons s i j h k =
    let n : j - i ≡ suc (j - (i + 1)) = omega arith in
    let l : i < length s = omega arith in
    rw (n, drop_one s i l)

pub part_nil : (s : Bytes) (i j : ℕ) → j ≤ i → part s i j ≡ []
part_nil s i j h = let n : j - i ≡ 0 = omega arith in rw n

pub part_length : (s : Bytes) (i j : ℕ) → j ≤ length s → length (part s i j) ≡ j - i
part_length s i j h = length-take-le (j - i) (drop i s) (omega (arith, length-drop i s))

pub part_drop : (s : Bytes) (i j n : ℕ) → drop n (part s i j) ≡ part s (i + n) j
part_drop s i j n =
    let m : j - i - n ≡ j - (i + n) = omega arith in
    drop_take n (j - i) (drop i s) ∙ ap₂ (λ (a : ℕ) (b : Bytes). take a b) m (drop-drop n i s)

pub part_take : (s : Bytes) (i j n : ℕ) → i + n ≤ j → take n (part s i j) ≡ part s i (i + n)
part_take s i j n h = let m : n ≡ i + n - i = omega arith in take-take n (j - i) (drop i s) (omega arith) ∙ ap (λ (a : ℕ). take a (drop i s)) m

-- so many bytes at a place: what was read, and that it can be read
pub span_drop : (s : Bytes) (i n : ℕ) (x : Bytes × Bytes) → i ≤ length s → span n (drop i s) ≡ some x → (i + n ≤ length s) × (part s i (i + n) ≡ x.0) ×
    (drop (i + n) s ≡ x.1)
span_drop s i n x k e =
    let p = pick_some (leb n (length (drop i s))) (some (take n (drop i s), drop n (drop i s))) x e in
    let l : n ≤ length (drop i s) = leb→le n (length (drop i s)) p.0 in
    let m : n ≡ i + n - i = omega arith in
    let z : ◌≡◌ {A = Bytes × Bytes} (take n (drop i s), drop n (drop i s)) x = some-injective _ _ p.1 in (
      omega (arith, length-drop i s),
      ap (λ (a : ℕ). take a (drop i s)) (sym m) ∙ ap (λ (y : Bytes × Bytes). y.0) z,
      sym (drop-drop n i s) ∙ ap
          (λ (y : Bytes × Bytes). y.1) z,
    )

pub drop_span : (s : Bytes) (i j : ℕ) → i ≤ j → j ≤ length s → span (j - i) (drop i s) ≡ some (part s i j, drop j s)
drop_span s i j h k =
    let l : leb (j - i) (length (drop i s)) ≡ true = le-leb (j - i) (length (drop i s)) (omega (arith, length-drop i s)) in
    let m : i + (j - i) ≡ j = omega arith in
    rw (l, drop-drop (j - i) i s, m)

pub span_part : (s : Bytes) (i j n : ℕ) (x : Bytes × Bytes) → i ≤ j → j ≤ length s → span n (part s i j) ≡ some x → (i + n ≤ j) ×
    (part s i (i + n) ≡ x.0) × (part s (i + n) j ≡ x.1)
span_part s i j n x k h e =
    let p = pick_some (leb n (length (part s i j))) (some (take n (part s i j), drop n (part s i j))) x e in
    let l : n ≤ length (part s i j) = leb→le n (length (part s i j)) p.0 in
    let m : i + n ≤ j = omega (arith, part_length s i j h) in
    let z : ◌≡◌ {A = Bytes × Bytes} (take n (part s i j), drop n (part s i j)) x = some-injective _ _ p.1 in
    (m, sym (part_take s i j n m) ∙ ap (λ (y : Bytes × Bytes). y.0) z, sym (part_drop s i j n) ∙ ap (λ (y : Bytes × Bytes). y.1) z)

-- places whose rests are equal are equal
pub drop_same : (s : Bytes) (i j : ℕ) → i ≤ length s → j ≤ length s → drop i s ≡ drop j s → i ≡ j
drop_same s i j h k e = omega (arith, ap length e, length-drop i s, length-drop j s)
