-- Values of one width: read exactly where that many bytes are left, one or a list of them. Assumes nothing.
use Prim.Native.Nat.{ℕ, zero, suc, ◌+◌, ◌*◌, ◌≤◌, ◌<◌}
use native.Mathlib.Omega.{arith}
use native.Mathlib.Decide.{dec_le}
use native.Mathlib.Nat.{mul-zero, mul-suc}
use mathlib.Core.Path.{◌≡◌, refl}
use mathlib.Core.Option.{none, some}
use lib.ListN.{length}
use Rattle.rules.specs.Bytes.{Bytes, Reader, ◌>>=◌, ret, u1, u2, many}
use Rattle.cursor.specs.Says.{Stops}
use Rattle.cursor.proofs.Steps.{stop_of, stop_none, then_none, then_any, made_leads}
use Rattle.cursor.proofs.Fields.{u1_says, u1_ends, u2_says, u2_ends}
use Rattle.cursor.proofs.Counts.{none_left, next_none, next_leads}

-- a value of w bytes is read exactly where that many are left
pub record Wide {A : Type 0} (r : Reader A) (s : Bytes) (w : ℕ) : Type 0 where
  pub reads : (i : ℕ) → i + w ≤ length s → Stops r s i (some (i + w))
  pub ends : (i : ℕ) → length s < i + w → Stops r s i none

pub wide_u1 : (s : Bytes) → Wide u1 s 1
wide_u1 s = record { reads = λ i h. stop_of (u1_says s i (omega arith)); ends = λ i h. stop_none (u1_ends s i (omega arith)) }

pub wide_u2 : (s : Bytes) → Wide u2 s 2
wide_u2 s = record { reads = λ i h. stop_of (u2_says s i (omega arith)); ends = λ i h. stop_none (u2_ends s i (omega arith)) }

-- what is made of a value
pub wide_made : {A B : Type 0} {r : Reader A} {s : Bytes} {w : ℕ} (g : A → B) → Wide r s w → Wide (r >>= λ a. ret (g a)) s w
wide_made {r = r} {w = w} g h = record { reads = λ i k. made_leads r g (some (i + w)) (h.reads i k); ends = λ i k. made_leads r g none (h.ends i k) }

-- one value and then another
pub wide_then : {A B : Type 0} {r : Reader A} {s : Bytes} {v w : ℕ} (k : A → Reader B) → Wide r s v → ((a : A) → Wide (k a) s w) → Wide (r >>= k) s (v + w)
wide_then {r = r} {s} {v} {w} k first second = record { reads = reads; ends = ends }
  where
    reads : (i : ℕ) → i + (v + w) ≤ length s → Stops (r >>= k) s i (some (i + (v + w)))
    reads i h =
        let e : i + (v + w) ≡ i + v + w = omega arith in
        rw e (then_any k (first.reads i (omega arith)) (some (i + v + w)) (λ a. (second a).reads (i + v) (omega arith)))

    ends : (i : ℕ) → length s < i + (v + w) → Stops (r >>= k) s i none
    ends i h = elim (dec_le (i + v) (length s)) [
      | yes m ↦ then_any k (first.reads i m) none (λ a. (second a).ends (i + v) (omega arith))
      | no m ↦ then_none k (first.ends i (omega arith))
    ]

-- so many values of one width
module _ {A : Type 0} {r : Reader A} {s : Bytes} {w : ℕ} (wide : Wide r s w) where
  pub wide_reads : (n i : ℕ) → i + w * n ≤ length s → Stops (many n r) s i (some (i + w * n))
  wide_reads zero i h =
      let e : w * 0 ≡ 0 = mul-zero w in
      let f : i + w * 0 ≡ i = omega arith in
      rw f (none_left r 0 i (omega arith) (omega arith))
  wide_reads (suc n) i h =
      let e : w * suc n ≡ w * n + w = mul-suc w n in
      let f : i + w * suc n ≡ i + w + w * n = omega arith in
      rw f (next_leads r (suc n) n i (i + w) refl (wide.reads i (omega arith)) (some (i + w + w * n)) (wide_reads n (i + w) (omega arith)))

  pub wide_ends : (n i : ℕ) → i ≤ length s → length s < i + w * n → Stops (many n r) s i none
  wide_ends zero i k h = absurd (omega (arith, mul-zero w))
  wide_ends (suc n) i k h = elim (dec_le (i + w) (length s)) [
    | yes m ↦
        let e : w * suc n ≡ w * n + w = mul-suc w n in
        next_leads r (suc n) n i (i + w) refl (wide.reads i m) none (wide_ends n (i + w) m (omega arith))
    | no m ↦ next_none r (suc n) i (omega arith) (wide.ends i (omega arith))
  ]
