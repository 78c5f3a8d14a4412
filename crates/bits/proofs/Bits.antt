-- What setting a bit of a byte does to its bits, and from there over the set. Assumes nothing.
use Prim.Native.Nat.{ℕ, zero, suc, ◌/◌, ◌%◌, ◌<◌, max, ◌^◌}
use native.Mathlib.Omega.{arith}
use mathlib.Core.Path.{◌≡◌, refl, sym, ap₂, ◌∙◌}
use mathlib.Core.Bool.{Bool, true, false, ◌&&◌, ◌||◌}
use mathlib.Core.List.{List, ◌++◌}
use lib.Bits.{bit_or}
use lib.Dec.{T, eqb, ltb}
use lib.ListN.{length, get_or, set, replicate}
use lib.Seq.{get_or-set_same, get_or-set_other}
use native.Mathlib.Nat.{zero-div}
use borrow.Author.Tests.{ltb-true, eqb-true, eqb-false, eq-eqb, ne_eqb}
use Rattle.rules.specs.Bytes.{pick}
use Rattle.rules.proofs.Tests.{and_l, and_r, is_true}
use Rattle.bits.specs.Bits.{power_of, flag, bit_at, with_bit}
use Rattle.bits.proofs.Digits.{digit, flag_digit, or_digit}

all_below : (ℕ → Bool) → ℕ → Bool
all_below f zero = true
all_below f (suc n) = f n && all_below f n

below_all : (f : ℕ → Bool) (n : ℕ) → T (all_below f n) → (k : ℕ) → k < n → T (f k)
unfolding all_below
below_all f zero t k h = absurd (omega arith)
below_all f (suc n) t k h = go (eqb k n) refl (λ lt. below_all f n (and_r (f n) (all_below f n) t) k lt)
  where
    go : (b : Bool) → eqb k n ≡ b → (k < n → T (f k)) → T (f k)
    go true e rec = rw (eqb-true k n e) (and_l (f n) (all_below f n) t)
    go false e rec = let ne = eqb-false k n e in rec (omega (arith, ne))

-- bit j of the power k is set where j is k
power_digit : (k j : ℕ) → k < 8 → j < 8 → digit (power_of k) j ≡ pick (eqb j k) 1 0
unfolding power_of all_below
power_digit k j hk hj =
    let row : T (all_below (λ j. eqb (digit (power_of k) j) (pick (eqb j k) 1 0)) 8) = below_all
    (λ k. all_below (λ j. eqb (digit (power_of k) j) (pick (eqb j k) 1 0)) 8) 8 tt k hk in
    eqb-true _ _ (is_true _ (below_all (λ j. eqb (digit (power_of k) j) (pick (eqb j k) 1 0)) 8 row j hj))

-- of byte w with bit k
module _ (w k : ℕ) (hk : k < 8) where
  bit_is : (j : ℕ) → j < 8 → flag (bit_or w (power_of k)) j ≡ max (flag w j) (pick (eqb j k) 1 0)
  bit_is j hj = flag_digit (bit_or w (power_of k)) j hj ∙ or_digit j w (power_of k) ∙ ap₂ max (sym (flag_digit w j hj)) (power_digit k j hk hj)

  bit_new : flag (bit_or w (power_of k)) k ≡ 1
  bit_new = let e : flag (bit_or w (power_of k)) k ≡ max (flag w k) 1 = rw (eq-eqb k k refl) at (bit_is k hk) in omega arith

  bit_other : (j : ℕ) → j < 8 → (j ≡ k → ⊥) → flag (bit_or w (power_of k)) j ≡ flag w j
  bit_other j hj ne = let e : flag (bit_or w (power_of k)) j ≡ max (flag w j) 0 = rw (ne_eqb j k ne) at (bit_is j hj) in omega arith

-- the byte stored anew
module _ (s : List ℕ) (i : ℕ) (hi : i / 8 < length s) where
  abbrev stored : List ℕ
  stored = set s (i / 8) (bit_or (get_or s (i / 8) 0) (power_of (i % 8)))

  pub bit_set : (j : ℕ) → bit_at stored j ≡ with_bit (bit_at s) i j
  unfolding bit_at with_bit
  bit_set j = go (eqb j i) refl (eqb (j / 8) (i / 8)) refl
    where
      go : (b : Bool) → eqb j i ≡ b → (c : Bool) → eqb (j / 8) (i / 8) ≡ c → eqb (flag (get_or stored (j / 8) 0) (j % 8)) 1 ≡
          (b || eqb (flag (get_or s (j / 8) 0) (j % 8)) 1)
      go true e c f = rw (eqb-true j i e, get_or-set_same s (i / 8) (bit_or (get_or s (i / 8) 0) (power_of (i % 8))) 0 hi)
          (eq-eqb _ 1 (bit_new (get_or s (i / 8) 0) (i % 8) (omega arith)))
      go false e true f =
          let ne = eqb-false j i e in
          let q : j / 8 ≡ i / 8 = eqb-true _ _ f in
          rw (
            q,
            get_or-set_same s (i / 8) (bit_or (get_or s (i / 8) 0) (power_of (i % 8))) 0 hi,
            bit_other (get_or s (i / 8) 0) (i % 8) (omega arith) (j % 8)
                (omega arith) (λ r. ne (omega arith)),
          ) refl
      go false e false f = rw (get_or-set_other s (i / 8) (j / 8) (bit_or (get_or s (i / 8) 0) (power_of (i % 8))) 0 (eqb-false _ _ f)) refl

zero_flag : (k : ℕ) → flag 0 k ≡ 0
zero_flag k = rw (zero-div (power_of k)) refl

-- a zero byte has no bit
pub zero_bit : (s : List ℕ) (j : ℕ) → get_or s (j / 8) 0 ≡ 0 → bit_at s j ≡ false
unfolding bit_at
zero_bit s j e = rw (e, zero_flag (j % 8)) refl

-- zeros in front have none
pub zeros_front : (n : ℕ) (d : List ℕ) (k : ℕ) → k < n → get_or (replicate n 0 ++ d) k 0 ≡ 0
zeros_front zero d k h = absurd (omega arith)
zeros_front (suc n) d zero h = refl
zeros_front (suc n) d (suc k) h = zeros_front n d k (omega arith)

-- zeros alone have none, nor is there one behind them
pub zeros_all : (n k : ℕ) → ◌≡◌ {A = ℕ} (get_or (replicate n 0) k 0) 0
zeros_all zero k = refl
zeros_all (suc n) zero = refl
zeros_all (suc n) (suc k) = zeros_all n k

-- a power of two
pub power_is : (k : ℕ) → k < 8 → 2 ^ k ≡ power_of k
unfolding all_below power_of
power_is k h = eqb-true _ _ (is_true _ (below_all (λ k. eqb (2 ^ k) (power_of k)) 8 tt k h))

pub power_pos : (k : ℕ) → k < 8 → 0 < power_of k
unfolding all_below power_of
power_pos k h = ltb-true _ _ (is_true _ (below_all (λ k. ltb 0 (power_of k)) 8 all_pos k h))
  where
    all_pos : T (all_below (λ k. ltb 0 (power_of k)) 8)
    all_pos = tt

-- the power p that was looked up
module _ (s : List ℕ) (i p : ℕ) (hp : p ≡ power_of (i % 8)) where
  pub bit_is_test : eqb (get_or s (i / 8) 0 / p % 2) 1 ≡ bit_at s i
  unfolding bit_at
  bit_is_test = rw hp refl

  pub set_case : i / 8 < length s → (j : ℕ) → bit_at (set s (i / 8) (bit_or (get_or s (i / 8) 0) p)) j ≡ with_bit (bit_at s) i j
  set_case hi j = rw hp (bit_set s i hi j)
