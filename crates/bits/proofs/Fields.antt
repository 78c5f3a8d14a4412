-- Fields of a width: what writing one does to all, digit by digit. Assumes nothing.
--
-- bit_of s p == bit p of the bytes s, 0 or 1
use Prim.Native.Nat.{ℕ, zero, suc, ◌+◌, ◌-◌, ◌*◌, ◌/◌, ◌%◌, ◌^◌, ◌<◌, ◌≤◌}
use native.Mathlib.Omega.{arith}
use native.Mathlib.Decide.{dec_lt, dec_le, ℕ_discrete}
use native.Mathlib.Nat.{mod-one, div-one, mod-lt, lt_of_lt_of_le, one-mul, mul-le-mul_right, suc-mul, div-lt_iff_lt-mul}
use mathlib.Core.Path.{◌≡◌, refl, sym, ap, ap₂, ◌∙◌, subst}
use mathlib.Core.Bool.{Bool, true, false}
use mathlib.Core.List.{List}
use lib.Dec.{eqb}
use lib.Pow.{pow_pos, pow-add, pow_mono, shl_exact, shr_le, shr-shr, shr_lt, high, low, mod-pow-add, mod-mod-pow, field}
use lib.ListN.{length, get_or, set, length-set}
use lib.Seq.{get_or-set_same, get_or-set_other}
use borrow.Author.Tests.{eqb-true, eqb-false}
use Rattle.rules.specs.Bytes.{pick}
use Rattle.bits.specs.Bits.{two_at, field_at, with_field, PutIs}
use Rattle.bits.proofs.Digits.{digit}

-- the digits of a number's high part and of its low part
digit_high : (r x k : ℕ) → digit (x / 2 ^ r) k ≡ digit x (r + k)
digit_high zero x k = let e : k ≡ 0 + k = omega arith in ap₂ (λ (n m : ℕ). digit n m) (div-one x) e
digit_high (suc r) x k =
    let e : suc r ≡ 1 + r = omega arith in
    let half : digit (x / 2 ^ suc r) k ≡ digit (x / 2 / 2 ^ r) k = ap (λ (n : ℕ). digit n k) (ap (λ (m : ℕ). x / 2 ^ m) e ∙ sym (shr-shr x 1 r)) in
    let next : suc (r + k) ≡ suc r + k = omega arith in
    half ∙ digit_high r (x / 2) k ∙ ap (digit x) next

digit_low : (r x k : ℕ) → k < r → digit (x % 2 ^ r) k ≡ digit x k
digit_low zero x k h = absurd (omega arith)
digit_low (suc r) x zero h = let e : suc r ≡ r + 1 = omega arith in ap (λ (m : ℕ). x % 2 ^ m % 2) e ∙ mod-mod-pow x r 1
digit_low (suc r) x (suc k) h =
    let e : suc r ≡ r + 1 = omega arith in
    let half : digit (x % 2 ^ suc r / 2) k ≡ digit (x / 2 % 2 ^ r) k = ap (λ (n : ℕ). digit n k) (ap (λ (m : ℕ). x % 2 ^ m / 2) e ∙ field x r 1) in
    half ∙ digit_low r (x / 2) k (omega arith)

-- the digits tell the low part
digits_same : (w x y : ℕ) → ((k : ℕ) → k < w → digit x k ≡ digit y k) → x % 2 ^ w ≡ y % 2 ^ w
digits_same zero x y e = mod-one x ∙ sym (mod-one y)
digits_same (suc w) x y e =
    let rest : x / 2 % 2 ^ w ≡ y / 2 % 2 ^ w = digits_same w (x / 2) (y / 2) (λ k h. e (suc k) (omega arith)) in
    by x ∙ ap₂ (λ (m n : ℕ). m * 2 + n) rest (e 0 (omega arith)) ∙ sym (by y)
  where
    by : (n : ℕ) → n % 2 ^ suc w ≡ n / 2 % 2 ^ w * 2 + n % 2
    by n = let e : suc w ≡ w + 1 = omega arith in ap (λ (m : ℕ). n % 2 ^ m) e ∙ mod-pow-add n w 1

abbrev bit_of : List ℕ → ℕ → ℕ
bit_of s p = digit (get_or s (p / 8) 0) (p % 8)

-- the bits of two bytes
two_bit : (s : List ℕ) (b k : ℕ) → get_or s b 0 < 256 → k < 16 → digit (two_at s b) k ≡ bit_of s (8 * b + k)
two_bit s b k byte h = elim (dec_lt k 8) [
  | yes l ↦
      let e : two_at s b % 2 ^ 8 ≡ get_or s b 0 % 2 ^ 8 = omega arith in
      let byte_is : b ≡ (8 * b + k) / 8 = omega (arith, l) in
      let bit_is : k ≡ (8 * b + k) % 8 = omega (arith, l) in
      let place : digit (get_or s b 0) k ≡ bit_of s (8 * b + k) = ap₂ (λ (n m : ℕ). digit (get_or s n 0) m) byte_is bit_is in
      sym (digit_low 8 (two_at s b) k l) ∙ ap (λ (n : ℕ). digit n k) e ∙ digit_low 8 (get_or s b 0) k l ∙ place
  | no l ↦
      let e : two_at s b / 2 ^ 8 ≡ get_or s (b + 1) 0 = omega (arith, byte) in
      let byte_is : b + 1 ≡ (8 * b + k) / 8 = omega (arith, l, h) in
      let bit_is : k - 8 ≡ (8 * b + k) % 8 = omega (arith, l, h) in
      let place : digit (get_or s (b + 1) 0) (k - 8) ≡ bit_of s (8 * b + k) = ap₂ (λ (n m : ℕ). digit (get_or s n 0) m) byte_is bit_is in
      let from : k ≡ 8 + (k - 8) = omega (arith, l) in
      ap (digit (two_at s b)) from ∙ sym (digit_high 8 (two_at s b) (k - 8)) ∙ ap (λ (n : ℕ). digit n (k - 8)) e ∙ place
]

-- the bits of a field
field_bit : (w : ℕ) → w ≤ 8 → (s : List ℕ) → ((b : ℕ) → get_or s b 0 < 256) → (j k : ℕ) → k < w →
    digit (two_at s (j * w / 8) / 2 ^ (j * w % 8)) k ≡ bit_of s (j * w + k)
field_bit w hw s hs j k h =
    let b : ℕ = j * w / 8 in
    let r : ℕ = j * w % 8 in
    let e : 8 * b + (r + k) ≡ j * w + k = omega arith in
    digit_high r (two_at s b) k ∙ two_bit s b (r + k) (hs b) (omega (arith, h, hw)) ∙ ap (bit_of s) e

-- fields of the same bits are the same
field_same : (w : ℕ) → w ≤ 8 → (s t : List ℕ) → ((b : ℕ) → get_or s b 0 < 256) → ((b : ℕ) → get_or t b 0 < 256) → (j : ℕ) →
    ((k : ℕ) → k < w → bit_of s (j * w + k) ≡ bit_of t (j * w + k)) → field_at w s j ≡ field_at w t j
unfolding field_at
field_same w hw s t hs ht j e = digits_same w _ _ (λ k h. field_bit w hw s hs j k h ∙ e k h ∙ sym (field_bit w hw t ht j k h))

-- the other digits of two bytes are as they were
module _ (x r w v y : ℕ) (p : PutIs x r w v y) where
  put_below : (k : ℕ) → k < r → digit y k ≡ digit x k
  put_below k h = sym (digit_low r y k h) ∙ ap (λ (n : ℕ). digit n k) p.low ∙ digit_low r x k h

  put_above : (k : ℕ) → r + w ≤ k → digit y k ≡ digit x k
  put_above k h = by y ∙ ap (λ (n : ℕ). digit n (k - (r + w))) p.high ∙ sym (by x)
    where
      by : (n : ℕ) → digit n k ≡ digit (n / 2 ^ r / 2 ^ w) (k - (r + w))
      by n =
          let e : k ≡ r + (w + (k - (r + w))) = omega (arith, h) in
          ap (digit n) e ∙ sym (digit_high r n (w + (k - (r + w)))) ∙ sym (digit_high w (n / 2 ^ r) (k - (r + w)))

-- two bytes stored anew, with a field in them
module _ (w : ℕ) (hw : w ≤ 8) (s t : List ℕ) (hs : (b : ℕ) → get_or s b 0 < 256) (ht : (b : ℕ) → get_or t b 0 < 256) (i v y : ℕ)
    (p : PutIs (two_at s (i * w / 8)) (i * w % 8) w v y) (new : two_at t (i * w / 8) ≡ y)
    (others : (k : ℕ) → (k ≡ i * w / 8 → ⊥) → (k ≡ i * w / 8 + 1 → ⊥) → get_or t k 0 ≡ get_or s k 0) where
  abbrev b : ℕ
  b = i * w / 8

  -- the bits outside the field are as they were
  bit_same : (q : ℕ) → ((i * w ≤ q) × (q < i * w + w) → ⊥) → bit_of t q ≡ bit_of s q
  bit_same q out = elim (dec_lt q (8 * b)) [
    | yes l ↦ ap (λ (n : ℕ). digit n (q % 8)) (others (q / 8) (λ e. omega (arith, e, l)) (λ e. omega (arith, e, l)))
    | no l ↦ elim (dec_lt q (8 * b + 16)) [
      | yes m ↦
          let k : ℕ = q - 8 * b in
          let e : 8 * b + k ≡ q = omega (arith, l) in
          let place : (u : List ℕ) → bit_of u (8 * b + k) ≡ bit_of u q = λ u. ap (bit_of u) e in
          let same : digit y k ≡ digit (two_at s b) k = inside k e in
          sym (place t) ∙ sym (two_bit t b k (ht b) (omega (arith, l, m))) ∙ ap (λ (n : ℕ). digit n k) new ∙ same ∙ two_bit s b k (hs b)
          (omega (arith, l, m)) ∙ place s
      | no m ↦ ap (λ (n : ℕ). digit n (q % 8)) (others (q / 8) (λ e. omega (arith, e, m)) (λ e. omega (arith, e, m)))
    ]
  ]
    where
      inside : (k : ℕ) → 8 * b + k ≡ q → digit y k ≡ digit (two_at s b) k
      inside k e = elim (dec_lt k (i * w % 8)) [
        | yes l ↦ put_below (two_at s b) (i * w % 8) w v y p k l
        | no l ↦ put_above (two_at s b) (i * w % 8) w v y p k (above l)
      ]
        where
          above : (k < i * w % 8 → ⊥) → i * w % 8 + w ≤ k
          above l = elim (dec_le (i * w % 8 + w) k) [ yes m ↦ m | no m ↦ absurd (out (omega (arith, e, l), omega (arith, e, m))) ]

  -- two fields have no bit in common
  apart : (j k : ℕ) → (j ≡ i → ⊥) → k < w → (i * w ≤ j * w + k) × (j * w + k < i * w + w) → ⊥
  apart j k ne h q = elim (dec_lt j i) [
    | yes l ↦ let m : suc j * w ≤ i * w = mul-le-mul_right w l in omega (arith, q.0, h, m, suc-mul j w)
    | no l ↦ let m : suc i * w ≤ j * w = mul-le-mul_right w (omega (arith, l, ne)) in omega (arith, q.1, m, suc-mul i w)
  ]

  pub field_put_is : (j : ℕ) → field_at w t j ≡ with_field (field_at w s) i v j
  unfolding field_at with_field
  field_put_is j = go (eqb j i) refl
    where
      go : (c : Bool) → eqb j i ≡ c → field_at w t j ≡ pick c v (field_at w s j)
      go true e = rw (eqb-true j i e, new) p.here
      go false e = field_same w hw t s ht hs j (λ k h. bit_same (j * w + k) (apart j k (eqb-false j i e) h))

-- the two bytes as they are stored
module _ (w : ℕ) (hw : w ≤ 8) (s : List ℕ) (hs : (b : ℕ) → get_or s b 0 < 256) (i v y : ℕ) (hi : i * w / 8 + 1 < length s) (hy : y < 65536)
    (p : PutIs (two_at s (i * w / 8)) (i * w % 8) w v y) where
  abbrev at : ℕ
  at = i * w / 8

  abbrev first : List ℕ
  first = set s at (y % 256)

  abbrev stored : List ℕ
  stored = set first (at + 1) (y / 256)

  low_byte : get_or stored at 0 ≡ y % 256
  low_byte = get_or-set_other first (at + 1) at (y / 256) 0 (λ e. omega (arith, e)) ∙ get_or-set_same s at (y % 256) 0 (omega (arith, hi))

  high_byte : get_or stored (at + 1) 0 ≡ y / 256
  high_byte = get_or-set_same first (at + 1) (y / 256) 0 (omega (arith, hi, length-set s at (y % 256)))

  others_stay : (k : ℕ) → (k ≡ at → ⊥) → (k ≡ at + 1 → ⊥) → get_or stored k 0 ≡ get_or s k 0
  others_stay k n m = get_or-set_other first (at + 1) k (y / 256) 0 m ∙ get_or-set_other s at k (y % 256) 0 n

  stored_bytes : (k : ℕ) → get_or stored k 0 < 256
  stored_bytes k = elim (ℕ_discrete k at) [
    | yes e ↦ rw (e, low_byte) (omega arith)
    | no n ↦ elim (ℕ_discrete k (at + 1)) [
      | yes e ↦ rw (e, high_byte) (omega (arith, hy))
      | no m ↦ rw (others_stay k n m) (hs k)
    ]
  ]

  pub put_stored : (j : ℕ) → field_at w stored j ≡ with_field (field_at w s) i v j
  put_stored = field_put_is w hw s stored hs stored_bytes i v y p (omega (arith, low_byte, high_byte)) others_stay

-- a power as the code has it
pub one_shifted : (k : ℕ) → k ≤ 8 → 1 * 2 ^ k % 2 ^ 64 ≡ 2 ^ k
one_shifted k h = shl_exact {a = 1} 1 k 64 (omega arith) (omega (arith, h)) ∙ one-mul (2 ^ k)

pub power_some : (k : ℕ) → k ≤ 8 → 0 < 1 * 2 ^ k % 2 ^ 64
power_some k h = omega (arith, one_shifted k h, pow_pos k)

-- a field as the code has it, from the two bytes x
module _ (w : ℕ) (hw : w ≤ 8) (s : List ℕ) (i x : ℕ) where
  pub field_is : x ≡ two_at s (i * w / 8) → x / 2 ^ (i * w % 8) % (1 * 2 ^ w % 2 ^ 64) ≡ field_at w s i
  unfolding field_at
  field_is e = ap₂ (λ (n m : ℕ). n / 2 ^ (i * w % 8) % m) e (one_shifted w hw)

  pub field_lt : x / 2 ^ (i * w % 8) % (1 * 2 ^ w % 2 ^ 64) < 2 ^ w
  field_lt = rw (one_shifted w hw) (mod-lt (x / 2 ^ (i * w % 8)) (pow_pos w))

-- the bits are as many as both parts have
joined_lt : (a d j k : ℕ) → a < 2 ^ j → d < 2 ^ k → a * 2 ^ k + d < 2 ^ (j + k)
joined_lt a d j k ha hd =
    let e : (a * 2 ^ k + d) / 2 ^ k < 2 ^ j = subst (λ (n : ℕ). n < 2 ^ j) (sym (high a k hd)) ha in
    subst (λ (n : ℕ). a * 2 ^ k + d < n) (sym (pow-add 2 j k)) ((div-lt_iff_lt-mul (pow_pos k)).0 e)

-- two bytes with v in place of w bits from bit r on
module _ (x r w v : ℕ) (hx : x < 65536) (hr : r < 8) (hw : w ≤ 8) (hv : v < 2 ^ w) where
  abbrev upper : ℕ
  upper = x / 2 ^ r / 2 ^ w * 2 ^ w + v

  abbrev both : ℕ
  both = upper * 2 ^ r + x % 2 ^ r

  upper_lt : upper < 2 ^ (16 - r)
  upper_lt =
      let e : 16 - (r + w) + w ≡ 16 - r = omega (arith, hr, hw) in
      subst (λ (n : ℕ). upper < 2 ^ n) e (joined_lt (x / 2 ^ r / 2 ^ w) v (16 - (r + w)) w bound hv)
    where
      wide : x < 2 ^ (16 - (r + w) + (r + w))
      wide = let e : 16 ≡ 16 - (r + w) + (r + w) = omega (arith, hr, hw) in subst (λ (n : ℕ). x < 2 ^ n) e hx

      bound : x / 2 ^ r / 2 ^ w < 2 ^ (16 - (r + w))
      bound = subst (λ (n : ℕ). n < 2 ^ (16 - (r + w))) (sym (shr-shr x r w)) (shr_lt (16 - (r + w)) (r + w) wide)

  pub both_lt : both < 65536
  both_lt =
      let e : 16 - r + r ≡ 16 = omega (arith, hr) in
      subst (λ (n : ℕ). both < 2 ^ n) e (joined_lt upper (x % 2 ^ r) (16 - r) r upper_lt (mod-lt x (pow_pos r)))

  pub put_is : PutIs x r w v both
  put_is = record {
    low = low upper r (mod-lt x (pow_pos r));
    here = ap (λ (n : ℕ). n % 2 ^ w) over ∙ low (x / 2 ^ r / 2 ^ w) w hv;
    high = ap (λ (n : ℕ). n / 2 ^ w) over ∙ high (x / 2 ^ r / 2 ^ w) w hv;
  }
    where
      over : both / 2 ^ r ≡ upper
      over = high upper r (mod-lt x (pow_pos r))

  pub upper_few : upper < 65536
  upper_few = lt_of_lt_of_le upper_lt (pow_mono {i = 16 - r} {j = 16} (omega arith))

  -- as the code has them
  upper_shifted : x / 2 ^ r / 2 ^ w * 2 ^ w % 2 ^ 64 ≡ x / 2 ^ r / 2 ^ w * 2 ^ w
  upper_shifted = shl_exact 16 w 64 (omega (arith, hx, shr_le (x / 2 ^ r) w, shr_le x r)) (omega (arith, hw))

  pub upper_is : x / 2 ^ r / 2 ^ w * 2 ^ w % 2 ^ 64 + v ≡ upper
  upper_is = ap (λ (n : ℕ). n + v) upper_shifted

  pub both_is : (x / 2 ^ r / 2 ^ w * 2 ^ w % 2 ^ 64 + v) * 2 ^ r % 2 ^ 64 + x % (1 * 2 ^ r % 2 ^ 64) ≡ both
  both_is =
      let e : upper * 2 ^ r % 2 ^ 64 ≡ upper * 2 ^ r = shl_exact (16 - r) r 64 upper_lt (omega (arith, hr)) in
      ap₂ (λ (n m : ℕ). n + x % m) (ap (λ (n : ℕ). n * 2 ^ r % 2 ^ 64) upper_is ∙ e) (one_shifted r (omega (arith, hr)))

-- a bit's number is small
pub few_bits : (i w : ℕ) → i < 65536 → w ≤ 8 → i * w ≤ 524288
few_bits i w hi hw = let m : i * w ≤ 65536 * w = mul-le-mul_right w (omega (arith, hi)) in omega (arith, m, hw)
