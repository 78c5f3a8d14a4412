-- Text put behind text, a byte at a time. Assumes nothing.
use Prim.Native.Nat.{ℕ, suc, ◌+◌, ◌*◌, ◌<◌, ◌≤◌}
use native.Mathlib.Omega.{arith}
use mathlib.Core.Path.{◌≡◌, refl, sym, ◌∙◌, ap, subst}
use mathlib.Core.List.{[], ◌∷◌, ◌++◌, append-nil, append_assoc}
use lib.ListN.{length, take, set, get_or, length-append, length-set, length-take}
use lib.Seq.{take-suc, take-suc-set, take-length, length-take-le}
use Rattle.std.proofs.lemmas.List.Edits.{take-paste, length-paste}
use Rattle.std.proofs.lemmas.Slice.{put_mid-paste}
use borrow.Rule.Slice.PartMut.{put_mid}
use lib.Seq.{paste}
use Rattle.io.specs.Counts.{IsPrefixLen}
use Rattle.rules.specs.Bytes.{Bytes}
use Rattle.rules.proofs.Lists.{flat_append}
use Rattle.text.specs.Text.{hex_byte, hex_bytes}
use Rattle.text.specs.Put.{Put}

-- nothing is put
pub put_none : (b : Bytes) (i : ℕ) → Put b i [] b i
put_none b i = record { text = sym (append-nil (take i b)); to = omega arith; kept = refl }

-- one text, then another
pub put_then : {b c d : Bytes} {i j k : ℕ} {x y : Bytes} → Put b i x c j → Put c j y d k → Put b i (x ++ y) d k
put_then {b = b} {i = i} {x = x} {y = y} p q = record {
  text = q.text ∙ ap (λ (z : Bytes). z ++ y) p.text ∙ append_assoc (take i b) x y;
  to = omega (arith, p.to, q.to, length-append x y);
  kept = q.kept ∙ p.kept;
}

-- the place behind the text lies within the buffer
pub put_counts : {b c x : Bytes} {i j : ℕ} → Put b i x c j → i ≤ length b → IsPrefixLen j c
put_counts {b} {c} {x} {i} {j} p h =
    let long : length (take j c) ≡ j = omega (arith, ap length p.text, length-append (take i b) x, length-take-le i b h, p.to) in
    (omega (arith, long, length-take j c), sym long)

-- bytes are copied to a part of the buffer
pub put_part : (b : Bytes) (i k : ℕ) (x xs : Bytes) → xs ≡ x → length x ≡ k → i + length x ≤ length b → Put b i x (put_mid i k b xs) (i + length x)
put_part b i k x xs e q h =
    let z : put_mid i k b xs ≡ paste b i x (length x) = put_mid-paste i k b xs x (length x) e q refl in
    record {
      text = ap (take (i + length x)) z ∙ take-paste b i x (length x) (omega arith) (omega arith) ∙ ap (λ (y : Bytes). take i b ++ y) (take-length x);
      to = refl;
      kept = ap length z ∙ length-paste b i x (length x) h (omega arith);
    }

-- a byte is put
pub put_one : (b : Bytes) (i a : ℕ) → i < length b → Put b i (a ∷ []) (set b i a) (i + 1)
put_one b i a h =
    let e : i + 1 ≡ suc i = omega arith in
    record { text = ap (λ (k : ℕ). take k (set b i a)) e ∙ take-suc-set b i a h; to = omega arith; kept = length-set b i a }

-- what is put, by another name
pub put_as : {b c x y : Bytes} {i j : ℕ} → x ≡ y → Put b i x c j → Put b i y c j
put_as {b = b} {c = c} {i = i} {j = j} e p = subst (λ (z : Bytes). Put b i z c j) e p

-- one byte more of a list, as it is and in hex digits
pub byte_next : (xs : Bytes) (k : ℕ) → k < length xs → take k xs ++ (get_or xs k 0 ∷ []) ≡ take (k + 1) xs
byte_next xs k h =
    let e : suc k ≡ k + 1 = omega arith in
    sym (take-suc xs k 0 h) ∙ ap (λ (j : ℕ). take j xs) e

pub hex_next : (xs : Bytes) (k : ℕ) → k < length xs → hex_bytes (take k xs) ++ hex_byte (get_or xs k 0) ≡ hex_bytes (take (k + 1) xs)
hex_next xs k h =
    ap (λ (z : Bytes). hex_bytes (take k xs) ++ z) (sym (append-nil (hex_byte (get_or xs k 0)))) ∙ sym (flat_append hex_byte (take k xs) (get_or xs k 0 ∷ []))
    ∙ ap hex_bytes (byte_next xs k h)

-- all bytes of a list
pub byte_last : (xs : Bytes) (k : ℕ) → k ≡ length xs → take k xs ≡ xs
byte_last xs k e = ap (λ (j : ℕ). take j xs) e ∙ take-length xs

-- two hex digits a byte
pub hex_length : (xs : Bytes) → length (hex_bytes xs) ≡ 2 * length xs
hex_length [] = refl
hex_length (x ∷ xs) = let h = hex_length xs in omega (arith, h)
