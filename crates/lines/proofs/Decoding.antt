-- Decoding an argument two characters after two: the laws of the loop. Assumes nothing.
use Prim.Native.Nat.{ℕ, ◌+◌, ◌*◌, ◌≤◌, ◌<◌}
use native.Mathlib.Omega.{arith}
use native.Mathlib.Numerals.{add-one}
use mathlib.Core.Path.{◌≡◌, refl, sym, ap, ◌∙◌}
use mathlib.Core.List.{[], ◌∷◌, ◌++◌, append_assoc, append-nil}
use mathlib.Core.Option.{Option, none, some}
use lib.ListN.{length, take, drop, set, length-drop, drop_of_length-le}
use lib.Seq.{drop-drop, drop-set-add, take-suc-set}
use Rattle.rules.specs.Bytes.{Bytes, ◌and_then◌}
use Rattle.rules.proofs.Tests.{none_some}
use Rattle.lines.specs.Line.{bytes_of, argument}
use Rattle.lines.specs.Results.{first_byte}

-- bytes put in front of those that are there
abbrev pub joined : Bytes → Option Bytes → Option Bytes
joined xs o = o and_then λ ys. some (xs ++ ys)

-- nothing is decoded yet
pub joined_start : (o : Option Bytes) → o ≡ joined [] o
joined_start none = refl
joined_start (some ys) = refl

-- one byte more
joined_more : (xs : Bytes) (b : ℕ) (o : Option Bytes) → joined xs (o and_then λ bs. some (b ∷ bs)) ≡ joined (xs ++ (b ∷ [])) o
joined_more xs b none = refl
joined_more xs b (some bs) = ap (λ (l : Bytes). some l) (sym (append_assoc xs (b ∷ []) bs))

pub two_more : (t xs : Bytes) (b : ℕ) → first_byte t ≡ some b → joined xs (bytes_of t) ≡ joined (xs ++ (b ∷ [])) (bytes_of (drop 2 t))
two_more [] xs b e = absurd (none_some e)
two_more (h ∷ []) xs b e = absurd (none_some e)
two_more (h ∷ l ∷ cs) xs b e = rw e (joined_more xs b (bytes_of cs))

pub two_there : (t : Bytes) (b : ℕ) → first_byte t ≡ some b → 2 ≤ length t
two_there [] b e = absurd (none_some e)
two_there (h ∷ []) b e = absurd (none_some e)
two_there (h ∷ l ∷ cs) b e = omega arith

-- a pair that is no byte ends it
pub no_bytes : (t : Bytes) → 0 < length t → first_byte t ≡ none → bytes_of t ≡ none
no_bytes [] h e = absurd (omega arith)
no_bytes (x ∷ []) h e = refl
no_bytes (x ∷ y ∷ cs) h e = rw e

-- no characters are no argument
pub argument_none : (s : Bytes) → length s ≡ 0 → none ≡ argument s
argument_none [] h = refl
argument_none (c ∷ cs) h = absurd (omega arith)

-- an argument that is not empty is its bytes
pub argument_is : (s : Bytes) → 0 < length s → argument s ≡ bytes_of s
argument_is [] h = absurd (omega arith)
argument_is (c ∷ cs) h = refl

-- one byte more in the buffer
pub put_one : (out : Bytes) (at n b : ℕ) → at + n < length out → take (n + 1) (drop at (set out (at + n) b)) ≡ take n (drop at out) ++ (b ∷ [])
put_one out at n b h =
    rw (add-one, drop-set-add at out n b) (take-suc-set (drop at out) n b (rw (length-drop at out) (omega arith)))

-- the loop goes on, at place 2 n of the characters
pub decode_step : (s out : Bytes) (at n b : ℕ) → at + n < length out → first_byte (drop (2 * n) s) ≡ some b
    → bytes_of s ≡ joined (take n (drop at out)) (bytes_of (drop (2 * n) s))
    → bytes_of s ≡ joined (take (n + 1) (drop at (set out (at + n) b))) (bytes_of (drop (2 * (n + 1)) s))
decode_step s out at n b h e i =
    let p : 2 * (n + 1) ≡ 2 * n + 2 = omega arith in
    i ∙ two_more (drop (2 * n) s) (take n (drop at out)) b e ∙ rw (put_one out at n b h, p, drop-drop 2 (2 * n) s)

pub decode_two : (s : Bytes) (n b : ℕ) → first_byte (drop (2 * n) s) ≡ some b → 2 * (n + 1) ≤ length s
decode_two s n b e =
    let h : 2 ≤ length (drop (2 * n) s) = two_there (drop (2 * n) s) b e in omega (arith, length-drop (2 * n) s)

-- it stops at what is no byte
pub decode_stop : (s xs : Bytes) (k : ℕ) → k < length s → first_byte (drop k s) ≡ none → bytes_of s ≡ joined xs (bytes_of (drop k s)) → none ≡ argument s
decode_stop s xs k h e i =
    let l : 0 < length (drop k s) = rw (length-drop k s) (omega arith) in
    let z : bytes_of s ≡ none = i ∙ rw (no_bytes (drop k s) l e) in
    sym (argument_is s (omega arith) ∙ z)

-- it ends with all decoded
pub decode_end : (s out : Bytes) (at n : ℕ) → 0 < length s → length s ≤ 2 * n → bytes_of s ≡ joined (take n (drop at out)) (bytes_of (drop (2 * n) s))
    → some (take n (drop at out)) ≡ argument s
decode_end s out at n p h i =
    let z : drop (2 * n) s ≡ [] = drop_of_length-le s {i = 2 * n} h in
    sym (argument_is s p ∙ i ∙ rw (z, append-nil (take n (drop at out))))
