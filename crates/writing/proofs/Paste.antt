-- Stores, one after the other, as one paste. Assumes nothing.
use Prim.Native.Nat.{ℕ, ◌+◌, ◌<◌, ◌≤◌}
use mathlib.Core.Path.{◌≡◌, sym, ap, ap₂, ◌∙◌}
use mathlib.Core.List.{[], ◌∷◌, ◌++◌, append_assoc}
use native.Mathlib.Omega.{arith}
use native.Mathlib.Numerals.{add-one}
use lib.ListN.{length, get_or, take, drop, set, length-append}
use lib.Seq.{paste, paste-suc, sets-eq, take_at, drop-paste, take-paste, drop-drop, take-length, drop-append-add, drop-append_seam}
use Rattle.rules.specs.Bytes.{Bytes}

-- bytes stored one after the other
pub set_one : (d : Bytes) (at a : ℕ) → at < length d → set d at a ≡ paste d at (a ∷ []) 1
set_one d at a h = sets-eq (a ∷ []) d at (omega arith)

pub set_two : (d : Bytes) (at a b : ℕ) → at + 1 < length d → set (set d at a) (at + 1) b ≡ paste d at (a ∷ b ∷ []) 2
set_two d at a b h = ap (λ (k : ℕ). set (set d at a) k b) (add-one at) ∙ sets-eq (a ∷ b ∷ []) d at (omega arith)

-- a turn of a loop that pastes w
pub paste_more : (d : Bytes) (at : ℕ) (w : Bytes) (j v : ℕ) → at + j < length d → j < length w → v ≡ get_or w j 0 → set (paste d at w j) (at + j) v ≡ paste
    d at w (j + 1)
paste_more d at w j v hd hw e =
    ap (set (paste d at w j) (at + j)) e ∙ paste-suc d at w j 0 hd hw ∙ ap (paste d at w) (sym (add-one j))

-- a paste over a part of the same length
pub paste_over : (p v r w : Bytes) (at : ℕ) → length p ≡ at → length v ≡ length w → paste (p ++ (v ++ r)) at w (length w) ≡ p ++ (w ++ r)
paste_over p v r w at e l =
    ap₂ (λ (x y : Bytes). x ++ take (length w) w ++ y) (take_at p (v ++ r) at e) dropped
    ∙ ap (λ (x : Bytes). p ++ x ++ r) (take-length w)
    ∙ append_assoc p w r
  where
    dropped : drop (at + length w) (p ++ (v ++ r)) ≡ r
    dropped = ap₂ (λ (a b : ℕ). drop (a + b) (p ++ (v ++ r))) (sym e) (sym l) ∙ drop-append-add p (v ++ r) (length v) ∙ drop-append_seam v r

-- a paste reads only what it pastes
pub paste_take : (d : Bytes) (at : ℕ) (w : Bytes) (n : ℕ) (v : Bytes) → take n w ≡ v → length v ≡ n → paste d at w n ≡ paste d at v (length v)
paste_take d at w n v e l =
    ap (λ (x : Bytes). take at d ++ x ++ drop (at + n) d) (e ∙ sym (take-length v))
    ∙ ap (λ (k : ℕ). take at d ++ take (length v) v ++ drop (at + k) d) (sym l)

-- a paste, and another one behind it
pub paste_join : (d : Bytes) (at : ℕ) (v w : Bytes) (m n : ℕ) → at ≤ length d → length v ≡ m → length w ≡ n → paste (paste d at v m) (at + m) w n ≡ paste
    d at (v ++ w) (m + n)
paste_join d at v w m n h a b =
    let t : take (at + m) (paste d at v m) ≡ take at d ++ v = take-paste d at v m h (omega arith) ∙ ap (λ (x : Bytes). take at d ++ x)
    (ap (λ (k : ℕ). take k v) (sym a) ∙ take-length v) in
    let r : drop (at + m + n) (paste d at v m) ≡ drop (at + (m + n)) d =
    (sym (drop-drop n (at + m) (paste d at v m)) ∙ ap (drop n) (drop-paste d at v m h (omega arith)) ∙ drop-drop n (at + m) d ∙ ap (λ (k : ℕ). drop k d)
    (let e : at + m + n ≡ at + (m + n) = omega arith in e)) in
    let l : m + n ≡ length (v ++ w) = sym (length-append v w ∙ ap₂ ◌+◌ a b) in
    ap₂ (λ (x y : Bytes). x ++ take n w ++ y) t r
    ∙ ap (λ (x : Bytes). ((take at d ++ v) ++ x) ++ drop (at + (m + n)) d) (ap (λ (k : ℕ). take k w) (sym b) ∙ take-length w)
    ∙ ap (λ (x : Bytes). x ++ drop (at + (m + n)) d) (append_assoc (take at d) v w ∙ ap (λ (x : Bytes). take at d ++ x)
    (sym (ap (λ (k : ℕ). take k (v ++ w)) l ∙ take-length (v ++ w))))
