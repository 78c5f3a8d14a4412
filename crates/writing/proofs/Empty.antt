-- What the stores of an empty store leave: the layout of no entries, in version 1 or in version 2 with its limits. Assumes nothing.
use Prim.Native.Nat.{ℕ, ◌+◌, ◌-◌, ◌≤◌}
use native.Mathlib.Omega.{arith}
use mathlib.Core.Path.{◌≡◌, refl, sym, ap, ◌∙◌}
use mathlib.Core.Bool.{Bool}
use mathlib.Core.List.{[], ◌∷◌, ◌++◌, append-nil}
use lib.ListN.{length, take, drop, set, replicate, length-append, length-replicate, length-drop, take-append-drop}
use lib.Seq.{paste, length-take-le, sets-eq}
use Rattle.rules.specs.Bytes.{Bytes}
use Rattle.rules.specs.Limits.{Limits, limits_range}
use Rattle.rules.specs.Store.{version1, version2, store_mark, limits_bytes, write}
use Rattle.rules.specs.Questions.{q30_limits}
use Rattle.writing.specs.Changes.{Emptied}
use Rattle.writing.proofs.Paste.{set_two, paste_over, paste_join}
use Rattle.writing.proofs.Layouts.{two}

-- mark and version stored one after the other, the used field, zeros behind the opening bytes
pub emptied : (s t₁ t₂ : Bytes) (n k : ℕ) → 7 ≤ k → k ≤ length s →
    t₁ ≡ paste (set (set (set (set (set s 0 0x42) 1 0x43) 2 0x53) 3 0) 4 n) 5 (two k) 2 → t₂ ≡ paste t₁ k (replicate (length s - k) 0) (length s - k) →
    Emptied s t₂ n k
emptied s t₁ t₂ n k low fits e₁ e₂ =
    let z : Bytes = replicate (length s - k) 0 in
    let lz : length z ≡ length s - k = length-replicate (length s - k) 0 in
    let b : Bytes = drop 7 s in
    let lb : length b ≡ length s - 7 = length-drop 7 s in
    let head : Bytes = store_mark n ++ (two k ++ take (k - 7) b) in
    let rest : Bytes = drop (k - 7) b in
    let lh : length head ≡ k = omega (arith, length-take-le (k - 7) b (omega arith)) in
    let lr : length rest ≡ length z = omega (arith, length-drop (k - 7) b) in
    let m : t₁ ≡ store_mark n ++ (two k ++ b) =
    (e₁ ∙ ap (λ (x : Bytes). paste x 5 (two k) 2) (sets-eq (store_mark n) s 0 (omega arith)) ∙ paste_join s 0 (store_mark n) (two k) 5 2 (omega arith) refl refl) in
    let h : t₁ ≡ head ++ (rest ++ []) =
    (m ∙ ap (λ (x : Bytes). store_mark n ++ (two k ++ x)) (sym (take-append-drop (k - 7) b)) ∙ ap (λ (x : Bytes). head ++ x) (sym (append-nil rest))) in
    e₂
    ∙ ap (λ (x : Bytes). paste x k z (length s - k)) h
    ∙ ap (paste (head ++ (rest ++ [])) k z) (sym lz)
    ∙ paste_over head rest [] z k lh lr
    ∙ ap (λ (x : Bytes). head ++ x) (append-nil z)

-- with 7 opening bytes it is an empty store of version 1
pub fresh_is : (s t : Bytes) → Emptied s t 1 7 → t ≡ write version1 (length s) []
unfolding write
fresh_is s t e = e

-- with 11 opening bytes and the limits stored there it is one of version 2
pub limited_is : (s t₁ t₂ : Bytes) (l : Limits) → 11 ≤ length s → Emptied s t₁ 2 11 →
    t₂ ≡ paste (set (set t₁ 7 l.depth) 8 l.parents) 9 (two l.code) 2 → t₂ ≡ write (version2 l) (length s) []
unfolding write
limited_is s t₁ t₂ l fits e₁ e₂ =
    let old : Bytes = take 4 (drop 7 s) in
    let z : Bytes = replicate (length s - 11) 0 in
    let lo : length old ≡ 4 = length-take-le 4 (drop 7 s) (omega (arith, length-drop 7 s)) in
    let n : length t₁ ≡ 11 + length z = ap length e₁ ∙ omega (arith, length-append old z) in
    e₂
    ∙ ap (λ (x : Bytes). paste x 9 (two l.code) 2) (set_two t₁ 7 l.depth l.parents (omega arith))
    ∙ paste_join t₁ 7 (l.depth ∷ l.parents ∷ []) (two l.code) 2 2 (omega arith) refl refl
    ∙ ap (λ (x : Bytes). paste x 7 (limits_bytes (version2 l)) 4) e₁
    ∙ paste_over (store_mark 2 ++ two 11) old z (limits_bytes (version2 l)) 7 refl lo

-- 30 asks whether the limits lie in their ranges
pub ranges_asked : (l : Limits) (b : Bool) → limits_range l ≡ b → b ≡ q30_limits l
unfolding q30_limits
ranges_asked l b e = sym e
