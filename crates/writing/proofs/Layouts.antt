-- The bytes of a layout: before a place and behind it, from their parts, and with the used field written anew. Assumes nothing.
use Prim.Native.Nat.{ℕ, ◌+◌, ◌-◌}
use native.Mathlib.Omega.{arith}
use mathlib.Core.Path.{◌≡◌, refl, sym, ap, ap₂, ◌∙◌}
use mathlib.Core.List.{List, [], ◌∷◌, ◌++◌, append_assoc}
use lib.ListN.{length, replicate}
use lib.Seq.{paste}
use Rattle.rules.specs.Bytes.{Bytes, high, low}
use Rattle.rules.specs.Store.{Opening, version1, version2, Entry, entry_bytes, entries_bytes, store_version, store_mark, limits_bytes, opening_length, used, write}
use Rattle.rules.proofs.Lists.{flat_append}
use Rattle.writing.proofs.Paste.{paste_over}

abbrev pub zeros : ℕ → Bytes
zeros n = replicate n 0

-- a u2's two bytes
abbrev pub two : ℕ → Bytes
two n = high n ∷ low n ∷ []

-- mark and version, the used value u, and what stands behind it
abbrev pub marked : Opening → ℕ → Bytes → Bytes
marked v u r = store_mark (store_version v) ++ (two u ++ r)

-- what stands before the entries behind `before`, with the used value u
abbrev pub up_to : Opening → ℕ → List Entry → Bytes
up_to v u before = marked v u (limits_bytes v ++ entries_bytes before)

pub up_to_length : (v : Opening) (u : ℕ) (before : List Entry) → length (up_to v u before) ≡ opening_length v + length (entries_bytes before)
up_to_length version1 u before = omega arith
up_to_length (version2 l) u before = omega arith

-- the bytes of a layout around a place
pub around : (s : Bytes) (v : Opening) (n : ℕ) (es before after : List Entry) → s ≡ write v n es → es ≡ before ++ after →
    s ≡ up_to v (used v es) before ++ (entries_bytes after ++ zeros (n - used v es))
unfolding write
around s v n es before after e q =
    let z : Bytes = zeros (n - used v es) in
    let l : Bytes = limits_bytes v in
    let b : Bytes = entries_bytes before in
    e
    ∙ ap (λ (t : Bytes). marked v (used v es) (l ++ (t ++ z))) (ap entries_bytes q ∙ flat_append entry_bytes before after)
    ∙ ap (λ (t : Bytes). marked v (used v es) (l ++ t)) (append_assoc b (entries_bytes after) z)
    ∙ ap (marked v (used v es)) (sym (append_assoc l b (entries_bytes after ++ z)))

-- a layout from its parts: the used value, the bytes of some entries, those of the others
pub layout_of : (v : Opening) (n u : ℕ) (es : List Entry) (a b : Bytes) → u ≡ used v es → a ++ b ≡ entries_bytes es →
    marked v u ((limits_bytes v ++ a) ++ (b ++ zeros (n - u))) ≡ write v n es
unfolding write
layout_of v n u es a b e q =
    let l : Bytes = limits_bytes v in
    ap (marked v u) (append_assoc l a (b ++ zeros (n - u)) ∙ ap (λ (x : Bytes). l ++ x) (sym (append_assoc a b (zeros (n - u)))))
    ∙ ap₂ (λ (k : ℕ) (x : Bytes). marked v k (l ++ (x ++ zeros (n - k)))) e q

-- the used field, written anew; the limits behind it stay
pub used_anew : (v : Opening) (u w : ℕ) (r : Bytes) → paste (marked v u r) 5 (two w) 2 ≡ marked v w r
used_anew v u w r = paste_over (store_mark (store_version v)) (two u) r (two w) 5 refl refl
