-- Gathering a line from chunks: what is kept of it. Assumes nothing.
use Prim.Native.Nat.{ℕ, ◌+◌, ◌-◌, ◌≤◌, ◌<◌, min}
use native.Mathlib.Omega.{arith}
use mathlib.Core.Path.{◌≡◌, refl, sym, ap, ◌∙◌}
use mathlib.Core.Bool.{Bool, true, false}
use mathlib.Core.List.{◌++◌}
use lib.Dec.{leb}
use lib.ListN.{length, take, length-take}
use lib.Seq.{paste, take-paste, take-append-add, length-take-le, take_all, take-take}
use borrow.Author.Tests.{leb-true, leb-false}
use Rattle.rules.specs.Bytes.{Bytes}
use Rattle.lines.specs.Line.{before, newline, kept, most_kept}
use Rattle.lines.proofs.Parts.{before_bound, before_take}

-- the first m of the first w elements
take_least : (w m : ℕ) (x : Bytes) → take (min w m) x ≡ take m (take w x)
take_least w m x = go (leb w m) refl
  where
    go : (t : Bool) → leb w m ≡ t → take (min w m) x ≡ take m (take w x)
    go true e =
        let h : w ≤ m = leb-true w m e in
        let l : length (take w x) ≤ m = rw (length-take w x) (omega arith) in
        let p : min w m ≡ w = omega arith in rw (p, take_all m (take w x) l)
    go false e =
        let h : m < w = leb-false w m e in
        let p : min w m ≡ m = omega arith in rw (p, take-take m w x (omega arith))

-- the characters held and those gathered, as many as are kept
pub gathered : (line x : Bytes) (held n : ℕ) → held ≤ most_kept → most_kept ≤ length line → n ≡ min (length (before newline x)) (most_kept - held)
    → take (held + n) (paste line held (take n x) n) ≡ kept (take held line ++ before newline x)
unfolding kept
gathered line x held n h k e =
    let w : ℕ = length (before newline x) in
    let b : length (before newline x) ≤ length x = before_bound newline x in
    let l : length (take held line) ≡ held = length-take-le held line (omega arith) in
    let p : most_kept ≡ length (take held line) + (most_kept - held) = omega arith in
    let q : take n x ≡ take (most_kept - held) (before newline x) =
    ap (λ (i : ℕ). take i x) e ∙ take_least (length (before newline x)) (most_kept - held) x
    ∙ ap (take (most_kept - held)) (sym (before_take newline x)) in
    let short : n ≤ length (take n x) = omega (arith, length-take n x) in
    take-paste line held (take n x) n (omega arith) short
    ∙ ap (λ (y : Bytes). take held line ++ y) (take-take n n x (omega arith) ∙ q)
    ∙ sym (take-append-add (take held line) (before newline x) (most_kept - held))
    ∙ ap (λ (i : ℕ). take i (take held line ++ before newline x)) (sym p)
