-- Gathering over a whole input: the lines handed on ask for what the input's lines ask for, whatever the chunks are. Assumes nothing.
use Prim.Native.Nat.{ℕ, ◌≤◌, ◌<◌}
use native.Mathlib.Omega.{arith}
use mathlib.Core.Path.{◌≡◌, refl, sym, ap, ◌∙◌}
use mathlib.Core.Bool.{Bool, true, false}
use mathlib.Core.List.{List, [], ◌∷◌, ◌++◌, map, append_assoc, append-nil}
use mathlib.Core.Option.{Option}
use lib.Dec.{eqb, leb}
use lib.ListN.{length, length-take}
use lib.Seq.{take_all, take-append-le, take-take}
use borrow.Author.Tests.{leb-true, leb-false, lt-leb}
use Rattle.rules.specs.Bytes.{Bytes, pick, flat}
use Rattle.rules.specs.Operations.{Operation}
use Rattle.lines.specs.Line.{newline, longest, most_kept, before, parts, line_of, lines_of, kept}
use Rattle.lines.proofs.Parts.{parts_first}

-- a line of at most so many characters is kept whole, of a longer one the first
kept_short : (p : Bytes) → length p ≤ most_kept → kept p ≡ p
unfolding kept
kept_short p h = take_all most_kept p h

kept_long : (p w : Bytes) → most_kept ≤ length p → kept (p ++ w) ≡ kept p
unfolding kept
kept_long p w h = take-append-le most_kept p w h

kept_length_lem : (p : Bytes) → most_kept ≤ length p → length (kept p) ≡ most_kept
unfolding kept
kept_length_lem p h = length-take most_kept p ∙ omega arith

kept_twice : (p : Bytes) → kept (kept p) ≡ kept p
unfolding kept
kept_twice p = take-take most_kept most_kept p (omega arith)

-- what is kept goes on as the line itself does
pub kept_again : (p w : Bytes) → kept (kept p ++ w) ≡ kept (p ++ w)
kept_again p w = go (leb (length p) most_kept) refl
  where
    go : (t : Bool) → leb (length p) most_kept ≡ t → kept (kept p ++ w) ≡ kept (p ++ w)
    go true e = rw (kept_short p (leb-true (length p) most_kept e))
    go false e =
        let h : most_kept < length p = leb-false (length p) most_kept e in
        let l : length (kept p) ≡ most_kept = kept_length_lem p (omega arith) in
        kept_long (kept p) w (omega arith) ∙ kept_twice p ∙ sym (kept_long p w (omega arith))

-- and asks for the same
pub line_kept : (p : Bytes) → line_of (kept p) ≡ line_of p
unfolding line_of
line_kept p = go (leb (length p) most_kept) refl
  where
    go : (t : Bool) → leb (length p) most_kept ≡ t → line_of (kept p) ≡ line_of p
    go true e = rw (kept_short p (leb-true (length p) most_kept e))
    go false e =
        let h : most_kept < length p = leb-false (length p) most_kept e in
        let l : length (kept p) ≡ most_kept = kept_length_lem p (omega arith) in
        rw (lt-leb (length (kept p)) longest (omega arith), lt-leb (length p) longest (omega arith))

-- there is no newline in p
abbrev pub Single : Bytes → Type 0
Single p = before newline p ≡ p

-- of a first character and those after it
single_first : (c : ℕ) (cs : Bytes) → Single (c ∷ cs) → (eqb c newline ≡ false) × Single cs
single_first c cs e = go (eqb c newline) refl e
  where
    go : (t : Bool) → eqb c newline ≡ t → pick t [] (c ∷ before newline cs) ≡ c ∷ cs → (eqb c newline ≡ false) × Single cs
    go true q h = let z : ◌≡◌ {A = ℕ} 0 1 = cc in absurd (omega arith)
    go false q h = (q, cc)

single_join : (p w : Bytes) → Single p → Single w → Single (p ++ w)
single_join [] w h k = k
single_join (c ∷ cs) w h k =
    let r : (eqb c newline ≡ false) × Single cs = single_first c cs h in
    rw r.0 (ap (λ (x : Bytes). c ∷ x) (single_join cs w r.1 k))

parts_line : (p rest : Bytes) → Single p → parts newline (p ++ (newline ∷ rest)) ≡ p ∷ parts newline rest
parts_line [] rest h = refl
parts_line (c ∷ cs) rest h =
    let r : (eqb c newline ≡ false) × Single cs = single_first c cs h in rw (r.0, parts_line cs rest r.1)

-- up to a newline there is a line
lines_next : (p rest : Bytes) → Single p → lines_of (p ++ (newline ∷ rest)) ≡ p ∷ lines_of rest
unfolding lines_of
lines_next p rest h = rw (parts_line p rest h, (parts_first newline rest).1)

parts_single : (p : Bytes) → Single p → parts newline p ≡ p ∷ []
parts_single [] h = refl
parts_single (c ∷ cs) h =
    let r : (eqb c newline ≡ false) × Single cs = single_first c cs h in rw (r.0, parts_single cs r.1)

-- without one there is a line if a byte is there
lines_none : lines_of [] ≡ []
unfolding lines_of
lines_none = refl

lines_last : (c : ℕ) (cs : Bytes) → Single (c ∷ cs) → lines_of (c ∷ cs) ≡ (c ∷ cs) ∷ []
unfolding lines_of
lines_last c cs h = rw (parts_single (c ∷ cs) h)

-- Gathers p chunks lines: with the characters p of a line gathered, these chunks still to come give these lines, as `gather` promises each:
-- at a newline what is kept is handed on, at a chunk's end it is held, at the input's end it is handed on if a byte is there
pub data Gathers : Bytes → List Bytes → List Bytes → Type 0 where
  over : Gathers [] [] []
  last : {c : ℕ} {cs : Bytes} → Gathers (c ∷ cs) [] (kept (c ∷ cs) ∷ [])
  held : {p w : Bytes} {chunks lines : List Bytes} → Single w → Gathers (p ++ w) chunks lines → Gathers p (w ∷ chunks) lines
  line : {p w rest : Bytes} {chunks lines : List Bytes} → Single w → Gathers [] (rest ∷ chunks) lines
      → Gathers p ((w ++ (newline ∷ rest)) ∷ chunks) (kept (p ++ w) ∷ lines)

-- the whole input is what the chunks say one after the other
abbrev pub whole : List Bytes → Bytes
whole chunks = flat (λ c. c) chunks

pub gathers : {p : Bytes} {chunks lines : List Bytes} → Gathers p chunks lines → Single p → map line_of lines ≡ map line_of (lines_of (p ++ whole chunks))
gathers over h = rw lines_none
gathers (last {c} {cs}) h = rw (append-nil (c ∷ cs), lines_last c cs h, line_kept (c ∷ cs))
gathers (held {p} {w} {chunks} k r) h = gathers r (single_join p w h k) ∙ rw (append_assoc p w (whole chunks))
gathers (line {p} {w} {rest} {chunks} k r) h =
    let e : p ++ ((w ++ (newline ∷ rest)) ++ whole chunks) ≡ (p ++ w) ++ (newline ∷ (rest ++ whole chunks)) =
    rw (append_assoc w (newline ∷ rest) (whole chunks)) (sym (append_assoc p w (newline ∷ (rest ++ whole chunks)))) in
    rw (e, lines_next (p ++ w) (rest ++ whole chunks) (single_join p w h k), line_kept (p ++ w))
    (ap (λ (x : List (Option Operation)). line_of (p ++ w) ∷ x) (gathers r refl))
