-- Reading a line: the definition by the places of its spaces. Assumes nothing.
use Prim.Native.Nat.{ℕ, suc, ◌+◌, ◌-◌, ◌≤◌, ◌<◌}
use native.Mathlib.Omega.{arith}
use native.Mathlib.Numerals.{add-one}
use mathlib.Core.Path.{◌≡◌, refl, sym, ap, ◌∙◌}
use mathlib.Core.Bool.{Bool, true, false}
use mathlib.Core.List.{[], ◌∷◌}
use mathlib.Core.Option.{Option, none, some}
use lib.Dec.{eqb, leb}
use lib.ListN.{length, take, drop, get_or, length-drop}
use lib.Seq.{get_or-take, take_all}
use borrow.Author.Tests.{ne_eqb, eqb-true, leb-true, leb-false, le-leb, lt-leb}
use Rattle.rules.specs.Bytes.{Bytes, pick, ◌and_then◌}
use Rattle.rules.specs.Operations.{load}
use Rattle.lines.specs.Line.{space, longest, before, parts, digit, byte_of, bytes_of, argument, with_one, with_two, letter_and, letter, form_of, line_of}
use Rattle.lines.proofs.Parts.{before_bound, before_take, parts_whole, parts_next, parts_first}

-- nothing comes of a step that never gives a value
pub never : {A B : Type 0} (o : Option A) (f : A → Option B) → ((a : A) → f a ≡ none) → (o and_then f) ≡ none
never none f h = refl
never (some a) f h = h a

-- a space is no digit
space_digit : digit space ≡ none
unfolding digit
space_digit = refl

-- characters with a space among them are no bytes
spaced_bytes : (cs : Bytes) → length (before space cs) < length cs → bytes_of cs ≡ none
spaced_bytes [] h = absurd (omega arith)
spaced_bytes (x ∷ []) h = refl
spaced_bytes (x ∷ y ∷ cs) h = go (eqb x space) refl (eqb y space) refl (spaced_bytes cs) h
  where
    go : (s : Bool) → eqb x space ≡ s → (t : Bool) → eqb y space ≡ t → (length (before space cs) < length cs → bytes_of cs ≡ none)
        → length (pick s [] (x ∷ pick t [] (y ∷ before space cs))) < suc (suc (length cs)) → bytes_of (x ∷ y ∷ cs) ≡ none
    go true p t q rec k = rw (eqb-true x space p, space_digit)
    go false p true q rec k =
        let z : byte_of x y ≡ none = rw (eqb-true y space q, space_digit) (never (digit x) (λ a. none) (λ a. refl)) in rw z
    go false p false q rec k = rw (rec (omega arith)) (never (byte_of x y) (λ b. none) (λ b. refl))

spaced : (cs : Bytes) → length (before space cs) < length cs → argument cs ≡ none
spaced [] h = refl
spaced (c ∷ cs) h = spaced_bytes (c ∷ cs) h

-- one argument: no space is left
pub one_argument : (k : ℕ) (cs : Bytes) → length (before space cs) ≡ length cs → letter_and k (parts space cs) ≡ (argument cs and_then with_one k)
one_argument k cs e = rw (parts_whole space cs e)

-- two arguments: with a further space the second is none
second : (k : ℕ) (w cs : Bytes) → letter_and k (w ∷ parts space cs) ≡ (argument w and_then λ x. argument cs and_then with_two k x)
second k w cs = go (leb (length cs) (length (before space cs))) refl
  where
    more : length (before space cs) < length cs → letter_and k (w ∷ parts space cs) ≡ none
    more h =
        rw (parts_next space cs h, (parts_first space (drop (suc (length (before space cs))) cs)).1)

    go : (t : Bool) → leb (length cs) (length (before space cs)) ≡ t → letter_and k (w ∷ parts space cs) ≡
        (argument w and_then λ x. argument cs and_then with_two k x)
    go true e =
        let h : length cs ≤ length (before space cs) = leb-true (length cs) (length (before space cs)) e in
        let b : length (before space cs) ≤ length cs = before_bound space cs in
        rw (parts_whole space cs (omega arith))
    go false e =
        let h : length (before space cs) < length cs = leb-false (length cs) (length (before space cs)) e in
        more h ∙ sym (rw (spaced cs h) (never (argument w) (λ x. none) (λ x. refl)))

pub two_arguments : (k : ℕ) (cs : Bytes) → length (before space cs) < length cs
    → letter_and k (parts space cs) ≡ (argument (before space cs) and_then λ x. argument (drop (suc (length (before space cs))) cs) and_then with_two k x)
two_arguments k cs h = rw (parts_next space cs h) (second k (before space cs) (drop (suc (length (before space cs))) cs))

-- only L has two
pub not_load : (k : ℕ) (a b : Option Bytes) → (k ≡ 0x4C → ⊥) → none ≡ (a and_then λ x. b and_then with_two k x)
not_load k a b h =
    sym (never a (λ x. b and_then with_two k x) (λ x. never b (with_two k x) (λ y. rw (ne_eqb k 0x4C h))))

pub is_load : (k : ℕ) (a b : Option Bytes) (x y : Bytes) → k ≡ 0x4C → a ≡ some x → b ≡ some y → some (load x y) ≡ (a and_then λ u. b and_then with_two k u)
is_load k a b x y h p q = rw (p, q, h)

-- without one of the arguments there is nothing to load
pub no_first : (k : ℕ) (a b : Option Bytes) → a ≡ none → none ≡ (a and_then λ x. b and_then with_two k x)
no_first k a b h = rw h

pub no_second : (k : ℕ) (a b : Option Bytes) → b ≡ none → none ≡ (a and_then λ x. b and_then with_two k x)
no_second k a b h = sym (never a (λ x. b and_then with_two k x) (λ x. rw h))

-- both arguments, one behind the other in the buffer after the second
pub load_said : (k d n : ℕ) (o₁ o₂ : Bytes) (a b : Option Bytes) → k ≡ 0x4C → a ≡ some (take d o₁) → b ≡ some (take n (drop d o₂)) → take d o₂ ≡ take d o₁
    → some (load (take d o₂) (take (d + n - d) (drop d o₂))) ≡ (a and_then λ u. b and_then with_two k u)
load_said k d n o₁ o₂ a b h p q e =
    let m : d + n - d ≡ n = omega arith in
    rw (e, m) (is_load k a b (take d o₁) (take n (drop d o₂)) h p q)

-- two arguments by the place of the space between them
pub two_parts : (k at : ℕ) (cs : Bytes) → at ≡ 0 + length (before space cs) → at < length cs
    → (argument (take at cs) and_then λ x. argument (take (length cs - (at + 1)) (drop (at + 1) cs)) and_then with_two k x) ≡ letter_and k (parts space cs)
two_parts k at cs e h =
    let p : at ≡ length (before space cs) = omega arith in
    let q : take at cs ≡ before space cs = ap (λ (n : ℕ). take n cs) p ∙ sym (before_take space cs) in
    let r : take (length cs - (at + 1)) (drop (at + 1) cs) ≡ drop (suc (length (before space cs))) cs =
    take_all (length cs - (at + 1)) (drop (at + 1) cs) (rw (length-drop (at + 1) cs) (omega arith)) ∙ ap (λ (n : ℕ). drop n cs) (add-one at ∙ ap suc p) in
    rw (q, r) (sym (two_arguments k cs (omega arith)))

-- a part that is no single character is no letter
letter_not : (w : Bytes) → (length w ≡ 1 → ⊥) → letter w ≡ none
letter_not [] h = refl
letter_not (c ∷ []) h = absurd (h refl)
letter_not (c ∷ b ∷ cs) h = refl

letter_is : (w : Bytes) → length w ≡ 1 → letter w ≡ some (get_or w 0 0)
letter_is [] h = absurd (omega arith)
letter_is (c ∷ []) h = refl
letter_is (c ∷ b ∷ cs) h = absurd (omega arith)

-- a line that is too long
pub line_long : (cs : Bytes) → longest < length cs → none ≡ line_of cs
unfolding line_of
line_long cs h = rw (lt-leb (length cs) longest h)

-- one whose first part is no letter
pub line_unspaced : (cs : Bytes) → (length (before space cs) ≡ 1 → ⊥) → none ≡ line_of cs
unfolding line_of
line_unspaced cs h = go (leb (length cs) longest)
  where
    go : (t : Bool) → none ≡ pick t (form_of (parts space cs)) none
    go true = rw ((parts_first space cs).1, letter_not (before space cs) h)
    go false = refl

-- one with a letter alone
pub line_alone : (cs : Bytes) → length (before space cs) ≡ 1 → length cs ≡ 1 → none ≡ line_of cs
unfolding line_of
line_alone cs e h = go (leb (length cs) longest)
  where
    go : (t : Bool) → none ≡ pick t (form_of (parts space cs)) none
    go true = rw (parts_whole space cs (e ∙ sym h), letter_is cs h)
    go false = refl

-- one with a letter and arguments
pub line_arguments : (cs : Bytes) → length cs ≤ longest → length (before space cs) ≡ 1 → 1 < length cs
    → letter_and (get_or cs 0 0) (parts space (drop 2 cs)) ≡ line_of cs
unfolding line_of
line_arguments cs h e k =
    let g : get_or (before space cs) 0 0 ≡ get_or cs 0 0 =
    ap (λ (x : Bytes). get_or x 0 0) (before_take space cs) ∙ get_or-take (length (before space cs)) cs 0 0 (omega arith) in
    let p : parts space cs ≡ before space cs ∷ parts space (drop 2 cs) =
    parts_next space cs (omega arith) ∙ ap (λ (n : ℕ). before space cs ∷ parts space (drop (suc n) cs)) e in
    rw (le-leb (length cs) longest h, p, letter_is (before space cs) e, g)

pub line_rest : (cs : Bytes) → length cs ≤ longest → length (before space cs) ≡ 1 → 1 < length cs
    → letter_and (get_or cs 0 0) (parts space (take (length cs - 2) (drop 2 cs))) ≡ line_of cs
line_rest cs h e k =
    ap (λ (x : Bytes). letter_and (get_or cs 0 0) (parts space x)) (take_all (length cs - 2) (drop 2 cs) (rw (length-drop 2 cs) (omega arith)))
    ∙ line_arguments cs h e k
