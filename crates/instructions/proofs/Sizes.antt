-- The length of an instruction by the form and size of its opcode. Assumes nothing.
--
-- f, n == form and size of the opcode at an offset
use Prim.Native.Nat.{ℕ, zero, suc, ◌+◌, ◌*◌, ◌<◌, ◌≤◌}
use native.Mathlib.Omega.{arith}
use native.Mathlib.Decide.{dec_le, ℕ_discrete}
use mathlib.Core.Path.{◌≡◌, refl, sym, ap, ◌∙◌, subst}
use mathlib.Core.Bool.{Bool, true, false}
use mathlib.Core.Option.{Option, none, some}
use lib.Dec.{T, eqb}
use lib.ListN.{length}
use borrow.Author.Tests.{ne_eqb, le-leb, lt-leb}
use Rattle.rules.specs.Bytes.{Bytes, pick, is_some, ◌and_then◌}
use Rattle.rules.specs.Code.{u1_at, u2_at, switch73, switch74, switch75, switch76, Length, by_opcode, by_switch, undefined, fits, switch_bytes, length_as, instruction_length, switch_entries}
use Rattle.rules.proofs.Tests.{none_some}
use Rattle.std.specs.Prelude.{Some, None}
use Rattle.std.specs.Prelude.{Option as Optional}
use Rattle.fields.specs.Told.{told as given}
use Rattle.instructions.specs.Table.{Inside, switch_of, told, branch_bytes, Says, Whole}

-- the switch of each form
pub switch_73 : (f : ℕ) → f ≡ 4 → switch_of f ≡ switch73
unfolding switch_of
switch_73 f e = rw e refl

pub switch_74 : (f : ℕ) → f ≡ 5 → switch_of f ≡ switch74
unfolding switch_of
switch_74 f e = rw e refl

pub switch_75 : (f : ℕ) → f ≡ 6 → switch_of f ≡ switch75
unfolding switch_of
switch_75 f e = rw e refl

pub switch_76 : (f : ℕ) → 6 < f → switch_of f ≡ switch76
unfolding switch_of
switch_76 f h = rw (ne_eqb f 4 (λ e. omega arith), ne_eqb f 5 (λ e. omega arith), ne_eqb f 6 (λ e. omega arith))

-- the least head
pub head_least : (f : ℕ) → 5 ≤ (switch_of f).head
unfolding switch_of
head_least f = go (eqb f 4) (eqb f 5) (eqb f 6)
  where
    go : (a b d : Bool) → 5 ≤ (pick a switch73 (pick b switch74 (pick d switch75 switch76))).head
    go true b d = omega arith
    go false true d = omega arith
    go false false true = omega arith
    go false false false = omega arith

pub head_most : (f : ℕ) → (switch_of f).head ≤ 11
unfolding switch_of
head_most f = go (eqb f 4) (eqb f 5) (eqb f 6)
  where
    go : (a b d : Bool) → (pick a switch73 (pick b switch74 (pick d switch75 switch76))).head ≤ 11
    go true b d = omega arith
    go false true d = omega arith
    go false false true = omega arith
    go false false false = omega arith

-- 73 and 74 have entries of two bytes
pub entry_2 : (f : ℕ) → 3 < f → f < 6 → (switch_of f).entry ≡ 2
unfolding switch_of
entry_2 f h l = elim (ℕ_discrete f 4) [
  | yes e ↦ rw e refl
  | no e ↦ let q : f ≡ 5 = omega arith in rw q refl
]

pub offset_0 : (f : ℕ) → 3 < f → f < 6 → (switch_of f).offset ≡ 0
unfolding switch_of
offset_0 f h l = elim (ℕ_discrete f 4) [
  | yes e ↦ rw e refl
  | no e ↦ let q : f ≡ 5 = omega arith in rw q refl
]

-- the pairs of 75 and 76
pub pairs : (f : ℕ) (code : Bytes) (at : ℕ) → 5 < f → switch_entries (switch_of f) code at ≡ some (u2_at code (at + 3))
unfolding switch_of
pairs f code at h = rw (ne_eqb f 4 (λ e. omega arith), ne_eqb f 5 (λ e. omega arith)) (go (eqb f 6))
  where
    go : (t : Bool) → switch_entries (pick t switch75 switch76) code at ≡ some (u2_at code (at + 3))
    go true = refl
    go false = refl

fits_some : (code : Bytes) (at n : ℕ) → at + n ≤ length code → fits code at n ≡ some n
fits_some code at n h = rw (le-leb (at + n) (length code) h)

fits_none : (code : Bytes) (at n : ℕ) → length code < at + n → fits code at n ≡ none
fits_none code at n h = rw (lt-leb (at + n) (length code) h)

pub bytes_are : (f head entry n : ℕ) → head ≡ (switch_of f).head → (switch_of f).entry ≡ entry → head + entry * n ≡ switch_bytes (switch_of f) n
bytes_are f head entry n e q = rw (e, ← q)

-- what the fields of a switch say
pub said_none : (f : ℕ) (code : Bytes) (at : ℕ) → switch_entries (switch_of f) code at ≡ none →
    (switch_entries (switch_of f) code at and_then λ n. some (switch_bytes (switch_of f) n)) ≡ none
said_none f code at e = ap (λ (o : Option ℕ). o and_then λ n. some (switch_bytes (switch_of f) n)) e

pub said_number : (f : ℕ) (code : Bytes) (at n m : ℕ) → switch_entries (switch_of f) code at ≡ some n → m ≡ switch_bytes (switch_of f) n →
    (switch_entries (switch_of f) code at and_then λ n. some (switch_bytes (switch_of f) n)) ≡ some m
said_number f code at n m e q = ap (λ (o : Option ℕ). o and_then λ n. some (switch_bytes (switch_of f) n)) e ∙ ap some (sym q)

-- what the fields of a switch say, where the code has so many bytes
said_fits : (code : Bytes) (at m : ℕ) (g : ℕ → ℕ) (o : Option ℕ) → (o and_then λ k. some (g k)) ≡ some m → at + m ≤ length code →
    (o and_then λ k. fits code at (g k)) ≡ some m
said_fits code at m g none e h = absurd (none_some e)
said_fits code at m g (some k) e h = let q : g k ≡ m = cc in rw q (fits_some code at m h)

-- and where it has not
said_short : (code : Bytes) (at m : ℕ) (g : ℕ → ℕ) (o : Option ℕ) → (o and_then λ k. some (g k)) ≡ some m → length code < at + m →
    (o and_then λ k. fits code at (g k)) ≡ none
said_short code at m g none e h = refl
said_short code at m g (some k) e h = let q : g k ≡ m = cc in rw q (fits_none code at m h)

-- and where the fields say none
said_nothing : (code : Bytes) (at : ℕ) (g : ℕ → ℕ) (o : Option ℕ) → (o and_then λ k. some (g k)) ≡ none → (o and_then λ k. fits code at (g k)) ≡ none
said_nothing code at g none e = refl
said_nothing code at g (some k) e = absurd (none_some (sym e))

-- what has bytes is there whole
pub whole_is : (o : Option ℕ) (r : ℕ) → o ≡ some r → T (is_some o)
whole_is o r e = subst (λ (o : Option ℕ). T (is_some o)) (sym e) tt

-- what is there whole is not none
pub whole_none : {A : Type 0} (o : Option ℕ) → T (is_some o) → o ≡ none → A
whole_none o t e = absurd (subst (λ (o : Option ℕ). T (is_some o)) e t)

-- what is answered of the length of an instruction
module _ (code : Bytes) (at : ℕ) (r : Optional ℕ) (e : (instruction_length code at ≡ given r) × Inside (length code) at r) where
  pub length_some : (n : ℕ) → r ≡ Some n → (instruction_length code at ≡ some n) × (0 < n) × (at + n ≤ length code)
  length_some n q = let b = subst (Inside (length code) at) q e.1 in (e.0 ∙ ap given q, b.0, b.1)

  pub length_none : r ≡ None → instruction_length code at ≡ none
  length_none q = e.0 ∙ ap given q

module _ (code : Bytes) (at f n : ℕ) (s : Says (u1_at code at) f n) where
  length_is : instruction_length code at ≡ length_as (told f n) code at
  unfolding instruction_length
  length_is = ap (λ (l : Length). length_as l code at) s.tells

  -- no switch
  length_plain : f ≤ 3 → instruction_length code at ≡ length_as (pick (eqb n 0) undefined (by_opcode n)) code at
  unfolding told
  length_plain h = length_is ∙ rw (le-leb f 3 h)

  -- a switch
  length_switch : 3 < f → instruction_length code at ≡ length_as (by_switch (switch_of f)) code at
  unfolding told
  length_switch h = length_is ∙ rw (lt-leb f 3 h)

  pub plain_length : f ≤ 3 → (n ≡ 0 → ⊥) → at + n ≤ length code → instruction_length code at ≡ some n
  unfolding length_as
  plain_length h z b = length_plain h ∙ rw (ne_eqb n 0 z) (fits_some code at n b)

  -- no size is no instruction
  pub no_size : n ≡ 0 → instruction_length code at ≡ none
  unfolding length_as
  no_size z = elim (dec_le f 3) [
    | yes h ↦ length_plain h ∙ rw z refl
    | no h ↦ absurd (omega (arith, s.head (omega arith), head_least f))
  ]

  plain_short : f ≤ 3 → length code < at + n → instruction_length code at ≡ none
  unfolding length_as
  plain_short h b = length_plain h ∙ go n b
    where
      go : (m : ℕ) → length code < at + m → length_as (pick (eqb m 0) undefined (by_opcode m)) code at ≡ none
      go zero k = refl
      go (suc m) k = rw (ne_eqb (suc m) 0 (λ e. omega arith)) (fits_none code at (suc m) k)

  -- the code ends before the size
  pub too_short : length code < at + n → instruction_length code at ≡ none
  unfolding length_as
  too_short b = elim (dec_le f 3) [
    | yes h ↦ plain_short h b
    | no h ↦ let l : 3 < f = omega arith in
        let e : n ≡ (switch_of f).head = s.head l in
        length_switch l ∙ ap (λ (o : Option ℕ). o and_then λ (h : ℕ). switch_entries (switch_of f) code at and_then λ k. fits code at
        (switch_bytes (switch_of f) k)) (fits_none code at (switch_of f).head (omega arith))
  ]

  -- a switch whose head the code has
  switch_entries_lem : 3 < f → at + n ≤ length code → instruction_length code at ≡
      (switch_entries (switch_of f) code at and_then λ k. fits code at (switch_bytes (switch_of f) k))
  unfolding length_as
  switch_entries_lem l b =
      let e : n ≡ (switch_of f).head = s.head l in
      length_switch l ∙ ap (λ (o : Option ℕ). o and_then λ (h : ℕ). switch_entries (switch_of f) code at and_then λ k. fits code at
      (switch_bytes (switch_of f) k)) (fits_some code at (switch_of f).head (omega arith))

  module _ (m : ℕ) (l : 3 < f) (b : at + n ≤ length code) (e : (switch_entries (switch_of f) code at and_then λ k. some (switch_bytes (switch_of f) k)) ≡
      some m) where
    pub switch_fits : at + m ≤ length code → instruction_length code at ≡ some m
    switch_fits h = switch_entries_lem l b ∙ said_fits code at m (switch_bytes (switch_of f)) (switch_entries (switch_of f) code at) e h

    pub switch_short : length code < at + m → instruction_length code at ≡ none
    switch_short h = switch_entries_lem l b ∙ said_short code at m (switch_bytes (switch_of f)) (switch_entries (switch_of f) code at) e h

  -- a switch whose fields say none
  pub switch_none : 3 < f → at + n ≤ length code → (switch_entries (switch_of f) code at and_then λ k. some (switch_bytes (switch_of f) k)) ≡ none →
      instruction_length code at ≡ none
  switch_none l b e = switch_entries_lem l b ∙ said_nothing code at (switch_bytes (switch_of f)) (switch_entries (switch_of f) code at) e

  -- an instruction that is there whole has its size
  pub whole_size : Whole code at → at + n ≤ length code
  whole_size w = elim (dec_le (at + n) (length code)) [
    | yes h ↦ h
    | no h ↦ absurd (subst (λ (o : Option ℕ). T (is_some o)) (too_short (omega arith)) w)
  ]

  -- and, of a switch, what its fields say
  pub whole_switch : 3 < f → Whole code at → (m : ℕ) → (switch_entries (switch_of f) code at and_then λ k. some (switch_bytes (switch_of f) k)) ≡ some m →
      at + m ≤ length code
  whole_switch l w m e = elim (dec_le (at + m) (length code)) [
    | yes h ↦ h
    | no h ↦ absurd (subst (λ (o : Option ℕ). T (is_some o)) (switch_short m l (whole_size w) e (omega arith)) w)
  ]

  -- and its entries
  pub whole_entries : 3 < f → Whole code at → (r : ℕ) → switch_entries (switch_of f) code at ≡ some r →
      at + ((switch_of f).head + (switch_of f).entry * r) ≤ length code
  whole_entries l w r e = whole_switch l w ((switch_of f).head + (switch_of f).entry * r) (said_number f code at r _ e refl)

  -- the bytes of the entries, and those of a branch
  pub switch_room : 3 < f → Whole code at → (r : ℕ) → switch_entries (switch_of f) code at ≡ some r → (entry : ℕ) → (switch_of f).entry ≡ entry → at +
      n + entry * r ≤ length code
  switch_room l w r e entry q =
      let h : at + ((switch_of f).head + entry * r) ≤ length code = subst (λ (k : ℕ). at + ((switch_of f).head + k * r) ≤ length code) q
      (whole_entries l w r e) in
      omega (arith, s.head l)

  pub room_s1 : f ≡ 2 → Whole code at → at + 2 ≤ length code
  unfolding branch_bytes
  room_s1 e w =
      let h : 2 ≤ n = subst (λ (k : ℕ). branch_bytes k ≤ n) e s.reaches in
      omega (arith, whole_size w)

  pub room_s2 : 2 < f → Whole code at → at + 3 ≤ length code
  unfolding branch_bytes
  room_s2 l w =
      let h : 3 ≤ n = rw (lt-leb f 1 (omega arith), ne_eqb f 2 (λ e. omega arith)) at s.reaches in
      omega (arith, whole_size w)
