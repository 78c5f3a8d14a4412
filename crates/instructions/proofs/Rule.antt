-- The rule of the table of instruction lengths: one test, computed over all of its entries, and carried from there to each opcode.
-- Assumes nothing.
use Prim.Native.Nat.{ℕ, zero, suc, ◌+◌, ◌/◌, ◌%◌, ◌<◌, ◌≤◌}
use native.Mathlib.Omega.{arith}
use native.Mathlib.Decide.{ℕ_discrete}
use mathlib.Core.Path.{◌≡◌, refl, sym, ap, ◌∙◌}
use mathlib.Core.Bool.{Bool, true, false, ◌&&◌, not}
use mathlib.Core.List.{List, [], ◌∷◌}
use mathlib.Core.Option.{some}
use lib.Dec.{T, leb, eqb, eqb→eq, leb→le}
use lib.ListN.{length, get_or}
use borrow.Author.Tests.{lt-leb, leb-false, not-true}
use Rattle.rules.specs.Bytes.{pick, all_from, at}
use Rattle.rules.specs.Code.{Length, by_opcode, by_switch, undefined, length_of, among}
use Rattle.rules.proofs.Tests.{and_l, and_r, is_true, all_from_zero}
use Rattle.instructions.specs.Table.{switch_of, told, branch_bytes, Says, TableIs}

-- the length is that many bytes, and undefined where that is 0
unfoldable pub is_plain : ℕ → Length → Bool
is_plain n (by_opcode m) = eqb n m && not (eqb n 0)
is_plain n (by_switch w) = false
is_plain n undefined = eqb n 0

-- both tests say the same
abbrev pub agree : Bool → Bool → Bool
agree true b = b
agree false b = not b

-- a switch's form is its opcode less 6F, and its size its head
unfoldable pub right_form : ℕ → ℕ → ℕ → Bool
right_form o f n =
    pick (leb f 3) (is_plain n (length_of o)) (eqb o (0x6F + f) && eqb n (switch_of f).head)
    && (leb f 7
    && (agree (among ((0x8B, 0x8E) ∷ []) o) (eqb f 1)
    && (agree (among ((0x60, 0x70) ∷ []) o) (eqb f 2)
    && (agree (among ((0x71, 0x71) ∷ (0x98, 0xA8) ∷ []) o) (eqb f 3)
    && leb (branch_bytes f) n))))

-- the test of an opcode and its entry
unfoldable pub right : ℕ → ℕ → Bool
right o x = right_form o (x / 16) (x % 16)

pub agree_is : (a b : Bool) → T (agree a b) → a ≡ b
agree_is true b h = sym (is_true b h)
agree_is false b h = sym (not-true b (is_true (not b) h))

plain_is : (n : ℕ) (l : Length) → T (is_plain n l) → l ≡ pick (eqb n 0) undefined (by_opcode n)
unfolding is_plain
plain_is n (by_opcode m) h =
    let e : n ≡ m = eqb→eq n m (and_l (eqb n m) (not (eqb n 0)) h) in
    let z : eqb n 0 ≡ false = not-true (eqb n 0) (is_true (not (eqb n 0)) (and_r (eqb n m) (not (eqb n 0)) h)) in
    rw (z, e)
plain_is n (by_switch w) h = absurd h
plain_is n undefined h = rw (is_true (eqb n 0) h)

switch_is : (f : ℕ) → 3 < f → f ≤ 7 → length_of (0x6F + f) ≡ by_switch (switch_of f)
unfolding length_of switch_of
switch_is f h m =
    elim (ℕ_discrete f 4) [
      | yes e ↦ rw e refl
      | no a ↦ elim (ℕ_discrete f 5) [
        | yes e ↦ rw e refl
        | no b ↦ elim (ℕ_discrete f 6) [
          | yes e ↦ rw e refl
          | no d ↦ let e : f ≡ 7 = omega arith in rw e refl
        ]
      ]
    ]

module _ (o f n : ℕ) where
  -- what the test says of the length
  tells_is : T (pick (leb f 3) (is_plain n (length_of o)) (eqb o (0x6F + f) && eqb n (switch_of f).head)) → f ≤ 7 → length_of o ≡ told f n
  unfolding told
  tells_is h m = go (leb f 3) refl h
    where
      go : (t : Bool) → leb f 3 ≡ t → T (pick t (is_plain n (length_of o)) (eqb o (0x6F + f) && eqb n (switch_of f).head)) → length_of o ≡ pick t
          (pick (eqb n 0) undefined (by_opcode n)) (by_switch (switch_of f))
      go true e k = plain_is n (length_of o) k
      go false e k =
          ap length_of (eqb→eq o (0x6F + f) (and_l (eqb o (0x6F + f)) (eqb n (switch_of f).head) k))
          ∙ switch_is f (leb-false f 3 e) m

  head_is : T (pick (leb f 3) (is_plain n (length_of o)) (eqb o (0x6F + f) && eqb n (switch_of f).head)) → 3 < f → n ≡ (switch_of f).head
  head_is h l = eqb→eq n (switch_of f).head (and_r (eqb o (0x6F + f)) (eqb n (switch_of f).head) (rw (lt-leb f 3 l) at h))

  says_is : T (right_form o f n) → Says o f n
  unfolding right_form
  says_is h =
      let a : Bool = pick (leb f 3) (is_plain n (length_of o)) (eqb o (0x6F + f) && eqb n (switch_of f).head) in
      let k : Bool = agree (among ((0x8B, 0x8E) ∷ []) o) (eqb f 1) in
      let s1 : Bool = agree (among ((0x60, 0x70) ∷ []) o) (eqb f 2) in
      let s2 : Bool = agree (among ((0x71, 0x71) ∷ (0x98, 0xA8) ∷ []) o) (eqb f 3) in
      let d : Bool = leb (branch_bytes f) n in
      let h1 = and_r a (leb f 7 && (k && (s1 && (s2 && d)))) h in
      let h2 = and_r (leb f 7) (k && (s1 && (s2 && d))) h1 in
      let h3 = and_r k (s1 && (s2 && d)) h2 in
      let h4 = and_r s1 (s2 && d) h3 in
      let most = leb→le f 7 (and_l (leb f 7) (k && (s1 && (s2 && d))) h1) in
      let tests = and_l a (leb f 7 && (k && (s1 && (s2 && d)))) h in
      record {
        known = most;
        tells = tells_is tests most;
        calls = agree_is (among ((0x8B, 0x8E) ∷ []) o) (eqb f 1) (and_l k (s1 && (s2 && d)) h2);
        by_s1 = agree_is (among ((0x60, 0x70) ∷ []) o) (eqb f 2) (and_l s1 (s2 && d) h3);
        by_s2 = agree_is (among ((0x71, 0x71) ∷ (0x98, 0xA8) ∷ []) o) (eqb f 3) (and_l s2 d h4);
        reaches = leb→le (branch_bytes f) n (and_r s2 d h4);
        head = head_is tests;
      }

pub at_get_d : (xs : List ℕ) (k : ℕ) → k < length xs → at xs k ≡ some (get_or xs k 0)
at_get_d [] k h = absurd (omega arith)
at_get_d (x ∷ xs) zero h = refl
at_get_d (x ∷ xs) (suc k) h = at_get_d xs k (omega arith)

-- a table that passes the test is the table
pub carried : (t : List ℕ) → length t ≡ 256 → T (all_from right 0 t) → TableIs t
unfolding right
carried t l h = record { says = λ o b. says_is o (get_or t o 0 / 16) (get_or t o 0 % 16) (all_from_zero right t o (get_or t o 0) h (at_get_d t o (omega arith))) }
