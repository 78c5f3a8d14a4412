-- The barred opcodes one by one, tested once over all 256, and barred instructions said without tests. Assumes nothing.
use Prim.Native.Nat.{ℕ, ◌+◌, ◌%◌, ◌<◌}
use native.Mathlib.Omega.{arith}
use mathlib.Core.Path.{◌≡◌, refl, sym, subst}
use mathlib.Core.Bool.{Bool, true, false, ◌||◌, not}
use mathlib.Core.Logic.{◌⊎◌, inl, inr}
use mathlib.Core.List.{List, [], ◌∷◌, Memᴰ}
use mathlib.Core.Option.{some}
use lib.Dec.{T, leb, ltb, eqb, eqb→eq, leb→le, ltb→lt, T_not, not_T}
use lib.ListN.{length, replicate}
use borrow.Author.Tests.{eq-eqb}
use Rattle.rules.specs.Bytes.{Bytes, any, all, all_from, within}
use Rattle.rules.specs.Code.{u1_at, among, split}
use Rattle.rules.specs.Subset.{even_opcode, barred_opcode, barred_operand, barred_at, code_without_int}
use Rattle.rules.specs.Splitting.{Begins}
use Rattle.rules.specs.Barred.{barred_opcodes, Barred, by_opcode, by_operand}
use Rattle.rules.proofs.Tests.{and_l, and_r, and_i, of_true, all_mem, mem_any, all_from_zero}
use Rattle.rules.proofs.Lists.{at_there}
use Rattle.rules.proofs.Cuts.{listed_begins, begins_listed}
use Rattle.rules.proofs.Handlers.{mem_all}

-- a test of one of two, and a test under a condition
or_is : (a b : Bool) → T (a || b) → T a ⊎ T b
or_is true b h = inl tt
or_is false b h = inr h

or_left : (a b : Bool) → T a → T (a || b)
or_left true b h = tt
or_left false b h = absurd h

or_right : (a b : Bool) → T b → T (a || b)
or_right true b h = tt
or_right false b h = h

pub implied : (a b : Bool) → T (not a || b) → T a → T b
implied true b h t = h
implied false b h t = absurd t

-- every opcode that the test takes is listed, tested over all 256
abbrev each : List ℕ
each = replicate 256 0

abbrev Tested : (ℕ → Bool) → List ℕ → Type 0
Tested q xs = T (all_from (λ o z. not (q o) || any (eqb o) xs) 0 each)

listed : (q : ℕ → Bool) (xs : List ℕ) → Tested q xs → (o : ℕ) → o < 256 → T (q o) → Memᴰ o xs
listed q xs h o b t =
    let l : length each ≡ 256 = refl in
    let x = at_there each o (omega (arith, l, b)) in
    let m = mem_any (eqb o) xs (implied (q o) _ (all_from_zero (λ o z. not (q o) || any (eqb o) xs) each o x.0 h x.1) t) in
    subst (λ (n : ℕ). Memᴰ n xs) (sym (eqb→eq o m.0 m.2)) m.1

-- a number in ranges whose ends are below 256 is below it
among_below : (rs : List (ℕ × ℕ)) → T (all (λ r. ltb r.1 256) rs) → (o : ℕ) → T (among rs o) → o < 256
among_below rs h o t =
    let r = mem_any (λ r. within r.0 r.1 o) rs t in
    let top = ltb→lt r.0.1 256 (all_mem (λ r. ltb r.1 256) h r.1) in
    let low = leb→le o r.0.1 (and_r (leb r.0.0 o) (leb o r.0.1) r.2) in
    omega (arith, top, low)

-- so is a barred one
abbrev lower : List (ℕ × ℕ)
lower = (0x09, 0x0F) ∷ (0x12, 0x14) ∷ (0x17, 0x17) ∷ (0x20, 0x23) ∷ (0x27, 0x27) ∷ (0x2A, 0x2A) ∷ (0x33, 0x36) ∷ (0x3A, 0x3A) ∷ []

abbrev middle : List (ℕ × ℕ)
middle = (0x5A, 0x5A) ∷ (0x5C, 0x5F) ∷ (0x74, 0x74) ∷ (0x76, 0x76) ∷ (0x79, 0x79) ∷ (0x7E, 0x7E) ∷ (0x82, 0x82) ∷ (0x86, 0x86) ∷ []

abbrev upper : List (ℕ × ℕ)
upper = (0x8A, 0x8A) ∷ (0x97, 0x97) ∷ (0xAC, 0xAC) ∷ (0xB0, 0xB0) ∷ (0xB4, 0xB4) ∷ (0xB8, 0xB8) ∷ []

barred_below : (o : ℕ) → T (barred_opcode o) → o < 256
unfolding barred_opcode
barred_below o h = elim (or_is (among lower o) (even_opcode o || (among middle o || among upper o)) h) [
  | inl t ↦ among_below lower tt o t
  | inr t ↦ elim (or_is (even_opcode o) (among middle o || among upper o) t) [
    | inl u ↦ let k = leb→le o 0x58 (and_r (leb 0x42 o) (leb o 0x58) (and_l (within 0x42 0x58 o) (eqb (o % 2) 0) u)) in omega (arith, k)
    | inr u ↦ elim (or_is (among middle o) (among upper o) u) [ inl w ↦ among_below middle tt o w | inr w ↦ among_below upper tt o w ]
  ]
]

-- the opcodes, both ways
tested_opcodes : Tested barred_opcode barred_opcodes
unfolding barred_opcode
tested_opcodes = tt

pub barred_listed : (o : ℕ) → T (barred_opcode o) → Memᴰ o barred_opcodes
barred_listed o h = listed barred_opcode barred_opcodes tested_opcodes o (barred_below o h) h

all_barred : T (all barred_opcode barred_opcodes)
unfolding barred_opcode
all_barred = tt

pub how_many : length barred_opcodes ≡ 51
how_many = refl

pub listed_barred : (o : ℕ) → Memᴰ o barred_opcodes → T (barred_opcode o)
listed_barred o m = all_mem barred_opcode all_barred m

-- 90, 94 and 95, both ways
abbrev typed : List (ℕ × ℕ)
typed = (0x90, 0x90) ∷ (0x94, 0x95) ∷ []

typed_listed : (o : ℕ) → T (among typed o) → Memᴰ o (0x90 ∷ 0x94 ∷ 0x95 ∷ [])
typed_listed o h = listed (among typed) (0x90 ∷ 0x94 ∷ 0x95 ∷ []) tt o (among_below typed tt o h) h

listed_typed : (o : ℕ) → Memᴰ o (0x90 ∷ 0x94 ∷ 0x95 ∷ []) → T (among typed o)
listed_typed o m = let h : T (all (among typed) (0x90 ∷ 0x94 ∷ 0x95 ∷ [])) = tt in all_mem (among typed) h m

-- an instruction, both ways
pub test_barred : (code : Bytes) (k : ℕ) → T (barred_at code k) → Barred code k
unfolding barred_operand
test_barred code k h = elim (or_is (barred_opcode (u1_at code k)) _ h) [
  | inl t ↦ by_opcode (barred_listed (u1_at code k) t)
  | inr t ↦ by_operand (typed_listed (u1_at code k) (and_l (among typed (u1_at code k)) _ t)) (eqb→eq _ 0x0D (and_r (among typed (u1_at code k)) _ t))
]

pub barred_test : (code : Bytes) (k : ℕ) → Barred code k → T (barred_at code k)
unfolding barred_operand
barred_test code k (by_opcode m) = or_left (barred_opcode (u1_at code k)) _ (listed_barred (u1_at code k) m)
barred_test code k (by_operand m e) =
    or_right (barred_opcode (u1_at code k)) _
    (and_i (among typed (u1_at code k)) (eqb (u1_at code (k + 1)) 0x0D) (listed_typed (u1_at code k) m) (of_true (eq-eqb (u1_at code (k + 1)) 0x0D e)))

-- a code that splits, both ways
module _ (code : Bytes) (ks : List ℕ) (e : split code ≡ some ks) where
  pub without_none : T (code_without_int code) → (i : ℕ) → Begins code i → Barred code i → ⊥
  unfolding code_without_int
  without_none h i b x =
      let t : T (all (λ k. not (barred_at code k)) ks) = rw e at h in
      T_not (barred_at code i) (all_mem (λ k. not (barred_at code k)) t (begins_listed code ks e i b)) (barred_test code i x)

  pub none_without : ((i : ℕ) → Begins code i → Barred code i → ⊥) → T (code_without_int code)
  unfolding code_without_int
  none_without h =
      rw e (mem_all (λ k. not (barred_at code k)) ks (λ i m. not_T (barred_at code i) (λ t. h i (listed_begins code ks e i m) (test_barred code i t))))
