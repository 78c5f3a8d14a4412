-- A code's instructions said with a list and said without one are the same; so is question 24. No file version occurs. Assumes nothing.
use Prim.Native.Nat.{ℕ, ◌+◌}
use native.Mathlib.Omega.{arith}
use native.Mathlib.Decide.{ℕ_discrete}
use mathlib.Core.Path.{◌≡◌, refl, sym, ◌∙◌, ap, subst}
use mathlib.Core.Bool.{Bool, true, false, ◌&&◌, ◌||◌}
use mathlib.Core.Logic.{◌⊎◌, inl, inr}
use mathlib.Core.List.Memᴰ
use mathlib.Core.List.{List, [], ◌∷◌, Memᴰ}
use mathlib.Core.Option.{some, some-injective}
use lib.Dec.{T, leb, ltb, eqb, eqb→eq, eqb_refl, leb→le, ltb→lt}
use lib.ListN.{length, get_or-eq_default}
use borrow.Author.Tests.{eq-eqb, lt-ltb, le-leb, lt-leb}
use Rattle.rules.specs.Bytes.{Bytes, any}
use Rattle.rules.specs.Code.{u1_at, length_of, length_as, instruction_length, split_from, split, Handler, handler_fits}
use Rattle.rules.specs.Splitting.{Reaches, first, next, Begins, Splits, HandlerGood}
use Rattle.rules.proofs.Tests.{and_l, and_r, and_i, of_true, none_some, any_mem, mem_any}
use Rattle.rules.proofs.Splitting.{split_turn, split_ended, split_inside}

nil_cons : {x : ℕ} {xs : List ℕ} → ◌≡◌ {A = List ℕ} [] (x ∷ xs) → ⊥
nil_cons q = let z : ◌≡◌ {A = ℕ} 0 1 = cc in omega arith

parts : {a b : ℕ} {xs ys : List ℕ} → ◌≡◌ {A = List ℕ} (a ∷ xs) (b ∷ ys) → (a ≡ b) × (xs ≡ ys)
parts q = (cc, cc)

-- at its end no instruction is whole: there is no opcode, which reads as 0, an instruction of one byte
past_end : (code : Bytes) (at n : ℕ) → at ≡ length code → instruction_length code at ≡ some n → ⊥
unfolding instruction_length length_as length_of
past_end code at n q e =
    let zeroth : u1_at code at ≡ 0 = get_or-eq_default code 0 (omega arith) in
    let short : leb (at + 1) (length code) ≡ false = lt-leb (at + 1) (length code) (omega arith) in
    none_some (sym (rw (zeroth, short) refl) ∙ e)

module _ (code : Bytes) (bound : ℕ) where
  -- what a split from an offset lists begins an instruction, and the end is reached
  cut_says : (at : ℕ) (ks : List ℕ) → split_from bound code at ≡ some ks → Reaches code at →
      ((k : ℕ) → Memᴰ k ks → Begins code k) × Splits code
  cut_says at [] e r = elim (ℕ_discrete at (length code)) [
    | yes q ↦ ((λ k m. elim m [ ]), subst (Reaches code) q r)
    | no h ↦ let t = split_turn bound code at [] e h in absurd (nil_cons (sym t.4))
  ]
  cut_says at (x ∷ ks) e r = elim (ℕ_discrete at (length code)) [
    | yes q ↦ absurd (nil_cons (split_ended bound code at (x ∷ ks) e q))
    | no h ↦
        let t = split_turn bound code at (x ∷ ks) e h in
        let same : (at ≡ x) × (t.1 ≡ ks) = parts t.4 in
        let rest = cut_says (at + t.0) ks (t.3 ∙ ap some same.1) (next t.0 r t.2) in
        let low = split_inside bound code at (x ∷ ks) e in
        let here : Begins code x = subst (Begins code) same.0 (r, omega arith) in
        ((λ k m. elim (Memᴰ.cases_cons m) [ inl q ↦ subst (Begins code) (sym q) here | inr m' ↦ rest.0 k m' ]), rest.1)
  ]

  -- behind one that it lists comes the next one that it lists, or the end
  cut_next : (at : ℕ) (ks : List ℕ) → split_from bound code at ≡ some ks → (k n : ℕ) → Memᴰ k ks → instruction_length code k ≡ some n →
      Memᴰ (k + n) ks ⊎ (k + n ≡ length code)
  cut_next at [] e k n m l = elim m [ ]
  cut_next at (x ∷ ks) e k n m l = elim (ℕ_discrete at (length code)) [
    | yes q ↦ absurd (nil_cons (split_ended bound code at (x ∷ ks) e q))
    | no h ↦
        let t = split_turn bound code at (x ∷ ks) e h in
        let same : (at ≡ x) × (t.1 ≡ ks) = parts t.4 in
        let rest : split_from bound code (at + t.0) ≡ some ks = t.3 ∙ ap some same.1 in
        elim (Memᴰ.cases_cons m) [
          | inl q ↦
              let own : t.0 ≡ n = some-injective _ _ (sym t.2 ∙ ap (instruction_length code) (same.0 ∙ sym q) ∙ l) in
              let to : at + t.0 ≡ k + n = omega (arith, same.0, q, own) in
              behind (k + n) ks (subst (λ (z : ℕ). split_from bound code z ≡ some ks) to rest)
          | inr m' ↦ elim (cut_next (at + t.0) ks rest k n m' l) [ inl z ↦ inl (Memᴰ.tail z) | inr z ↦ inr z ]
        ]
  ]
    where
      behind : (to : ℕ) (ks : List ℕ) → split_from bound code to ≡ some ks → Memᴰ to (x ∷ ks) ⊎ (to ≡ length code)
      behind to ks e = elim (ℕ_discrete to (length code)) [
        | yes q ↦ inr q
        | no h ↦ let t = split_turn bound code to ks e h in inl (Memᴰ.tail (subst (λ (z : List ℕ). Memᴰ to z) t.4 (Memᴰ.head refl)))
      ]

-- what a code that splits lists are exactly the offsets where its instructions begin
module _ (code : Bytes) (ks : List ℕ) (e : split code ≡ some ks) where
  from_start : split_from (length code) code 0 ≡ some ks
  unfolding split
  from_start = e

  pub listed_begins : (k : ℕ) → Memᴰ k ks → Begins code k
  listed_begins = (cut_says code (length code) 0 ks from_start first).0

  pub split_splits : Splits code
  split_splits = (cut_says code (length code) 0 ks from_start first).1

  reached_listed : (k : ℕ) → Reaches code k → Memᴰ k ks ⊎ (k ≡ length code)
  reached_listed k first = elim (ℕ_discrete 0 (length code)) [
    | yes q ↦ inr q
    | no h ↦ let t = split_turn (length code) code 0 ks from_start h in inl (subst (λ (z : List ℕ). Memᴰ 0 z) t.4 (Memᴰ.head refl))
  ]
  reached_listed k (next {k = j} n r l) = elim (reached_listed j r) [
    | inl m ↦ cut_next code (length code) 0 ks from_start j n m l
    | inr q ↦ absurd (past_end code j n q l)
  ]

  pub begins_listed : (k : ℕ) → Begins code k → Memᴰ k ks
  begins_listed k b = elim (reached_listed k b.0) [ inl m ↦ m | inr q ↦ absurd (omega (arith, b.1, q)) ]

  -- so tests of the list are facts about the code
  begins_any : (k : ℕ) → Begins code k → T (any (eqb k) ks)
  begins_any k b = any_mem (eqb k) (eqb_refl k) (begins_listed k b)

  any_begins : (k : ℕ) → T (any (eqb k) ks) → Begins code k
  any_begins k t = let x = mem_any (eqb k) ks t in subst (Begins code) (sym (eqb→eq k x.0 x.2)) (listed_begins x.0 x.1)

  pub fits_good : (h : Handler) → T (handler_fits code ks h) → HandlerGood code h
  fits_good h t =
      let low : Bool = ltb h.start h.end in
      let high : Bool = leb h.end (length code) in
      let begin : Bool = any (eqb h.start) ks in
      let goes : Bool = any (eqb h.target) ks in
      let order = and_l (low && high) _ t in
      let rest = and_r (low && high) _ t in
      let both = and_l (begin && goes) _ rest in
      record {
        order = ltb→lt h.start h.end (and_l low high order);
        within = leb→le h.end (length code) (and_r low high order);
        start = any_begins h.start (and_l begin goes both);
        target = any_begins h.target (and_r begin goes both);
        end = ends (any (eqb h.end) ks) (eqb h.end (length code)) refl refl (and_r (begin && goes) _ rest);
      }
    where
      ends : (a b : Bool) → any (eqb h.end) ks ≡ a → eqb h.end (length code) ≡ b → T (a || b) → Begins code h.end ⊎ (h.end ≡ length code)
      ends true b x y t = inl (any_begins h.end (of_true x))
      ends false true x y t = inr (eqb→eq h.end (length code) (of_true y))
      ends false false x y t = absurd t

  pub good_fits : (h : Handler) → HandlerGood code h → T (handler_fits code ks h)
  good_fits h g =
      let low : Bool = ltb h.start h.end in
      let high : Bool = leb h.end (length code) in
      let begin : Bool = any (eqb h.start) ks in
      let goes : Bool = any (eqb h.target) ks in
      let order = and_i low high (of_true (lt-ltb h.start h.end g.order)) (of_true (le-leb h.end (length code) g.within)) in
      let both = and_i begin goes (begins_any h.start g.start) (begins_any h.target g.target) in
      and_i (low && high) _ order (and_i (begin && goes) _ both (ends g.end))
    where
      or_left : (a b : Bool) → T a → T (a || b)
      or_left true b t = tt
      or_left false b t = absurd t

      or_right : (a b : Bool) → T b → T (a || b)
      or_right true b t = tt
      or_right false b t = t

      ends : Begins code h.end ⊎ (h.end ≡ length code) → T (any (eqb h.end) ks || eqb h.end (length code))
      ends (inl b) = or_left (any (eqb h.end) ks) _ (begins_any h.end b)
      ends (inr q) = or_right (any (eqb h.end) ks) _ (of_true (eq-eqb h.end (length code) q))
