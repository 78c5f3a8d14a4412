-- The walk over a code: what is known where a turn begins, a turn, and what is left at the end. Assumes nothing.
use Prim.Native.Nat.{ℕ, zero, suc, ◌+◌, ◌<◌, ◌≤◌}
use native.Mathlib.Omega.{arith}
use mathlib.Core.Path.{◌≡◌, refl, sym, ap, ◌∙◌, subst}
use mathlib.Core.Bool.{Bool, true, false, ◌&&◌, ◌||◌, not, and-true, or-false}
use mathlib.Core.List.{List, [], ◌∷◌, ◌++◌, append_assoc, append-nil}
use mathlib.Core.Option.{Option, none, some}
use lib.Dec.{eqb, ltb}
use lib.ListN.{length}
use borrow.Author.Tests.{eqb-true, lt-ltb}
use Rattle.rules.specs.Bytes.{Bytes, any, flat, ◌and_then◌}
use Rattle.rules.specs.Code.{u1_at, instruction_length, split_from, split, targets_at, call_at}
use Rattle.rules.proofs.Tests.{none_some}
use Rattle.bits.specs.Bits.{bit_at, with_bit}
use Rattle.std.specs.Prelude.{Some, None}
use Rattle.std.specs.Prelude.{Option as Optional}
use Rattle.fields.specs.Told.{told}
use Rattle.instructions.specs.Table.{Says}
use Rattle.codes.specs.Marks.{Adds, last_of, last_in, LastInside, empty, Passed, Walk}
use Rattle.rules.proofs.Splitting.{behind, split_end, split_none, split_more}
use Rattle.codes.proofs.Adding.{any_join, adds_nil, adds_join, adds_is}
use Rattle.codes.proofs.Targets.{no_targets}
use Rattle.codes.proofs.Opcodes.{form_empty}

flat_last : {A B : Type 0} (f : A → List B) (xs : List A) (x : A) → flat f (xs ++ x ∷ []) ≡ flat f xs ++ f x
flat_last f [] x = append-nil (f x)
flat_last f (y ∷ ys) x = ap (λ (l : List _). f y ++ l) (flat_last f ys x) ∙ sym (append_assoc (f y) (flat f ys) (f x))

empty_join : {A : Type 0} (xs ys : List A) → empty (xs ++ ys) ≡ (empty xs && empty ys)
empty_join [] ys = refl
empty_join (x ∷ xs) ys = refl

last_more : (ks : List ℕ) (at : ℕ) → last_of (ks ++ at ∷ []) ≡ some at
last_more [] at = refl
last_more (x ∷ []) at = refl
last_more (x ∷ y ∷ ys) at = last_more (y ∷ ys) at

-- the starts passed, and those of what is left
abbrev joined : List ℕ → Option (List ℕ) → Option (List ℕ)
joined ks o = o and_then λ starts. some (ks ++ starts)

joined_nil : (o : Option (List ℕ)) → o ≡ joined [] o
joined_nil none = refl
joined_nil (some starts) = refl

joined_more : (ks : List ℕ) (at : ℕ) (o : Option (List ℕ)) → joined ks (behind at o) ≡ joined (ks ++ at ∷ []) o
joined_more ks at none = refl
joined_more ks at (some starts) = ap some (sym (append_assoc ks (at ∷ []) starts))

-- one instruction more: its offset's bit, its targets, whether it is a call
module _ (code : Bytes) (inside calls : Bool) (starts targets : Bytes) (ks : List ℕ) (p : Passed code inside calls starts targets ks) where
  passed_more : (at : ℕ) (starts' targets' : Bytes) (r inside' calls' : Bool) → at < length code →
      ((k : ℕ) → bit_at starts' k ≡ with_bit (bit_at starts) at k) →
      Adds (length code) (bit_at targets) targets' r (targets_at code at) → inside' ≡ (inside && r) →
      not calls' ≡ (not calls && empty (call_at code at)) → Passed code inside' calls' starts' targets' (ks ++ at ∷ [])
  unfolding with_bit
  passed_more at starts' targets' r inside' calls' h s a i c = record {
    marked = λ k. s k ∙ ap (λ (b : Bool). eqb k at || b) (p.marked k) ∙ turned (eqb k at) (any (eqb k) ks) ∙ sym (any_join (eqb k) ks (at ∷ []));
    below = λ k e. is_below k (sym (any_join (eqb k) ks (at ∷ [])) ∙ e);
    landed = subst (λ (b : Bool). Adds (length code) (λ k. false) targets' b (flat (targets_at code) (ks ++ at ∷ []))) (sym i)
        (subst (Adds (length code) (λ k. false) targets' (inside && r)) (sym (flat_last (targets_at code) ks at))
        (adds_join (length code) (λ k. false) targets targets' inside r (flat (targets_at code) ks) (targets_at code at) p.landed a));
    called = c ∙ ap (λ (b : Bool). b && empty (call_at code at)) p.called
        ∙ sym (ap empty (flat_last (call_at code) ks at) ∙ empty_join (flat (call_at code) ks) (call_at code at));
  }
    where
      turned : (a b : Bool) → (a || b) ≡ (b || (a || false))
      turned true true = refl
      turned true false = refl
      turned false b = sym (or-false b)

      is_below : (k : ℕ) → (any (eqb k) ks || (eqb k at || false)) ≡ true → ltb k (length code) ≡ true
      is_below k e = go (any (eqb k) ks) (eqb k at) refl refl e
        where
          go : (a b : Bool) → any (eqb k) ks ≡ a → eqb k at ≡ b → (a || (b || false)) ≡ true → ltb k (length code) ≡ true
          go true b x y z = p.below k x
          go false true x y z = lt-ltb k (length code) (omega (arith, eqb-true k at y, h))
          go false false x y z = absurd (subst (λ (b : Bool). lib.Dec.T b) (sym z) tt)

  -- the same by the form of its opcode
  module _ (at f n : ℕ) (starts' : Bytes) (s : Says (u1_at code at) f n) (h : at < length code)
      (m : (k : ℕ) → bit_at starts' k ≡ with_bit (bit_at starts) at k) where
    -- a call among all is one among those before, or this one
    called_more : not (calls || eqb f 1) ≡ (not calls && empty (call_at code at))
    called_more = by calls
      where
        by : (b : Bool) → not (b || eqb f 1) ≡ (not b && empty (call_at code at))
        by true = refl
        by false = sym (form_empty code at f n s)

    -- one that does not branch
    pub passed_straight : f ≤ 1 → Passed code inside (calls || eqb f 1) starts' targets (ks ++ at ∷ [])
    passed_straight e = passed_more at starts' targets true inside (calls || eqb f 1) h m
        (adds_is refl (sym (no_targets code at f n s e)) (adds_nil (length code) targets)) (sym (and-true inside)) called_more

    -- one that branches
    pub passed_branch : (targets' : Bytes) (r : Bool) → Adds (length code) (bit_at targets) targets' r (targets_at code at) → Passed code (inside && r)
        (calls || eqb f 1) starts' targets' (ks ++ at ∷ [])
    passed_branch targets' r a = passed_more at starts' targets' r (inside && r) (calls || eqb f 1) h m a refl called_more

-- what is known where a turn begins: the starts before it are passed
pub record Walking (code : Bytes) (at : ℕ) (last : Optional ℕ) (inside calls : Bool) (starts targets : Bytes) : Type 0 where
  pub before : List ℕ
  pub fuel : ℕ
  pub enough : length code ≤ at + fuel
  pub same : split code ≡ joined before (split_from fuel code at)
  pub passed : Passed code inside calls starts targets before
  pub last_is : told last ≡ last_of before
  pub bound : LastInside (length code) last
  pub within : at ≤ length code

module _ (code : Bytes) where
  pub walking_start : (starts targets : Bytes) → ((k : ℕ) → bit_at starts k ≡ false) → ((k : ℕ) → bit_at targets k ≡ false) → Walking code 0 None true false
      starts targets
  unfolding split
  walking_start starts targets s t = record {
    before = [];
    fuel = length code;
    enough = omega arith;
    same = joined_nil (split_from (length code) code 0);
    passed = record {
      marked = s;
      below = λ k e. absurd (subst (λ (b : Bool). lib.Dec.T b) (sym e) tt);
      landed = record
          { answer = refl; marked = λ e k. t k };
      called = refl;
    };
    last_is = refl;
    bound = tt;
    within = omega arith;
  }

  module _ (at : ℕ) (last : Optional ℕ) (inside calls : Bool) (starts targets : Bytes) (g : Walking code at last inside calls starts targets) where
    pub walking_on : (n : ℕ) → at < length code → instruction_length code at ≡ some n → 0 < n → at + n ≤ length code →
        (starts' targets' : Bytes) (inside' calls' : Bool) → Passed code inside' calls' starts' targets' (g.before ++ at ∷ []) →
        Walking code (at + n) (Some at) inside' calls' starts' targets'
    walking_on n h e z i starts' targets' inside' calls' p = go g.fuel refl
      where
        go : (f : ℕ) → g.fuel ≡ f → Walking code (at + n) (Some at) inside' calls' starts' targets'
        go zero q = absurd (omega (arith, g.enough))
        go (suc f) q = record {
          before = g.before ++ at ∷ [];
          fuel = f;
          enough = omega (arith, g.enough);
          same = g.same
              ∙ ap (λ (k : ℕ). joined g.before (split_from k code at)) q
              ∙ ap (joined g.before) (split_more code at f n (λ y. omega arith) e)
              ∙ joined_more g.before at (split_from f code (at + n));
          passed = p;
          last_is = sym (last_more g.before at);
          bound = h;
          within = i;
        }

    -- no instruction is there whole
    pub walking_bad : at < length code → instruction_length code at ≡ none → Walk code None inside calls starts targets
    walking_bad h e = record { answered = sym (ap last_in none_is); bound = tt; passed = λ ks q. absurd (none_some (sym none_is ∙ q)) }
      where
        none_is : split code ≡ none
        none_is = g.same ∙ ap (joined g.before) (split_none code at g.fuel (λ y. omega arith) e)

    -- the end of the code is reached
    pub walking_done : length code ≤ at → Walk code last inside calls starts targets
    walking_done h = record {
      answered = g.last_is ∙ sym (ap last_in some_is);
      bound = g.bound;
      passed = λ ks q. subst (Passed code inside calls starts targets) (same_some (sym some_is ∙ q)) g.passed;
    }
      where
        same_some : {xs ys : List ℕ} → some xs ≡ some ys → xs ≡ ys
        same_some q = cc

        some_is : split code ≡ some g.before
        some_is = g.same ∙ ap (joined g.before) (split_end code at g.fuel (omega (arith, g.within))) ∙ ap some (append-nil g.before)
