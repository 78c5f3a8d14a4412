-- Offsets added to a set of bits, one after the other: whether all lie in the code, and their bits. Assumes nothing.
use Prim.Native.Nat.{ℕ, ◌<◌, ◌≤◌}
use native.Mathlib.Omega.{arith}
use mathlib.Core.Path.{◌≡◌, refl, sym, ap, ◌∙◌, subst}
use mathlib.Core.Bool.{Bool, true, false, ◌&&◌, ◌||◌, and-true, or-false}
use mathlib.Core.List.{List, [], ◌∷◌, ◌++◌}
use lib.Dec.{eqb, ltb}
use lib.IntN.{ℤ, pos, negsuc, ◌+ℤ◌}
use borrow.Author.Tests.{lt-ltb, le-ltb, ltb-true}
use Rattle.rules.specs.Bytes.{Bytes, any, all}
use Rattle.rules.specs.Code.{signed}
use Rattle.bits.specs.Bits.{bit_at, with_bit}
use Rattle.codes.specs.Marks.{goes_to, in_code, LandsAt, Adds}

or_assoc : (a b c : Bool) → (a || (b || c)) ≡ ((a || b) || c)
or_assoc true b c = refl
or_assoc false b c = refl

pub any_join : {A : Type 0} (p : A → Bool) (xs ys : List A) → any p (xs ++ ys) ≡ (any p xs || any p ys)
any_join p [] ys = refl
any_join p (x ∷ xs) ys = ap (λ (b : Bool). p x || b) (any_join p xs ys) ∙ or_assoc (p x) (any p xs) (any p ys)

pub all_join : {A : Type 0} (p : A → Bool) (xs ys : List A) → all p (xs ++ ys) ≡ (all p xs && all p ys)
all_join p [] ys = refl
all_join p (x ∷ xs) ys = go (p x) (all_join p xs ys)
  where
    go : (b : Bool) → all p (xs ++ ys) ≡ (all p xs && all p ys) → (b && all p (xs ++ ys)) ≡ ((b && all p xs) && all p ys)
    go true e = e
    go false e = refl

module _ (n : ℕ) where
  pub adds_nil : (old : Bytes) → Adds n (bit_at old) old true []
  adds_nil old = record { answer = refl; marked = λ e k. sym (or-false (bit_at old k)) }

  -- one offset in the code
  pub adds_in : (old new : Bytes) (to : ℕ) → to < n → ((k : ℕ) → bit_at new k ≡ with_bit (bit_at old) to k) → Adds n (bit_at old) new true (pos to ∷ [])
  unfolding with_bit
  adds_in old new to h e = record { answer = sym (rw (lt-ltb to n h)); marked = λ t k. e k ∙ turned (eqb k to) (bit_at old k) }
    where
      turned : (a b : Bool) → (a || b) ≡ (b || (a || false))
      turned true true = refl
      turned true false = refl
      turned false b = sym (or-false b)

  -- one offset past it
  pub adds_past : (old : Bytes) (to : ℕ) → n ≤ to → Adds n (bit_at old) old false (pos to ∷ [])
  adds_past old to h = record { answer = sym (rw (le-ltb to n h)); marked = λ t k. absurd (subst (λ (b : Bool). lib.Dec.T b) (sym t) tt) }

  -- an integer that is a natural number lands there
  pub lands_there : (z : ℤ) (r : ℕ) → z ≡ pos r → LandsAt n z r
  lands_there z r e = record { below = sym (ap (in_code n) e); there = λ h. e }

  -- one below 0 lands at the end, which is outside
  pub lands_before : (z : ℤ) (k : ℕ) → z ≡ negsuc k → LandsAt n z n
  lands_before z k e = record { below = le-ltb n n (omega arith) ∙ sym (ap (in_code n) e); there = λ h. absurd (omega arith) }

  -- one integer, by where it lands
  pub adds_lands : (old : ℕ → Bool) (new : Bytes) (b : Bool) (z : ℤ) (r : ℕ) → LandsAt n z r → Adds n old new b (pos r ∷ []) → Adds n old new b (z ∷ [])
  adds_lands old new b z r l a = record {
    answer = a.answer ∙ ap (λ (t : Bool). t && true) l.below;
    marked = λ t k.
        let h : r < n = ltb-true r n (sym (and-true (ltb r n)) ∙ sym a.answer ∙ t) in
        a.marked t k ∙ ap (λ (y : ℤ). old k || any (goes_to k) (y ∷ [])) (sym (l.there h));
  }

  -- two lists, one after the other
  pub adds_join : (old : ℕ → Bool) (mid new : Bytes) (r q : Bool) (xs ys : List ℤ) → Adds n old mid r xs → Adds n (bit_at mid) new q ys → Adds n old new
      (r && q) (xs ++ ys)
  adds_join old mid new true q xs ys a b = record {
    answer = b.answer ∙ ap (λ (t : Bool). t && all (in_code n) ys) a.answer ∙ sym (all_join (in_code n) xs ys);
    marked = λ t k. b.marked t k ∙ ap (λ (o : Bool). o || any (goes_to k) ys) (a.marked refl k)
        ∙ sym (or_assoc (old k) (any (goes_to k) xs) (any (goes_to k) ys)) ∙ ap (λ (o : Bool). old k || o) (sym (any_join (goes_to k) xs ys));
  }
  adds_join old mid new false q xs ys a b = adds_stop old new xs ys a.answer
    where
      adds_stop : (old : ℕ → Bool) (new : Bytes) (xs ys : List ℤ) → false ≡ all (in_code n) xs → Adds n old new false (xs ++ ys)
      adds_stop old new xs ys e = record {
        answer = ap (λ (t : Bool). t && all (in_code n) ys) e ∙ sym (all_join (in_code n) xs ys);
        marked = λ t k. absurd (subst (λ (b : Bool). lib.Dec.T b) (sym t) tt);
      }

-- the same of another writing of the answer and of the list
pub adds_is : {n : ℕ} {old : ℕ → Bool} {new : Bytes} {r q : Bool} {xs ys : List ℤ} → r ≡ q → xs ≡ ys → Adds n old new r xs → Adds n old new q ys
adds_is {n} {old} {new} {r} {q} {xs} {ys} e f a = subst (λ (b : Bool). Adds n old new b ys) e (subst (Adds n old new r) f a)

-- one target, by another writing of the field that it is read from
pub adds_field : {n : ℕ} {old : ℕ → Bool} {new : Bytes} {r : Bool} (at half : ℕ) {x y : ℕ} → x ≡ y → Adds n old new r ((pos at +ℤ signed half x) ∷ []) →
    Adds n old new r ((pos at +ℤ signed half y) ∷ [])
adds_field at half e = adds_is refl (ap (λ (x : ℕ). (pos at +ℤ signed half x) ∷ []) e)

-- behind a yes, the others; behind a no, none
pub adds_yes : {n : ℕ} {old : ℕ → Bool} {mid new : Bytes} {r q : Bool} {z : ℤ} {zs : List ℤ} → r ≡ true → Adds n old mid r (z ∷ []) → Adds n (bit_at mid)
    new q zs → Adds n old new q (z ∷ zs)
adds_yes {n} {old} {mid} {new} {r} {q} {z} {zs} e a b = adds_join n old mid new true q (z ∷ []) zs (adds_is e refl a) b

pub adds_no : {n : ℕ} {old : ℕ → Bool} {mid : Bytes} {r : Bool} {z : ℤ} (zs : List ℤ) → r ≡ false → Adds n old mid r (z ∷ []) → Adds n old mid false (z ∷ zs)
adds_no {n} {old} {mid} {r} {z} zs e a = record {
  answer = ap (λ (t : Bool). t && all (in_code n) zs) (sym e ∙ a.answer ∙ and-true (in_code n z));
  marked = λ t k. absurd (subst (λ (b : Bool). lib.Dec.T b) (sym t) tt);
}
