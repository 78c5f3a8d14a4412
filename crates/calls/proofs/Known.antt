-- Questions 18 and 19 of the calls of a group by a table in which some are open: a number other than 18 is right, and every number is where none
-- of the calls is open. Assumes nothing.
use Prim.Native.Nat.{ℕ, ◌-◌}
use native.Mathlib.Omega.{arith}
use mathlib.Core.Path.{◌≡◌, refl, sym, ◌∙◌, ap, ap₂, fun_ext}
use mathlib.Core.Bool.{Bool, true, false, ◌&&◌, ◌||◌, not}
use mathlib.Core.List.{List, [], ◌∷◌}
use Rattle.rules.specs.Bytes.{Bytes, Aid, all}
use Rattle.rules.specs.Code.{Call, calls_of}
use Rattle.rules.specs.Package.{Method, Class}
use Rattle.references.specs.Kept.{is_told, in_group, told_in, SameTold, KeptTrue, AllTold}
use Rattle.references.specs.declared.Group.{Group}
use Rattle.references.proofs.Filled.{told_known}
use Rattle.calls.specs.Calls.{Which, asking, with_group, with_table, call_names, call_allows, call_names_in, call_allows_in}
use Rattle.calls.specs.Calls.{class_names, class_allows}
use Rattle.calls.specs.Calls.{FileCallsAre}
use Rattle.calls.proofs.Groups.{all_yes, pair}

-- tests that agree where a third says yes
all_given : {A : Type 0} (p q r : A → Bool) → ((x : A) → p x ≡ true → q x ≡ r x) → (xs : List A) → all p xs ≡ true → all q xs ≡ all r xs
all_given p q r h [] e = refl
all_given p q r h (x ∷ xs) e = go (p x) refl e (all_given p q r h xs)
  where
    go : (b : Bool) → p x ≡ b → (b && all p xs) ≡ true → (all p xs ≡ true → all q xs ≡ all r xs) → (q x && all q xs) ≡ (r x && all r xs)
    go true z e rest = ap₂ (λ (a b : Bool). a && b) (h x z) (rest e)
    go false z e rest = absurd (clash e)
      where
        clash : false ≡ true → ⊥
        clash e = let w : ◌≡◌ {A = ℕ} 0 1 = cc in omega arith

-- of all calls of a class
abbrev of_class : (Method → Call → Bool) → Class → Bool
of_class p k = all (λ m. all (p m) (calls_of m.code)) k.methods

class_given : (p q r : Method → Call → Bool) → ((m : Method) (c : Call) → p m c ≡ true → q m c ≡ r m c) → (ks : List Class) →
    all (of_class p) ks ≡ true → all (of_class q) ks ≡ all (of_class r) ks
class_given p q r h =
    all_given (of_class p) (of_class q) (of_class r) λ k.
    all_given (λ m. all (p m) (calls_of m.code)) (λ m. all (q m) (calls_of m.code)) (λ m. all (r m) (calls_of m.code))
    (λ m. all_given (p m) (q m) (r m) (h m) (calls_of m.code)) k.methods

class_yes : (p : Method → Call → Bool) → ((m : Method) (c : Call) → p m c ≡ true) → (ks : List Class) → all (of_class p) ks ≡ true
class_yes p h = all_yes (of_class p) λ k. all_yes (λ m. all (p m) (calls_of m.code)) (λ m. all_yes (p m) (h m) (calls_of m.code)) k.methods

-- a number other than 18
module _ {f s : Bytes} {end : ℕ} {d : Aid} (w : Which) (n : ℕ) (x : FileCallsAre f s end d w n) where
  -- what is asked is known, and named
  named : (a k z : Bool) → (not a || (k && z)) ≡ true → (not a || z) ≡ true
  named true true z e = e
  named true false true e = refl
  named true false false e = e
  named false k z e = refl

  allowed : (a k z y : Bool) → (not a || (k && z)) ≡ true → (not (k && a) || y) ≡ (not a || y)
  allowed true true z y e = refl
  allowed true false z true e = refl
  allowed true false z false e = sym e
  allowed false true z y e = refl
  allowed false false z y e = refl

  pub known_answer : (n ≡ 18 → ⊥) → FileCallsAre f s end d (asking w.asked) n
  unfolding pair
  known_answer h a = go (all (class_names a w) ks) refl
    where
      ks : List Class
      ks = a.self.pack.classes

      go : (b : Bool) → all (class_names a w) ks ≡ b → n ≡ pair (all (class_names a (asking w.asked)) ks) (all (class_allows a (asking w.asked)) ks)
      go false e = absurd (h (x a ∙ ap (λ (b : Bool). pair b (all (class_allows a w) ks)) e))
      go true e =
          let names : all (class_names a (asking w.asked)) ks ≡ true =
          class_given (λ m. call_names_in a w) (λ m. call_names_in a (asking w.asked)) (λ m c. true)
          (λ m c. named (w.asked c) (w.known c) (call_names a c)) ks e
          ∙ class_yes (λ m c. true) (λ m c. refl) ks in
          let allows = class_given (λ m. call_names_in a w) (call_allows_in a w) (call_allows_in a (asking w.asked))
          (λ m c. allowed (w.asked c) (w.known c) (call_names a c) (call_allows a m c)) ks e in
          x a ∙ ap₂ pair (e ∙ sym names) allows

  -- all that are asked are known
  pub told_answer : ((c : Call) → w.asked c ≡ true → w.known c ≡ true) → FileCallsAre f s end d (asking w.asked) n
  unfolding pair
  told_answer h a =
      let ks = a.self.pack.classes in
      let yes_all = class_yes (λ m c. true) (λ m c. refl) ks in
      let names = class_given (λ m c. true) (λ m. call_names_in a w) (λ m. call_names_in a (asking w.asked))
      (λ m c e. same_names (w.asked c) (w.known c) (call_names a c) (h c)) ks yes_all in
      let allows = class_given (λ m c. true) (call_allows_in a w) (call_allows_in a (asking w.asked))
      (λ m c e. same_allows (w.asked c) (w.known c) (call_allows a m c) (h c)) ks yes_all in
      x a ∙ ap₂ pair names allows
    where
      same_names : (a k z : Bool) → (a ≡ true → k ≡ true) → (not a || (k && z)) ≡ (not a || z)
      same_names true k z e = rw (e refl)
      same_names false k z e = refl

      same_allows : (a k y : Bool) → (a ≡ true → k ≡ true) → (not (k && a) || y) ≡ (not a || y)
      same_allows true k y e = rw (e refl)
      same_allows false true y e = refl
      same_allows false false y e = refl

-- by the table of a group
module _ {f s : Bytes} {end : ℕ} {d : Aid} (g : Group) {t : List ℕ} (p : KeptTrue f s g t) (n : ℕ) (x : FileCallsAre f s end d (with_table g t) n) where
  pub table_answer : (n ≡ 18 → ⊥) → FileCallsAre f s end d (with_group g) n
  table_answer = known_answer (with_table g t) n x

  pub full_answer : AllTold g t → FileCallsAre f s end d (with_group g) n
  full_answer h = told_answer (with_table g t) n x λ c e. told_known t g c.index e h

-- tables that tell the same
pub same_table : {t u : List ℕ} (g : Group) → SameTold t u → with_table g u ≡ with_table g t
same_table {t} {u} g q = ap whole (fun_ext λ c. ap is_told (told_same c.index))
  where
    whole : (Call → Bool) → Which
    whole k = record { asked = λ c. in_group g c.index; known = k }

    told_same : (k : ℕ) → told_in u g k ≡ told_in t g k
    told_same k = rw (q.told (k - g.first))
