-- What the number of a file's codes says of questions 16 to 19 and 24. Assumes nothing.
use Prim.Native.Nat.{ℕ, suc}
use native.Mathlib.Omega.{arith}
use mathlib.Core.Path.{◌≡◌, refl, sym, ◌∙◌, ap, subst}
use mathlib.Core.Bool.{Bool, true, false, ◌&&◌}
use mathlib.Core.List.{List, [], ◌∷◌}
use lib.Dec.{T}
use Rattle.rules.specs.Bytes.{pick, all, all_from}
use Rattle.rules.specs.Code.{Call, calls_of}
use Rattle.rules.specs.Package.{Limits, Method, Class, Package}
use Rattle.rules.specs.Classes.{Installed}
use Rattle.rules.specs.Questions.{q16_splits, q17_targets, q24_handlers, q18_calls, q19_allowed}
use Rattle.rules.specs.Operations.{Question, first_no}
use Rattle.codes.specs.Marks.{empty, no_calls}
use Rattle.file_codes.specs.Codes.{quiet, file_number}

-- the number by the four answers
abbrev number_of : Bool → Bool → Bool → Bool → ℕ
number_of a b h c = pick a (pick b (pick h (pick c 0 18) 24) 17) 16

module _ (p : Package) where
  -- 0: 16, 17 and 24 are yes, and there are no calls
  pub number_0 : file_number p ≡ 0 → (q16_splits p ≡ true) × (q17_targets p ≡ true) × (q24_handlers p ≡ true) × (quiet p ≡ true)
  number_0 e = go (q16_splits p) (q17_targets p) (q24_handlers p) (quiet p) e
    where
      go : (a b h c : Bool) → number_of a b h c ≡ 0 → (a ≡ true) × (b ≡ true) × (h ≡ true) × (c ≡ true)
      go false b h c e = absurd (omega arith)
      go true false h c e = absurd (omega arith)
      go true true false c e = absurd (omega arith)
      go true true true false e = absurd (omega arith)
      go true true true true e = (refl, refl, refl, refl)

  -- 18: 16, 17 and 24 are yes
  pub number_18 : file_number p ≡ 18 → (q16_splits p ≡ true) × (q17_targets p ≡ true) × (q24_handlers p ≡ true)
  number_18 e = go (q16_splits p) (q17_targets p) (q24_handlers p) (quiet p) e
    where
      go : (a b h c : Bool) → number_of a b h c ≡ 18 → (a ≡ true) × (b ≡ true) × (h ≡ true)
      go false b h c e = absurd (omega arith)
      go true false h c e = absurd (omega arith)
      go true true false c e = absurd (omega arith)
      go true true true c e = (refl, refl, refl)

  -- another number is that of the first no, whatever is asked behind 16, 17 and 24
  pub number_no : (qs : List Question) → (file_number p ≡ 0 → ⊥) → (file_number p ≡ 18 → ⊥) →
      first_no ((16, q16_splits p) ∷ (17, q17_targets p) ∷ (24, q24_handlers p) ∷ qs) ≡ file_number p
  number_no qs z e = go (q16_splits p) (q17_targets p) (q24_handlers p) (quiet p) z e
    where
      go : (a b h c : Bool) → (number_of a b h c ≡ 0 → ⊥) → (number_of a b h c ≡ 18 → ⊥) → pick a (pick b (pick h (first_no qs) 24) 17) 16 ≡ number_of a b h c
      go false b h c z e = refl
      go true false h c z e = refl
      go true true false c z e = refl
      go true true true false z e = absurd (e refl)
      go true true true true z e = absurd (z refl)

clash : {A : Type 0} → false ≡ true → A
clash e = absurd (subst T (sym e) tt)

-- of no calls every question is answered with yes
none_asked : (q : Call → Bool) (cs : List Call) → empty cs ≡ true → all q cs ≡ true
none_asked q [] e = refl
none_asked q (c ∷ cs) e = clash e

methods_quiet : (q : Method → Call → Bool) (ms : List Method) → all (λ m. no_calls m.code) ms ≡ true → all (λ m. all (q m) (calls_of m.code)) ms ≡ true
unfolding no_calls
methods_quiet q [] e = refl
methods_quiet q (m ∷ ms) e = go (empty (calls_of m.code)) refl e (methods_quiet q ms)
  where
    go : (b : Bool) → empty (calls_of m.code) ≡ b → (b && all (λ m. empty (calls_of m.code)) ms) ≡ true →
        (all (λ m. empty (calls_of m.code)) ms ≡ true → all (λ m. all (q m) (calls_of m.code)) ms ≡ true) →
        (all (q m) (calls_of m.code) && all (λ m. all (q m) (calls_of m.code)) ms) ≡ true
    go true x e rec = ap (λ (b : Bool). b && all (λ m. all (q m) (calls_of m.code)) ms) (none_asked (q m) (calls_of m.code) x) ∙ rec e
    go false x e rec = clash e

classes_quiet : (q : ℕ → Method → Call → Bool) (i : ℕ) (ks : List Class) → all (λ k. all (λ m. no_calls m.code) k.methods) ks ≡ true →
    all_from (λ i k. all (λ m. all (q i m) (calls_of m.code)) k.methods) i ks ≡ true
classes_quiet q i [] e = refl
classes_quiet q i (k ∷ ks) e = go (all (λ m. no_calls m.code) k.methods) refl e (classes_quiet q (suc i) ks)
  where
    go : (b : Bool) → all (λ m. no_calls m.code) k.methods ≡ b → (b && all (λ k. all (λ m. no_calls m.code) k.methods) ks) ≡ true →
        (all (λ k. all (λ m. no_calls m.code) k.methods) ks ≡ true → all_from (λ i k. all (λ m. all (q i m) (calls_of m.code)) k.methods) (suc i)
        ks ≡ true) →
        (all (λ m. all (q i m) (calls_of m.code)) k.methods && all_from (λ i k. all (λ m. all (q i m) (calls_of m.code)) k.methods) (suc i) ks) ≡ true
    go true x e rec = ap (λ (b : Bool). b && all_from (λ i k. all (λ m. all (q i m) (calls_of m.code)) k.methods) (suc i) ks)
        (methods_quiet (q i) k.methods x) ∙ rec e
    go false x e rec = clash e

-- a file without calls passes 18 and 19
module _ (is : List Installed) (self : Installed) (e : quiet self.pack ≡ true) where
  pub quiet_18 : (l : Limits) → q18_calls l is self ≡ true
  unfolding q18_calls quiet
  quiet_18 l = classes_quiet (λ i m c. _) 0 self.pack.classes e

  pub quiet_19 : (l : Limits) → q19_allowed l is self ≡ true
  unfolding q19_allowed quiet
  quiet_19 l = classes_quiet (λ i m c. _) 0 self.pack.classes e
