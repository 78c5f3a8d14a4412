-- Splitting and question 24 of all codes of a file, said without lists: for files of both editions together. Assumes nothing.
use Prim.Native.Nat.{ℕ, suc}
use native.Mathlib.Omega.{arith}
use mathlib.Core.Path.{◌≡◌, refl, subst}
use mathlib.Core.Bool.{Bool, true, false, ◌||◌, not}
use mathlib.Core.List.{List, [], ◌∷◌, Memᴰ}
use mathlib.Core.Option.{some}
use lib.Dec.{T}
use Rattle.rules.specs.Bytes.{Bytes, all, all_from}
use Rattle.rules.specs.Code.{split, code_splits, Handler, handler_fits, code_handlers}
use Rattle.rules.specs.Package.{Limits, edition1, Method, Class, Package, edition_of, read_file}
use Rattle.rules.specs.Questions.{q16_splits, q24_handlers}
use Rattle.rules.specs.Splitting.{Begins, Splits, Q24}
use Rattle.rules.proofs.Tests.{and_l, and_r, and_i, all_mem, some_and_is}
use Rattle.rules.proofs.Cuts.{split_splits, listed_begins, begins_listed, fits_good, good_fits}
use Rattle.rules.proofs.Editions.{EveryMethod, file_formed}

pub mem_all : {A : Type 0} (q : A → Bool) (xs : List A) → ((a : A) → Memᴰ a xs → T (q a)) → T (all q xs)
mem_all q [] h = tt
mem_all q (x ∷ xs) h = and_i (q x) (all q xs) (h x (Memᴰ.head refl)) (mem_all q xs (λ a m. h a (Memᴰ.tail m)))

-- a question of every method, by its number of no account
module _ (q : Method → Bool) where
  each_from : (k : Class) (i : ℕ) (ks : List Class) → T (all_from (λ j k. all q k.methods) i ks) →
      Memᴰ k ks → (m : Method) → Memᴰ m k.methods → T (q m)
  each_from k i ks h (Memᴰ.head {x = x} {xs = rest} e) m n =
      all_mem q (and_l (all q x.methods) _ h) (subst (λ (c : Class). Memᴰ m c.methods) e n)
  each_from k i ks h (Memᴰ.tail {x = x} {xs = rest} t) m n = each_from k (suc i) rest (and_r (all q x.methods) _ h) t m n

  pub methods_each : (i : ℕ) (ks : List Class) → T (all_from (λ j k. all q k.methods) i ks) →
      (k : Class) → Memᴰ k ks → (m : Method) → Memᴰ m k.methods → T (q m)
  methods_each i ks h k = each_from k i ks h

  pub each_methods : (i : ℕ) (ks : List Class) → ((k : Class) → Memᴰ k ks → (m : Method) → Memᴰ m k.methods → T (q m)) →
      T (all_from (λ j k. all q k.methods) i ks)
  each_methods i [] h = tt
  each_methods i (k ∷ ks) h = and_i (all q k.methods) _ (mem_all q k.methods (h k (Memᴰ.head refl)))
      (each_methods (suc i) ks (λ c m. h c (Memᴰ.tail m)))

-- of an implemented method the question of its code is asked
pub asked : (b q : Bool) → b ≡ true → T (not b || q) → T q
asked true q e h = h
asked false q e h = let z : ◌≡◌ {A = ℕ} 0 1 = cc in absurd (omega arith)

-- a code that question 16 takes splits, and its list is that of its instructions
code_cut : (code : Bytes) → T (code_splits code) → (ks : List ℕ) × (split code ≡ some ks)
unfolding code_splits
code_cut code h = let x = some_and_is (split code) _ h in (x.0, x.1)

module _ (p : Package) (q16 : T (q16_splits p)) where
  -- so of every code of a package
  pub package_cut : (k : Class) → Memᴰ k p.classes → (m : Method) → Memᴰ m k.methods → m.implemented ≡ true →
      (ks : List ℕ) × (split m.code ≡ some ks)
  unfolding q16_splits
  package_cut k x m y e =
      code_cut m.code (asked m.implemented (code_splits m.code) e (methods_each (λ m. not m.implemented || code_splits m.code) 0
      p.classes q16 k x m y))

  pub handlers_good : T (q24_handlers p) → Q24 p
  unfolding q24_handlers code_handlers
  handlers_good q24 k x m y e h z =
      let cut = package_cut k x m y e in
      let each = methods_each (λ m. not m.implemented || code_handlers m.code m.handlers) 0 p.classes q24 k x m y in
      let fit = some_and_is (split m.code) _ (asked m.implemented (code_handlers m.code m.handlers) e each) in
      fits_good m.code fit.0 fit.1 h (all_mem (handler_fits m.code fit.0) fit.2 z)

  pub good_handlers : Q24 p → T (q24_handlers p)
  unfolding q24_handlers code_handlers
  good_handlers g = each_methods (λ m. not m.implemented || code_handlers m.code m.handlers) 0 p.classes
      (λ k x m y. one k x m y m.implemented refl)
    where
      one : (k : Class) → Memᴰ k p.classes → (m : Method) → Memᴰ m k.methods → (b : Bool) → m.implemented ≡ b →
          T (not b || code_handlers m.code m.handlers)
      one k x m y false e = tt
      one k x m y true e =
          let cut = package_cut k x m y e in
          let fit = mem_all (handler_fits m.code cut.0) m.handlers (λ h z. good_fits m.code cut.0 cut.1 h (g k x m y e h z)) in
          rw cut.1 fit

-- a file of the first edition has no handlers, so that 24 is answered yes wherever 16 is
pub first_without : (l : Limits) (f : Bytes) (p : Package) → edition_of f ≡ edition1 → read_file l f ≡ some p → EveryMethod (λ m. m.handlers ≡ []) p
first_without l f p e r k x m y = (file_formed l f p r k x m y).earlier e

pub first_passes : (l : Limits) (f : Bytes) (p : Package) → edition_of f ≡ edition1 → read_file l f ≡ some p → T (q16_splits p) → T (q24_handlers p)
first_passes l f p e r q16 = good_handlers p q16 (λ k x m y i h z.
    absurd (none (subst (Memᴰ h) (first_without l f p e r k x m y) z)))
  where
    none : {h : Handler} → Memᴰ h [] → ⊥
    none m = elim m [ ]

-- each code that question 16 takes, of a package of either edition: cut to its end, its list that of its instructions
pub file_splits : (p : Package) → T (q16_splits p) → (k : Class) → Memᴰ k p.classes → (m : Method) → Memᴰ m k.methods →
    m.implemented ≡ true → Splits m.code × ((ks : List ℕ) × (split m.code ≡ some ks)
    × ((i : ℕ) → (Memᴰ i ks → Begins m.code i) × (Begins m.code i → Memᴰ i ks)))
file_splits p q16 k x m y e =
    let cut = package_cut p q16 k x m y e in
    let code = m.code in
    let ks = cut.0 in
    (split_splits code ks cut.1, (ks, cut.1, λ i. (listed_begins code ks cut.1 i, begins_listed code ks cut.1 i)))
