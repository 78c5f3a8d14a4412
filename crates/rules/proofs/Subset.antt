-- Question 26 of a package whose codes split, said without tests, both ways. Assumes nothing.
use mathlib.Core.Path.{◌≡◌, refl, sym, ap, subst}
use mathlib.Core.Bool.{Bool, true, false, ◌||◌, not}
use mathlib.Core.List.Memᴰ
use mathlib.Core.List.{List, Memᴰ}
use lib.Dec.{T}
use Rattle.rules.specs.Bytes.{Aid, same}
use Rattle.rules.specs.Subset.{code_without_int}
use Rattle.rules.specs.Package.{Method, Class, Package}
use Rattle.rules.specs.Store.{full, without_int, Entry, domain, loaded}
use Rattle.rules.specs.Questions.{all_codes, q16_splits, without_int_of, domains_without_int, keeps_subset, q26_subset}
use Rattle.rules.specs.Barred.{WithoutInt, Q26}
use Rattle.rules.proofs.Tests.{of_true, any_mem, mem_any, same_eq, same_refl, flat_mem_is}
use Rattle.rules.proofs.Bounds.{flat_mem}
use Rattle.rules.proofs.Handlers.{methods_each, each_methods, asked, package_cut}
use Rattle.rules.proofs.Barred.{implied, without_none, none_without}

-- the domain of kind 3, by its test and by its entry
module _ (es : List Entry) (d : Aid) where
  pub entry_keeps : Memᴰ (domain without_int d) es → T (keeps_subset es d)
  unfolding keeps_subset
  entry_keeps m = any_mem (same d) (same_refl d) (flat_mem without_int_of (domain without_int d) d es m (Memᴰ.head refl))

  pub keeps_entry : T (keeps_subset es d) → Memᴰ (domain without_int d) es
  unfolding keeps_subset
  keeps_entry h =
      let r = mem_any (same d) (domains_without_int es) h in
      let x = flat_mem_is without_int_of es r.0 r.1 in
      let e : domain without_int r.0 ≡ domain without_int d = ap (domain without_int) (sym (same_eq d r.0 r.2)) in
      subst (λ (y : Entry). Memᴰ y es) e (subst (λ (y : Entry). Memᴰ y es) (is_entry x.0 r.0 x.2) x.1)
    where
      is_entry : (x : Entry) (a : Aid) → Memᴰ a (without_int_of x) → x ≡ domain without_int a
      is_entry (domain full b) a m = elim m [ ]
      is_entry (domain without_int b) a m = ap (domain without_int) (sym (Memᴰ.eq_of_singleton m))
      is_entry (loaded e f) a m = elim m [ ]

-- the codes of a package
module _ (p : Package) (q16 : T (q16_splits p)) where
  pub codes_without : T (all_codes code_without_int p) → WithoutInt p
  codes_without h k x m y e =
      let cut = package_cut p q16 k x m y e in
      let each = methods_each (λ m. not m.implemented || code_without_int m.code) 0 p.classes h k x m y in
      without_none m.code cut.0 cut.1 (asked m.implemented (code_without_int m.code) e each)

  pub without_codes : WithoutInt p → T (all_codes code_without_int p)
  without_codes h = each_methods (λ m. not m.implemented || code_without_int m.code) 0 p.classes (λ k x m y. one k x m y m.implemented refl)
    where
      one : (k : Class) → Memᴰ k p.classes → (m : Method) → Memᴰ m k.methods → (b : Bool) → m.implemented ≡ b →
          T (not b || code_without_int m.code)
      one k x m y false e = tt
      one k x m y true e = let cut = package_cut p q16 k x m y e in none_without m.code cut.0 cut.1 (h k x m y e)

  -- question 26
  pub subset_asked : (es : List Entry) (d : Aid) → T (q26_subset es d p) → Q26 es d p
  unfolding q26_subset
  subset_asked es d h m = codes_without (implied (keeps_subset es d) (all_codes code_without_int p) h (entry_keeps es d m))

  pub asked_subset : (es : List Entry) (d : Aid) → Q26 es d p → T (q26_subset es d p)
  unfolding q26_subset
  asked_subset es d h = go (keeps_subset es d) refl
    where
      go : (b : Bool) → keeps_subset es d ≡ b → T (not b || all_codes code_without_int p)
      go false e = tt
      go true e = without_codes (h (keeps_entry es d (of_true e)))
