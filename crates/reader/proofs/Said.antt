-- What the answers of the reader say of questions 10 and 11. Assumes nothing.
use Prim.Native.Nat.{ℕ}
use native.Mathlib.Omega.{arith}
use mathlib.Core.Path.{◌≡◌, refl, sym, ◌∙◌, ap}
use mathlib.Core.Bool.{Bool, true, false}
use mathlib.Core.List.{[], ◌∷◌}
use mathlib.Core.Option.{Option, none, some}
use Rattle.rules.specs.Bytes.{Bytes}
use Rattle.rules.specs.Package.{Limits, Package, read_file}
use Rattle.rules.specs.Questions.{q10_marked, q11_reads}
use Rattle.rules.specs.Operations.{first_no}
use Rattle.reader.specs.Answers.{PackageRead}
use Rattle.std.specs.Prelude.{◌⊎◌, Result, Ok, Err, ◌<◌}
use Rattle.std.proofs.Common.{inl, inr}
use Rattle.refusals.specs.declared.refusal.Refusal.{Refusal}
use Rattle.refusals.specs.Refusals.{number_of, number_said}
use Rattle.refusals.proofs.Numbers.{some_number}
use Rattle.reader.specs.declared.Places.{Places}

-- the number of an answer, and the two questions
read_refused : {n : ℕ} (b c : Bool) → 0 < n → n ≡ first_no ((10, b) ∷ (11, c) ∷ []) → ((n ≡ 10) × (b ≡ false)) ⊎ ((n ≡ 11) × (b ≡ true) × (c ≡ false))
read_refused false c h e = inl (e, refl)
read_refused true false h e = inr (e, refl, refl)
read_refused true true h e = absurd (omega (arith, e))

read_0 : (b c : Bool) → 0 ≡ first_no ((10, b) ∷ (11, c) ∷ []) → (b ≡ true) × (c ≡ true)
read_0 false c e = absurd (omega (arith, e))
read_0 true false e = absurd (omega (arith, e))
read_0 true true e = (refl, refl)

-- as a package that is read, or none
reads_none : (o : Option Package) → q11_reads o ≡ false → o ≡ none
unfolding q11_reads
reads_none none e = refl
reads_none (some p) e = let z : ◌≡◌ {A = ℕ} 0 1 = cc in absurd (omega arith)

reads_some : (o : Option Package) → q11_reads o ≡ true → (p : Package) × (o ≡ some p)
unfolding q11_reads
reads_some none e = let z : ◌≡◌ {A = ℕ} 0 1 = cc in absurd (omega arith)
reads_some (some p) e = (p, refl)

-- the answers of the reader over limits that are others'
module _ (m l : Limits) (e : l ≡ m) (f : Bytes) (r : Result Places Refusal) (p : PackageRead l f r) where
  -- the number of an answer
  number_is : (x : Result Places Refusal) → r ≡ x → number_said x ≡ first_no ((10, q10_marked f) ∷ (11, q11_reads (read_file l f)) ∷ [])
  number_is x q = ap (number_said {A = Places}) (sym q) ∙ p.number

  -- a refusal: it has no mark, or it has and does not read
  pub said_refused : {t : Refusal} → r ≡ Err t → ((number_of t ≡ 10) × (q10_marked f ≡ false)) ⊎
      ((number_of t ≡ 11) × (q10_marked f ≡ true) × (read_file m f ≡ none))
  said_refused {t} q = elim (read_refused (q10_marked f) (q11_reads (read_file l f)) (some_number t) (number_is (Err t) q)) [
    | inl x ↦ inl x
    | inr x ↦ inr (x.0, x.1, reads_none (read_file m f) (ap (λ (x : Limits). q11_reads (read_file x f)) (sym e) ∙ x.2))
  ]

  pub said_0 : {t : Places} → r ≡ Ok t → (q10_marked f ≡ true) × ((p : Package) × (read_file m f ≡ some p))
  said_0 {t} q =
      let x = read_0 (q10_marked f) (q11_reads (read_file l f)) (number_is (Ok t) q) in
      (x.0, reads_some (read_file m f) (ap (λ (x : Limits). q11_reads (read_file x f)) (sym e) ∙ x.1))
