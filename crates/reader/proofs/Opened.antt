-- What an answer that holds a package gives to the later questions: the package, and its lists at the places told. Assumes nothing.
use native.Mathlib.Omega.{arith}
use mathlib.Core.Path.{◌≡◌, refl}
use mathlib.Core.Bool.{Bool, true, false}
use mathlib.Core.List.{[], ◌∷◌}
use mathlib.Core.Option.{some}
use Rattle.rules.specs.Bytes.{Bytes}
use Rattle.rules.specs.Package.{Limits, Package, read_file}
use Rattle.rules.specs.Questions.{q10_marked, q11_reads}
use Rattle.rules.specs.Operations.{first_no}
use Rattle.rules.proofs.Lists.{some_is}
use Rattle.rules.proofs.Tests.{of_true}
use Rattle.places.specs.Parts.{FilePart}
use Rattle.places.proofs.Parts.{file_parts}
use Rattle.reader.specs.Answers.{PlacesOf, PackageRead}
use Rattle.reader.specs.declared.Places.{Places}
use Rattle.std.specs.Prelude.{Result, Ok}
use Rattle.refusals.specs.declared.refusal.Refusal.{Refusal}

-- the file is marked and reads as a package, whose lists stand at the places q
pub record Opened (l : Limits) (f : Bytes) (q : Places) : Type 0 where
  pub marked : q10_marked f ≡ true
  pub pack : Package
  pub reads : read_file l f ≡ some pack
  pub part : FilePart l f pack
  pub places : PlacesOf q l f pack part

-- two questions that are both answered yes
both_yes : (a b : Bool) → 0 ≡ first_no ((10, a) ∷ (11, b) ∷ []) → (a ≡ true) × (b ≡ true)
both_yes true true e = (refl, refl)
both_yes true false e = absurd (omega arith)
both_yes false b e = absurd (omega arith)

pub opened : (l : Limits) (f : Bytes) (r : Result Places Refusal) (q : Places) → r ≡ Ok q → PackageRead l f r → Opened l f q
unfolding q11_reads
opened l f r q e h =
    let number : 0 ≡ first_no ((10, q10_marked f) ∷ (11, q11_reads (read_file l f)) ∷ []) = rw e at h.number in
    let yes_both = both_yes (q10_marked f) (q11_reads (read_file l f)) number in
    let x = some_is (read_file l f) (of_true yes_both.1) in
    record {
      marked = yes_both.0;
      pack = x.0;
      reads = x.1;
      part = file_parts l f x.0 x.1;
      places = h.places q e x.0 (file_parts l f x.0 x.1);
    }
