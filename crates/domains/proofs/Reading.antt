-- Whether a file reads and keeps to the subset, by the reader's answer. Assumes nothing.
use mathlib.Core.Path.{◌≡◌, refl, ◌∙◌, ap}
use mathlib.Core.Bool.{Bool, true, false, ◌&&◌}
use mathlib.Core.Option.{Option, none, some}
use Rattle.rules.specs.Bytes.{Bytes, some_and}
use Rattle.rules.specs.Subset.{code_without_int}
use Rattle.rules.specs.Package.{Limits, Package, read_file}
use Rattle.rules.specs.Questions.{q10_marked, all_codes}
use Rattle.domains.specs.Domains.{reads_without_int}

module _ (l : Limits) (f : Bytes) where
  pub unmarked : q10_marked f ≡ false → reads_without_int l f ≡ false
  unfolding reads_without_int
  unmarked e = rw e

  pub unread : read_file l f ≡ none → reads_without_int l f ≡ false
  unfolding reads_without_int
  unread e = ap (λ (o : Option Package). q10_marked f && some_and o (all_codes code_without_int)) e ∙ and_no (q10_marked f)
    where
      and_no : (b : Bool) → (b && false) ≡ false
      and_no true = refl
      and_no false = refl

  pub read : (p : Package) → q10_marked f ≡ true → read_file l f ≡ some p → reads_without_int l f ≡ all_codes code_without_int p
  unfolding reads_without_int
  read p t e = rw (t, e)
