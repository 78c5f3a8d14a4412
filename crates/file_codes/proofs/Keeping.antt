-- Question 26 of a method, of the methods of a class and of the classes of a file, from the answers to its parts. Assumes nothing.
use Prim.Native.Nat.{ℕ, ◌≤◌, ◌<◌}
use mathlib.Core.Path.{◌≡◌, sym, ◌∙◌, ap}
use mathlib.Core.Bool.{Bool, true, false, ◌||◌, not}
use lib.ListN.{length}
use Rattle.rules.specs.Bytes.{Bytes, all}
use Rattle.rules.specs.Package.{Class}
use Rattle.rules.specs.Subset.{code_without_int}
use Rattle.files.specs.Say.{ImplementedIs, CodeIs, MethodsAt, ClassesAt}
use Rattle.files.proofs.Loops.{MethodLoop, methods_hit, methods_none, ClassLoop, every_hit, every_none}
use Rattle.files.proofs.Walks.{classes_read}
use Rattle.file_codes.specs.Codes.{keeps, MethodKeeps, ClassKeeps, FileKeeps}
use Rattle.file_codes.proofs.Loops.{all_from_all}

-- a class keeps to the subset
abbrev pub class_keeps : Class → Bool
class_keeps k = all keeps k.methods

module _ {f : Bytes} {i : ℕ} where
  pub keeps_bare : ImplementedIs f i false → MethodKeeps f i true
  keeps_bare h l ds m j p = ap (λ (b : Bool). not b || code_without_int m.code) (h l ds m j p)

  pub keeps_code : (code : Bytes) (r : Bool) → ImplementedIs f i true → CodeIs f i code → r ≡ code_without_int code → MethodKeeps f i r
  keeps_code code r h k e l ds m j p =
      e ∙ ap code_without_int (k l ds m j p) ∙ ap (λ (b : Bool). not b || code_without_int m.code) (h l ds m j p)

module _ {f : Bytes} {i k left c : ℕ} (a : MethodsAt f i k) (t : MethodLoop (all keeps) (all keeps) f k left c) where
  pub class_no : 0 < left → MethodKeeps f c false → ClassKeeps f i false
  class_no h q l ds x j p = sym (methods_hit keeps t h (λ l ds m n r. sym (q l ds m n r)) l ds x.methods j (a l ds x j p))

  pub class_yes : left ≤ 0 → ClassKeeps f i true
  class_yes h l ds x j p = sym (methods_none keeps t h l ds x.methods j (a l ds x j p))

module _ {f : Bytes} {i left c : ℕ} (a : ClassesAt f i) (t : ClassLoop (all class_keeps) (all class_keeps) f i left c) where
  pub file_no : 0 < left → ClassKeeps f c false → FileKeeps f false
  file_no h q l p e =
      sym (all_from_all class_keeps 0 p.classes
      ∙ every_hit class_keeps t h (λ l ds k j x. sym (q l ds k j x)) l p.domains p.classes (length f) (classes_read a l p e))

  pub file_yes : left ≤ 0 → FileKeeps f true
  file_yes h l p e =
      sym (all_from_all class_keeps 0 p.classes ∙ every_none class_keeps t h l p.domains p.classes (length f) (classes_read a l p e))
