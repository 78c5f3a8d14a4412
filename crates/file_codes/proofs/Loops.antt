-- The loops over the methods of a class and over the classes of a file, which keep the first no; and the code of one method. Assumes nothing.
use Prim.Native.Nat.{ℕ, suc, ◌+◌, ◌*◌, ◌≤◌, ◌<◌}
use native.Mathlib.Omega.{arith}
use mathlib.Core.Path.{◌≡◌, refl, sym, ◌∙◌, ap, subst}
use mathlib.Core.Bool.{Bool, true, false, ◌&&◌, ◌||◌, not}
use mathlib.Core.List.{List, [], ◌∷◌}
use mathlib.Core.Option.{some}
use lib.Dec.{T}
use lib.ListN.{length, drop, get_or, length-take}
use Rattle.rules.specs.Bytes.{Bytes, Aid, Reader, pick, all, all_from}
use Rattle.rules.specs.Code.{u2_at, code_splits, code_branches, Handler, code_handlers, split, split_from, calls_of}
use Rattle.rules.specs.Package.{Limits, format_of, most_methods, most_classes, Method, Class, Package, code_if, method, class, read_file}
use Rattle.rules.specs.Questions.{q16_splits, q17_targets, q24_handlers}
use Rattle.places.specs.Reads.{Reads, Ends}
use Rattle.places.specs.Parts.{handlers_in}
use Rattle.places.proofs.Steady.{Steady, steady_method, steady_class}
use Rattle.places.proofs.Parts.{code_none, code_part, method_part}
use Rattle.files.specs.Say.{ImplementedIs, CodeIs, MethodsAt, ClassesAt, AfterMethod, AfterClass}
use Rattle.files.proofs.Walks.{classes_read}
use Rattle.codes.specs.Marks.{no_calls, code_number}
use Rattle.refusals.specs.Order.{rank, rising, first_of, no_of_all}
use Rattle.refusals.proofs.Walks.{NumberLoop, numbers_start, numbers_here, numbers_on, numbers_done}
use Rattle.file_codes.specs.Codes.{HandlersAre, code_test, handler_test, code_questions, class_questions, quiet, file_number, MethodHere, MethodNumberIs, ClassNumberIs, FileNumberIs}

-- the questions stand in a load's order
in_order : T (rising (16 ∷ 17 ∷ 24 ∷ 18 ∷ []))
unfolding rising rank
in_order = tt

-- the loop over the methods of a class; the settings are limits and domains, the edition is the file's
abbrev method_reader : Bytes → Limits × List Aid → Reader Method
method_reader f w = method (format_of w.0 f) w.1

steady_methods : (f : Bytes) (w : Limits × List Aid) → Steady (method_reader f w)
steady_methods f w = steady_method (format_of w.0 f) w.1

abbrev pub MethodNumbers : Bytes → ℕ → ℕ → ℕ → ℕ → Type 0
MethodNumbers f k past left c = NumberLoop (method_reader f) most_methods (λ w. code_questions) f k past left c

pub methods_start : {f : Bytes} {k n : ℕ} → n ≡ get_or f k 0 → MethodNumbers f k 0 n (k + 1)
methods_start {f} {k} {n} h = numbers_start (method_reader f) (steady_methods f) most_methods (λ w. code_questions) (λ w. in_order) f k n h

module _ {f : Bytes} (k past left c : ℕ) (t : MethodNumbers f k past left c) where
  pub methods_here : {i : ℕ} (l : Limits) (ds : List Aid) → Ends (class (format_of l f) ds) f i → MethodsAt f i k → 0 < left →
      Ends (method (format_of l f) ds) f c
  methods_here l ds g m h =
      numbers_here (method_reader f) (steady_methods f) most_methods (λ w. code_questions) (λ w. in_order) f k past left c t h (l, ds)
      (g.0.methods, g.1, m l ds g.0 g.1 g.2)

  pub methods_on : (n rest b d : ℕ) → left ≡ suc rest → MethodNumberIs f c n → b ≡ first_of past n → AfterMethod f c d → MethodNumbers f k b rest d
  methods_on n rest b d h e q m =
      numbers_on (method_reader f) (steady_methods f) most_methods (λ w. code_questions) (λ w. in_order) f k past left c t n rest h
      (λ w. e w.0 w.1) b d q (λ w. m w.0 w.1)

  pub methods_done : {i : ℕ} → MethodsAt f i k → left ≤ 0 → ClassNumberIs f i past
  methods_done m h l ds x j r =
      numbers_done (method_reader f) (steady_methods f) most_methods (λ w. code_questions) (λ w. in_order) f k past left c t h (l, ds)
      x.methods j (m l ds x j r)

-- the loop over the classes of a file
abbrev class_reader : Bytes → Limits × List Aid → Reader Class
class_reader f w = class (format_of w.0 f) w.1

steady_classes : (f : Bytes) (w : Limits × List Aid) → Steady (class_reader f w)
steady_classes f w = steady_class (format_of w.0 f) w.1

abbrev pub ClassNumbers : Bytes → ℕ → ℕ → ℕ → ℕ → Type 0
ClassNumbers f k past left c = NumberLoop (class_reader f) most_classes (λ w. class_questions) f k past left c

pub classes_start : {f : Bytes} {k n : ℕ} → n ≡ get_or f k 0 → ClassNumbers f k 0 n (k + 1)
classes_start {f} {k} {n} h = numbers_start (class_reader f) (steady_classes f) most_classes (λ w. class_questions) (λ w. in_order) f k n h

-- tests that do not ask for the number of an element
pub all_from_all : {A : Type 0} (p : A → Bool) (k : ℕ) (xs : List A) → all_from (λ i x. p x) k xs ≡ all p xs
all_from_all p k [] = refl
all_from_all p k (x ∷ xs) = ap (λ (b : Bool). p x && b) (all_from_all p (suc k) xs)

-- a file's number is that of its list of classes
file_number_lem : (p : Package) (n : ℕ) → n ≡ no_of_all class_questions p.classes → n ≡ file_number p
unfolding q16_splits q17_targets q24_handlers quiet
file_number_lem p n e = rw (
  all_from_all (λ (k : Class). all (code_test code_splits) k.methods) 0 p.classes,
  all_from_all (λ (k : Class). all (code_test code_branches) k.methods) 0 p.classes,
  all_from_all (λ (k : Class). all handler_test k.methods) 0 p.classes,
) e

module _ {f : Bytes} (k past left c : ℕ) (t : ClassNumbers f k past left c) where
  pub classes_here : (l : Limits) (p : Package) → read_file l f ≡ some p → ClassesAt f k → 0 < left →
      Ends (class (format_of l f) p.domains) f c
  classes_here l p g m h =
      numbers_here (class_reader f) (steady_classes f) most_classes (λ w. class_questions) (λ w. in_order) f k past left c t h (l, p.domains)
      (p.classes, length f, classes_read m l p g)

  pub classes_on : (n rest b d : ℕ) → left ≡ suc rest → ClassNumberIs f c n → b ≡ first_of past n → AfterClass f c d → ClassNumbers f k b rest d
  classes_on n rest b d h e q m =
      numbers_on (class_reader f) (steady_classes f) most_classes (λ w. class_questions) (λ w. in_order) f k past left c t n rest h
      (λ w. e w.0 w.1) b d q (λ w. m w.0 w.1)

  pub classes_done : ClassesAt f k → left ≤ 0 → FileNumberIs f past
  classes_done m h l p r =
      file_number_lem p past
      (numbers_done (class_reader f) (steady_classes f) most_classes (λ w. class_questions) (λ w. in_order) f k past left c t h (l, p.domains)
      p.classes (length f)
      (classes_read m l p r))

-- the code of a method
code_short : (l : Limits) (s : Bytes) (i : ℕ) (b : Bool) (c : Bytes) (j : ℕ) → Reads (code_if l b) s i c j → length c ≤ l.code
code_short l s i false c j p = let z = code_none l s i c j p in rw (← z.0) (omega arith)
code_short l s i true c j p = let z = code_part l s i c j p in rw (← z.bytes) (omega (arith, z.most, length-take (u2_at s i) (drop (i + 2) s)))

-- a method that is not implemented has none
no_calls_lem : no_calls [] ≡ true
unfolding no_calls calls_of split split_from
no_calls_lem = refl

no_code : (l : Limits) (s : Bytes) (i : ℕ) (b : Bool) (c : Bytes) (hs : List Handler) (j : ℕ) → b ≡ false → Reads (code_if l b) s i c j →
    ◌≡◌ {A = ℕ} 0 (pick (not b || code_splits c) (pick (not b || code_branches c) (pick (not b || code_handlers c hs) (pick (no_calls c) 0 18) 24) 17) 16)
no_code l s i true c hs j e p = absurd (subst T e tt)
no_code l s i false c hs j e p = rw (← (code_none l s i c j p).0, no_calls_lem) refl

module _ {f : Bytes} {i : ℕ} where
  pub method_short : (starts targets code : Bytes) → CodeIs f i code → MethodHere f starts targets i → (length code ≤ 8 * length starts) ×
      (length code ≤ 8 * length targets)
  method_short starts targets code h e =
      let m = e.2.0 in
      let t = method_part (format_of e.0 f) e.1 f i m e.2.1 e.2.2 in
      let short : length code ≤ e.0.code = rw (h e.0 e.1 m e.2.1 e.2.2)
      (code_short e.0 f t.middle m.implemented m.code t.behind t.code) in
      (omega (arith, short, e.3.0), omega (arith, short, e.3.1))

  pub bare_number : ImplementedIs f i false → MethodNumberIs f i 0
  bare_number h l ds m j p =
      let t = method_part (format_of l f) ds f i m j p in
      no_code l f t.middle m.implemented m.code m.handlers t.behind (sym (h l ds m j p)) t.code

  pub code_number_lem : (code hs : Bytes) (n : ℕ) → ImplementedIs f i true → CodeIs f i code → HandlersAre f i hs → n ≡ code_number code (handlers_in hs) →
      MethodNumberIs f i n
  code_number_lem code hs n h k g e l ds m j p = e ∙ rw (← h l ds m j p, k l ds m j p, g l ds m j p)
