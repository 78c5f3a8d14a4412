-- Questions 18 and 19 over the methods of a class and the classes of a file: start, turn and end. Assumes nothing.
use Prim.Native.Nat.{ℕ, suc, ◌+◌, ◌≤◌, ◌<◌}
use mathlib.Core.Path.{◌≡◌, subst}
use lib.Dec.{T}
use lib.ListN.{length, get_or}
use Rattle.rules.specs.Bytes.{Bytes, Aid, all, u1, counted}
use Rattle.rules.specs.Code.{code_splits}
use Rattle.rules.specs.Package.{most_methods, most_classes, method, class}
use Rattle.rules.specs.Store.{store_limits}
use Rattle.rules.specs.Questions.{q16_splits, q18_calls, q19_allowed}
use Rattle.places.proofs.Steady.{steady_method, steady_class}
use Rattle.files.specs.Say.{MethodsAt, ClassesAt, AfterMethod, AfterClass}
use Rattle.files.proofs.Walks.{classes_read}
use Rattle.homes.specs.Homes.{format_at}
use Rattle.refusals.specs.Order.{first_of, numbers, rising}
use Rattle.references.specs.Setting.{setting_of, Judged}
use Rattle.calls.specs.Codes.{code_test, class_test}
use Rattle.calls.specs.Calls.{Asking, Which, every_call, method_asks, class_asks, method_names, class_names}
use Rattle.calls.specs.Calls.{method_allows, class_allows, Reading, OwnMethod, OwnClass, CodesSplit}
use Rattle.calls.specs.Calls.{MethodCallsAre, ClassCallsAre, FileCallsAre, CallsNumberIs}
use Rattle.calls.proofs.Numbers.{all_from_all}
use Rattle.calls.proofs.Asked.{rises}
use Rattle.calls.proofs.Lists.{AskLoop, ask_begin, ask_one, ask_on, ask_end}

-- the methods of a class
abbrev pub MethodsLoop : Bytes → Bytes → ℕ → Aid → Which → ℕ → ℕ → ℕ → ℕ → Type 0
MethodsLoop f s end d w i past left c =
    AskLoop (method (format_at s f)) most_methods (code_test code_splits) f s end d (λ a. method_asks a w) i past left c

-- the classes of a file
abbrev pub ClassesLoop : Bytes → Bytes → ℕ → Aid → Which → ℕ → ℕ → ℕ → ℕ → Type 0
ClassesLoop f s end d w i past left c =
    AskLoop (class (format_at s f)) most_classes (class_test code_splits) f s end d (λ a. class_asks a w) i past left c

module _ {f s : Bytes} {end : ℕ} {d : Aid} (w : Which) where
  -- the order of the questions of methods
  methods_rise : (a : Asking f s end d) → T (rising (numbers (method_asks a w)))
  methods_rise a = rises (method_names a w) (method_allows a w)

  pub methods_begin : {i k n : ℕ} → OwnClass f s end i → MethodsAt f i k → n ≡ get_or f k 0 → MethodsLoop f s end d w k 0 n (k + 1)
  methods_begin {k = k} {n} g h e =
      let ds = g.1.pack.domains in
      ask_begin (method (format_at s f)) (steady_method (format_at s f)) most_methods (code_test code_splits) (λ a. method_asks a w) methods_rise k
      g.0 g.1 g.2
      (g.3.0.methods, g.3.1, h (store_limits s) ds g.3.0 g.3.1 g.3.2, g.3.3) n e

  module _ (k past : ℕ) {left c : ℕ} (l : MethodsLoop f s end d w k past left c) where
    pub methods_one : 0 < left → OwnMethod f s end c
    methods_one h = ask_one (method (format_at s f)) (steady_method (format_at s f)) most_methods (code_test code_splits) (λ a. method_asks a w) methods_rise k l h

    pub methods_on : (n rest m e : ℕ) → left ≡ suc rest → MethodCallsAre f s end d w c n → m ≡ first_of past n → AfterMethod f c e → MethodsLoop f s end d w k m rest e
    methods_on n rest m e h b v r =
        ask_on (method (format_at s f)) (steady_method (format_at s f)) most_methods (code_test code_splits) (λ a. method_asks a w) methods_rise k l
        n rest h b m e v (r (store_limits s))

    pub methods_end : {i : ℕ} → left ≤ 0 → MethodsAt f i k → ClassCallsAre f s end d w i past
    methods_end h m a x j p =
        ask_end (method (format_at s f)) (steady_method (format_at s f)) most_methods (code_test code_splits) (λ a. method_asks a w) methods_rise k l h
        a x.methods j (m (store_limits s) a.self.pack.domains x j p)

-- each class of a file whose codes split
classes_split : (f s : Bytes) (end i : ℕ) (g : Judged f s end) → CodesSplit f → ClassesAt f i →
    Reading (counted most_classes u1 (class (format_at s f) g.1.pack.domains)) (all (class_test code_splits)) f i
unfolding q16_splits
classes_split f s end i g h k =
    let p = g.1.pack in
    let r = (setting_of g.2).reads in
    (p.classes, length f, classes_read k (store_limits s) p r, subst T (all_from_all (class_test code_splits) 0 p.classes) (h (store_limits s) p r))

module _ {f s : Bytes} {end : ℕ} {d : Aid} (w : Which) where
  -- the order of the questions of classes
  classes_rise : (a : Asking f s end d) → T (rising (numbers (class_asks a w)))
  classes_rise a = rises (class_names a w) (class_allows a w)

  pub classes_begin : {k n : ℕ} → Judged f s end → CodesSplit f → ClassesAt f k → n ≡ get_or f k 0 → ClassesLoop f s end d w k 0 n (k + 1)
  classes_begin {k} {n} g h m e =
      ask_begin (class (format_at s f)) (steady_class (format_at s f)) most_classes (class_test code_splits) (λ a. class_asks a w) classes_rise k
      g.0 g.1 g.2 (classes_split f s end k g h m) n e

  module _ (k past : ℕ) {left c : ℕ} (l : ClassesLoop f s end d w k past left c) where
    pub classes_one : 0 < left → OwnClass f s end c
    classes_one h = ask_one (class (format_at s f)) (steady_class (format_at s f)) most_classes (class_test code_splits) (λ a. class_asks a w) classes_rise k l h

    pub classes_on : (n rest m e : ℕ) → left ≡ suc rest → ClassCallsAre f s end d w c n → m ≡ first_of past n → AfterClass f c e → ClassesLoop f s end d w k m rest e
    classes_on n rest m e h b v r =
        ask_on (class (format_at s f)) (steady_class (format_at s f)) most_classes (class_test code_splits) (λ a. class_asks a w) classes_rise k l
        n rest h b m e v (r (store_limits s))

    pub classes_end : left ≤ 0 → ClassesAt f k → FileCallsAre f s end d w past
    classes_end h m a =
        ask_end (class (format_at s f)) (steady_class (format_at s f)) most_classes (class_test code_splits) (λ a. class_asks a w) classes_rise k l h
        a a.self.pack.classes (length f) (classes_read m (store_limits s) a.self.pack (setting_of a.loading).reads)

-- all calls, in every setting with this loading domain
pub calls_number_lem : {f s : Bytes} {end : ℕ} (d : Aid) (n : ℕ) → FileCallsAre f s end d every_call n → CallsNumberIs f s end d n
unfolding q18_calls q19_allowed
calls_number_lem {f} {s} {end} d n h es self i e =
    let a : Asking f s end d = record { es = es; self = self; loading = i; loads = e } in
    let ks = self.pack.classes in
    rw (all_from_all (class_names a every_call) 0 ks, all_from_all (class_allows a every_call) 0 ks) (h a)

-- the same, told of an end and a domain that are these
pub calls_number_at : {f s : Bytes} {end m : ℕ} {d z : Aid} (n : ℕ) → m ≡ end → z ≡ d → FileCallsAre f s m z every_call n → CallsNumberIs f s end d n
calls_number_at {f} {s} {end} {m} {d} {z} n e w h =
    calls_number_lem d n (subst (λ (y : Aid). FileCallsAre f s end y every_call n) w (subst (λ (k : ℕ). FileCallsAre f s k z every_call n) e h))
