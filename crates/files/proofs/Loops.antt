-- The loops over a counted list of AIDs, methods or classes, whatever the limits and domains: start, turn and end. Assumes nothing.
use Rattle.std.specs.Prelude.{Some, None}
use Prim.Native.Nat.{ℕ, ◌+◌, ◌-◌, ◌≤◌, ◌<◌}
use native.Mathlib.Omega.{arith}
use mathlib.Core.Path.{◌≡◌, refl}
use mathlib.Core.Bool.{Bool, true, false}
use mathlib.Core.List.{List}
use mathlib.Core.Option.{none, some}
use lib.ListN.{get_or}
use Rattle.rules.specs.Bytes.{Bytes, Aid, Reader, find, all, at, u1, aid, counted}
use Rattle.rules.specs.Package.{Limits, format_of, most_methods, most_classes, Method, Class, method, class}
use Rattle.places.specs.Reads.{Reads, Ends, EndsAt, Placed, Tracks, nil}
use Rattle.places.proofs.Steady.{Steady, steady_aid, steady_method, steady_class}
use Rattle.places.proofs.Track.{track_start, track_ends, track_more, track_done}
use Rattle.places.proofs.Search.{seek_hit, seek_miss, seek_none, each_hit, each_miss, each_none, nth_hit, nth_miss, nth_none}
use Rattle.files.specs.Say.{Aids, AfterAids, AidNth, MethodThere, AfterMethod, OfMethod, Methods, AfterMethods, ClassThere, AfterClass, OfClass, Classes, ClassNth}

-- a turn leaves one less of those from n on
rest : (end n : ℕ) → n < end → end - (n + 1) ≡ end - n - 1
rest end n h = omega arith

-- before the first turn all are left
pub whole : (end : ℕ) → end - 0 ≡ end
whole end = omega arith

-- AIDs: of the list at i, `left` are still to be read at c, and f of the list is g of these
abbrev pub AidLoop : {B : Type 0} → (List Aid → B) → (List Aid → B) → Bytes → ℕ → ℕ → ℕ → Type 0
AidLoop f g s i left c = (most : ℕ) → Tracks aid s (counted most u1 aid) i f g left c

pub aids_start : {B : Type 0} {f : List Aid → B} {s : Bytes} {i n : ℕ} → n ≡ get_or s i 0 → AidLoop f f s i n (i + 1)
aids_start {f = f} {s} {i} h most = rw h (track_start aid s f most i)

module _ {B : Type 0} {f g : List Aid → B} {s : Bytes} {i left c : ℕ} (t : AidLoop f g s i left c) where
  pub aids_here : 0 < left → Aids s i → Ends aid s c
  aids_here h e = track_ends aid steady_aid s (counted e.0 u1 aid) i f g left c (t e.0) h e.1

module _ {s : Bytes} {i end n c : ℕ} where
  module _ (t : AidLoop nil nil s i (end - n) c) where
    pub aids_skip : {d : ℕ} → n < end → EndsAt aid s c d → AidLoop nil nil s i (end - (n + 1)) d
    aids_skip {d} h e most = rw (rest end n h)
        (track_more aid steady_aid s (counted most u1 aid) i nil nil (end - n) c (t most) nil d (omega arith) e (λ x m p ys. refl))

    pub aids_done : end ≤ n → AfterAids s i c
    aids_done h most xs j p = (track_done aid steady_aid s (counted most u1 aid) i nil nil (end - n) c (t most) (omega arith) xs j p).0

  module _ {k : ℕ} (t : AidLoop (λ xs. at xs k) (λ ys. at ys (k - n)) s i (end - n) c) where
    pub aids_hit : n < end → n ≡ k → AidNth s i k (Some c)
    aids_hit h q most xs j p = nth_hit aid steady_aid s (counted most u1 aid) i (end - n) c k (k - n) (t most) (omega arith) (omega arith) xs j p

    pub aids_miss : {d : ℕ} → n < end → n < k → EndsAt aid s c d → AidLoop (λ xs. at xs k) (λ ys. at ys (k - (n + 1))) s i (end - (n + 1)) d
    aids_miss {d} h q e most = rw (rest end n h, rest k n q)
        (nth_miss aid steady_aid s (counted most u1 aid) i (end - n) c k (k - n) (t most) d (omega arith) (λ z. omega arith) e)

    pub aids_none : end ≤ n → AidNth s i k None
    aids_none h most xs j p = nth_none aid steady_aid s (counted most u1 aid) i (end - n) c k (k - n) (t most) (omega arith) xs j p

-- methods of a file: the readers of one and of a counted list
abbrev method_in : Limits → Bytes → List Aid → Reader Method
method_in l s ds = method (format_of l s) ds

abbrev methods_in : Limits → Bytes → List Aid → Reader (List Method)
methods_in l s ds = counted most_methods u1 (method_in l s ds)

steady_method_in : (l : Limits) (s : Bytes) (ds : List Aid) → Steady (method_in l s ds)
steady_method_in l s ds = steady_method (format_of l s) ds

abbrev pub MethodLoop : {B : Type 0} → (List Method → B) → (List Method → B) → Bytes → ℕ → ℕ → ℕ → Type 0
MethodLoop f g s i left c = (l : Limits) (ds : List Aid) → Tracks (method_in l s ds) s (methods_in l s ds) i f g left c

-- what a test answers of whatever method stands at c
abbrev pub MethodTests : Bytes → ℕ → (Method → Bool) → Bool → Type 0
MethodTests s c p b = OfMethod s c λ l ds m. p m ≡ b

-- a fact of whatever list of methods stands at i
abbrev pub OfMethods : Bytes → ℕ → (Limits → List Aid → List Method → Type 0) → Type 0
OfMethods s i q = (l : Limits) (ds : List Aid) (ms : List Method) (j : ℕ) → Reads (methods_in l s ds) s i ms j → q l ds ms

pub methods_start : {B : Type 0} {f : List Method → B} {s : Bytes} {i n : ℕ} → n ≡ get_or s i 0 → MethodLoop f f s i n (i + 1)
methods_start {f = f} {s} {i} h l ds = rw h (track_start (method_in l s ds) s f most_methods i)

module _ {B : Type 0} {f g : List Method → B} {s : Bytes} {i left c : ℕ} (t : MethodLoop f g s i left c) where
  pub methods_here : 0 < left → Methods s i → MethodThere s c
  methods_here h e =
      let l = e.0 in
      let ds = e.1 in
      (l, ds, track_ends (method_in l s ds) (steady_method_in l s ds) s (methods_in l s ds) i f g left c (t l ds) h e.2)

module _ {s : Bytes} {i left c : ℕ} where
  module _ (t : MethodLoop nil nil s i left c) where
    pub methods_skip : {d : ℕ} → 0 < left → AfterMethod s c d → MethodLoop nil nil s i (left - 1) d
    methods_skip {d} h e l ds = track_more (method_in l s ds) (steady_method_in l s ds) s (methods_in l s ds) i nil nil left c (t l ds) nil d h
        (e l ds) (λ x m p ys. refl)

    pub methods_done : left ≤ 0 → AfterMethods s i c
    methods_done h l ds xs j p = (track_done (method_in l s ds) (steady_method_in l s ds) s (methods_in l s ds) i nil nil left c (t l ds) h xs j p).0

  module _ (p : Method → Bool) (t : MethodLoop (find p) (find p) s i left c) where
    pub find_hit : 0 < left → MethodTests s c p true → OfMethods s i λ l ds ms. Placed (method_in l s ds) s (find p ms) (some c)
    find_hit h q l ds ms j e = seek_hit (method_in l s ds) (steady_method_in l s ds) s (methods_in l s ds) i left c p (t l ds) h (q l ds) ms j e

    pub find_miss : {d : ℕ} → 0 < left → MethodTests s c p false → AfterMethod s c d → MethodLoop (find p) (find p) s i (left - 1) d
    find_miss {d} h q e l ds = seek_miss (method_in l s ds) (steady_method_in l s ds) s (methods_in l s ds) i left c p (t l ds) d h (q l ds) (e l ds)

    pub find_none : left ≤ 0 → OfMethods s i λ l ds ms. Placed (method_in l s ds) s (find p ms) none
    find_none h l ds ms j e = seek_none (method_in l s ds) (steady_method_in l s ds) s (methods_in l s ds) i left c p (t l ds) h ms j e

  module _ (p : Method → Bool) (t : MethodLoop (all p) (all p) s i left c) where
    pub methods_hit : 0 < left → MethodTests s c p false → OfMethods s i λ l ds ms. all p ms ≡ false
    methods_hit h q l ds ms j e = each_hit (method_in l s ds) (steady_method_in l s ds) s (methods_in l s ds) i left c p (t l ds) h (q l ds) ms j e

    pub methods_miss : {d : ℕ} → 0 < left → MethodTests s c p true → AfterMethod s c d → MethodLoop (all p) (all p) s i (left - 1) d
    methods_miss {d} h q e l ds = each_miss (method_in l s ds) (steady_method_in l s ds) s (methods_in l s ds) i left c p (t l ds) d h (q l ds)
        (e l ds)

    pub methods_none : left ≤ 0 → OfMethods s i λ l ds ms. all p ms ≡ true
    methods_none h l ds ms j e = each_none (method_in l s ds) (steady_method_in l s ds) s (methods_in l s ds) i left c p (t l ds) h ms j e

-- the same counted up from n
module _ {s : Bytes} {i c : ℕ} where
  pub methods_past : {end n d : ℕ} → MethodLoop nil nil s i (end - n) c → n < end → AfterMethod s c d → MethodLoop nil nil s i (end - (n + 1)) d
  methods_past {end} {n} t h e = rw (rest end n h) (methods_skip t (omega arith) e)

  pub find_past : {end n d : ℕ} (p : Method → Bool) → MethodLoop (find p) (find p) s i (end - n) c → n < end → MethodTests s c p false →
      AfterMethod s c d → MethodLoop (find p) (find p) s i (end - (n + 1)) d
  find_past {end} {n} p t h q e = rw (rest end n h) (find_miss p t (omega arith) q e)

-- classes
abbrev class_in : Limits → Bytes → List Aid → Reader Class
class_in l s ds = class (format_of l s) ds

abbrev classes_in : Limits → Bytes → List Aid → Reader (List Class)
classes_in l s ds = counted most_classes u1 (class_in l s ds)

steady_class_in : (l : Limits) (s : Bytes) (ds : List Aid) → Steady (class_in l s ds)
steady_class_in l s ds = steady_class (format_of l s) ds

abbrev pub ClassLoop : {B : Type 0} → (List Class → B) → (List Class → B) → Bytes → ℕ → ℕ → ℕ → Type 0
ClassLoop f g s i left c = (l : Limits) (ds : List Aid) → Tracks (class_in l s ds) s (classes_in l s ds) i f g left c

-- what a test answers of whatever class stands at c
abbrev pub ClassTests : Bytes → ℕ → (Class → Bool) → Bool → Type 0
ClassTests s c p b = OfClass s c λ l ds k j. p k ≡ b

-- a fact of whatever list of classes stands at i
abbrev pub OfClasses : Bytes → ℕ → (Limits → List Aid → List Class → Type 0) → Type 0
OfClasses s i q = (l : Limits) (ds : List Aid) (cs : List Class) (j : ℕ) → Reads (classes_in l s ds) s i cs j → q l ds cs

pub classes_start : {B : Type 0} {f : List Class → B} {s : Bytes} {i n : ℕ} → n ≡ get_or s i 0 → ClassLoop f f s i n (i + 1)
classes_start {f = f} {s} {i} h l ds = rw h (track_start (class_in l s ds) s f most_classes i)

module _ {B : Type 0} {f g : List Class → B} {s : Bytes} {i left c : ℕ} (t : ClassLoop f g s i left c) where
  pub classes_here : 0 < left → Classes s i → ClassThere s c
  classes_here h e =
      let l = e.0 in
      let ds = e.1 in
      (l, ds, track_ends (class_in l s ds) (steady_class_in l s ds) s (classes_in l s ds) i f g left c (t l ds) h e.2)

module _ {s : Bytes} {i end n c : ℕ} where
  module _ {k : ℕ} (t : ClassLoop (λ xs. at xs k) (λ ys. at ys (k - n)) s i (end - n) c) where
    pub classes_hit : n < end → n ≡ k → ClassNth s i k (Some c)
    classes_hit h q l ds xs j p = nth_hit (class_in l s ds) (steady_class_in l s ds) s (classes_in l s ds) i (end - n) c k (k - n) (t l ds) (omega arith)
        (omega arith) xs j p

    pub classes_miss : {d : ℕ} → n < end → n < k → AfterClass s c d → ClassLoop (λ xs. at xs k) (λ ys. at ys (k - (n + 1))) s i (end - (n + 1)) d
    classes_miss {d} h q e l ds = rw (rest end n h, rest k n q)
        (nth_miss (class_in l s ds) (steady_class_in l s ds) s (classes_in l s ds) i (end - n) c k (k - n) (t l ds) d (omega arith) (λ z. omega arith) (e l ds))

    pub classes_none : end ≤ n → ClassNth s i k None
    classes_none h l ds xs j p = nth_none (class_in l s ds) (steady_class_in l s ds) s (classes_in l s ds) i (end - n) c k (k - n) (t l ds) (omega arith) xs j p

module _ {s : Bytes} {i left c : ℕ} where
  module _ (p : Class → Bool) (t : ClassLoop (all p) (all p) s i left c) where
    pub every_hit : 0 < left → ClassTests s c p false → OfClasses s i λ l ds cs. all p cs ≡ false
    every_hit h q l ds cs j e = each_hit (class_in l s ds) (steady_class_in l s ds) s (classes_in l s ds) i left c p (t l ds) h (q l ds) cs j e

    pub every_miss : {d : ℕ} → 0 < left → ClassTests s c p true → AfterClass s c d → ClassLoop (all p) (all p) s i (left - 1) d
    every_miss {d} h q e l ds = each_miss (class_in l s ds) (steady_class_in l s ds) s (classes_in l s ds) i left c p (t l ds) d h (q l ds) (e l ds)

    pub every_none : left ≤ 0 → OfClasses s i λ l ds cs. all p cs ≡ true
    every_none h l ds cs j e = each_none (class_in l s ds) (steady_class_in l s ds) s (classes_in l s ds) i left c p (t l ds) h cs j e
