-- Question 15 at places: the loops over a class's methods and over the classes. Assumes nothing.
use Prim.Native.Nat.{ℕ, ◌+◌, ◌-◌, ◌≤◌, ◌<◌}
use native.Mathlib.Omega.{arith}
use mathlib.Core.Path.{◌≡◌, refl, sym, ◌∙◌, ap}
use mathlib.Core.Bool.{Bool, true, false, ◌&&◌, ◌||◌, not}
use mathlib.Core.List.{List, [], ◌∷◌}
use lib.Dec.{eqb}
use lib.ListN.{length, get_or, set, length-set}
use Rattle.rules.specs.Bytes.{Bytes, Aid, all, u1, counted}
use Rattle.rules.specs.Package.{Limits, format_of, most_methods, Method, method}
use Rattle.rules.specs.Questions.{names_differ, q15_names}
use Rattle.places.specs.Reads.{Reads}
use Rattle.places.proofs.Steady.{steady_u1, steady_method}
use Rattle.places.proofs.Inverse.{Counted, reads_counted, reads_u1}
use Rattle.places.proofs.Track.{Front, track_front, track_done}
use Rattle.files.specs.Say.{MethodThere, AfterMethod, NameIs, StaticIs, ImplementedIs, Methods, MethodsAt, InterfaceIs, ClassesAt}
use Rattle.files.proofs.Loops.{MethodLoop, OfMethods, methods_start, methods_here, ClassLoop, every_hit, every_none}
use Rattle.files.proofs.Walks.{classes_read}
use Rattle.names.specs.Say.{form, FormIs, among, Below, class_ok, ClassIs, NamesIs}
use Rattle.names.proofs.Table.{among_put, below_put}

-- a method's form, by the bits read
pub form_is : {s : Bytes} {i : ℕ} (b r : Bool) {t m : Bool} → StaticIs s i t → ImplementedIs s i m → r ≡ form b t m → FormIs s i b r
form_is b r {t} {m} h g e l ds x j p = e ∙ rw (h l ds x j p, g l ds x j p)

-- names that differ and forms that are right, of a list of methods
abbrev pub methods_ok : Bool → List Method → Bool
methods_ok b ms = names_differ ms && all (λ m. form b m.static m.implemented) ms

-- the method's name is not one of the first n of the table
abbrev new_in : List ℕ → ℕ → Method → Bool
new_in names n m = not (among names n m.name)

-- the same of methods behind those whose names are the first n of the table
abbrev pub goes_on : Bool → List ℕ → ℕ → List Method → Bool
goes_on b names n ms = all (new_in names n) ms && methods_ok b ms

-- none is before
on_start : (b : Bool) (names : List ℕ) (ms : List Method) → methods_ok b ms ≡ goes_on b names 0 ms
on_start b names ms = rw (go ms)
  where
    go : (ms : List Method) → all (new_in names 0) ms ≡ true
    go [] = refl
    go (m ∷ ms) = go ms

-- the method in front: its form, its name among those before, and neither
on_form : (b : Bool) (names : List ℕ) (n : ℕ) (m : Method) (ms : List Method) → form b m.static m.implemented ≡ false → goes_on b names n (m ∷ ms) ≡ false
on_form b names n m ms e = rw e (go (all (new_in names n) (m ∷ ms)) (names_differ (m ∷ ms)))
  where
    go : (a c : Bool) → (a && (c && false)) ≡ false
    go true true = refl
    go true false = refl
    go false c = refl

on_same : (b : Bool) (names : List ℕ) (n : ℕ) (m : Method) (ms : List Method) → among names n m.name ≡ true → goes_on b names n (m ∷ ms) ≡ false
on_same b names n m ms e = rw e

module _ (names : List ℕ) (n v : ℕ) (room : n < length names) where
  -- not among these and the one put behind them: not among these, and not that one
  new_put : (ms : List Method) → all (new_in (set names n v) (n + 1)) ms ≡ (all (new_in names n) ms && all (λ o. not (eqb v o.name)) ms)
  new_put [] = refl
  new_put (m ∷ ms) =
      rw (among_put names n v room m.name, new_put ms)
      (go (among names n m.name) (eqb v m.name) (all (new_in names n) ms) (all (λ o. not (eqb v o.name)) ms))
    where
      go : (a e c d : Bool) → (not (a || e) && (c && d)) ≡ ((not a && c) && (not e && d))
      go true e c d = refl
      go false true true d = refl
      go false true false d = refl
      go false false c d = refl

  on_next : (b : Bool) (m : Method) (ms : List Method) → v ≡ m.name → form b m.static m.implemented ≡ true → among names n v ≡ false →
      goes_on b names n (m ∷ ms) ≡ goes_on b (set names n v) (n + 1) ms
  on_next b m ms e f h = rw (new_put ms, ← e, h, f) (go (all (new_in names n) ms) (all (λ o. not (eqb v o.name)) ms) (names_differ ms) _)
    where
      go : (a c d e : Bool) → (a && ((c && d) && e)) ≡ ((a && c) && (d && e))
      go true true d e = refl
      go true false d e = refl
      go false c d e = refl

-- question 15 of whatever methods stand at i
abbrev pub OkAt : Bool → Bytes → ℕ → Bool → Type 0
OkAt b s i r = OfMethods s i λ l ds ms. r ≡ methods_ok b ms

-- the loop over the methods of the class whose list stands at i: the table has the names of the n passed, all below top
pub record NameLoop (b : Bool) (s : Bytes) (i count n c top : ℕ) (names : List ℕ) : Type 0 where
  pub few : count ≤ most_methods
  pub size : most_methods ≤ length names
  pub below : Below names n top
  pub walk : MethodLoop (methods_ok b) (goes_on b names n) s i (count - n) c

pub names_start_lem : (b : Bool) (s : Bytes) (i count : ℕ) (names : List ℕ) → Methods s i → count ≡ get_or s i 0 → most_methods ≤ length names →
    NameLoop b s i count 0 (i + 1) 0 names
names_start_lem b s i count names e h g = record {
  few = few (reads_counted most_methods u1 (method (format_of e.0 s) e.1) steady_u1 s i e.2.0 e.2.1 e.2.2);
  size = g;
  below = (omega arith, λ i k. absurd (omega arith));
  walk = λ l ds xs j p. let y = methods_start {f = methods_ok b} h l ds xs j p in (y.0, rw left y.1, y.2 ∙ on_start b names y.0);
}
  where
    left : count - 0 ≡ count
    left = omega arith

    few : Counted most_methods u1 (method (format_of e.0 s) e.1) s i e.2.0 e.2.1 → count ≤ most_methods
    few k = let u = reads_u1 s i k.number k.place k.count in omega (arith, k.small, u.byte, h)

module _ (b : Bool) (s : Bytes) (i count n c top : ℕ) (names : List ℕ) (t : NameLoop b s i count n c top names) where
  pub names_here : n < count → Methods s i → MethodThere s c
  names_here h e = methods_here {left = count - n} t.walk (omega arith) e

  abbrev front : n < count → (l : Limits) (ds : List Aid) (ms : List Method) (j : ℕ) → Reads (counted most_methods u1 (method (format_of l s) ds)) s i ms j →
      Front (method (format_of l s) ds) (steady_method (format_of l s) ds) s (counted most_methods u1 (method (format_of l s) ds)) i (methods_ok b)
      (goes_on b names n) (count - n) c (t.walk l ds) ms j
  front h l ds =
      track_front (method (format_of l s) ds) (steady_method (format_of l s) ds) s (counted most_methods u1 (method (format_of l s) ds)) i (methods_ok b)
      (goes_on b names n) (count - n) c (t.walk l ds)
      (omega arith)

  pub names_form : n < count → FormIs s c b false → OkAt b s i false
  names_form h q l ds ms j p =
      let z = front h l ds ms j p in
      sym (z.value ∙ on_form b names n z.one z.others (sym (q l ds z.one z.place z.reads)))

  pub names_same : {v : ℕ} → n < count → NameIs s c v → true ≡ among names n v → OkAt b s i false
  names_same h q e l ds ms j p =
      let z = front h l ds ms j p in
      let m = q l ds z.one z.place z.reads in
      sym (z.value ∙ on_same b names n z.one z.others (rw (← m) (sym e)))

  pub names_next : {v d high : ℕ} → n < count → FormIs s c b true → NameIs s c v → false ≡ among names n v → top ≤ high → v < high → AfterMethod s c d →
      NameLoop b s i count (n + 1) d high (set names n v)
  names_next {v} {d} {high} h f q e u w a = record {
    few = t.few;
    size = rw (length-set names n v) t.size;
    below = below_put names n v room top high t.below u w;
    walk = turn;
  }
    where
      room : n < length names
      room = omega (arith, t.few, t.size)

      left : count - n - 1 ≡ count - (n + 1)
      left = omega arith

      turn : MethodLoop (methods_ok b) (goes_on b (set names n v) (n + 1)) s i (count - (n + 1)) d
      turn l ds ms j p =
          let z = front h l ds ms j p in
          let k = a l ds z.one z.place z.reads in
          let m = q l ds z.one z.place z.reads in
          let g = f l ds z.one z.place z.reads in
          (z.others, rw (k, ← left) z.rest, z.value ∙ on_next names n v room b z.one z.others m (sym g) (sym e))

  pub names_none : count ≤ n → OkAt b s i true
  names_none h l ds ms j p =
      let z =
      track_done (method (format_of l s) ds) (steady_method (format_of l s) ds) s (counted most_methods u1 (method (format_of l s) ds)) i (methods_ok b)
      (goes_on b names n) (count - n) c
      (t.walk l ds) (omega arith) ms j p
      in
      sym z.1

-- a class, by its kind and its methods
pub class_is_lem : {s : Bytes} {i : ℕ} (b r : Bool) {d : ℕ} → InterfaceIs s i b → MethodsAt s i d → OkAt b s d r → ClassIs s i r
class_is_lem b r h a q l ds k j p = let e = h l ds k j p in q l ds k.methods j (a l ds k j p) ∙ ap (λ (b : Bool). methods_ok b k.methods) e

-- a file, by its classes
module _ {f : Bytes} {i left c : ℕ} (a : ClassesAt f i) (t : ClassLoop (all class_ok) (all class_ok) f i left c) where
  pub file_hit : 0 < left → ClassIs f c false → NamesIs f false
  unfolding q15_names
  file_hit h q l p e = sym (every_hit class_ok t h (λ l ds k j x. sym (q l ds k j x)) l p.domains p.classes (length f) (classes_read a l p e))

  pub file_none : left ≤ 0 → NamesIs f true
  unfolding q15_names
  file_none h l p e = sym (every_none class_ok t h l p.domains p.classes (length f) (classes_read a l p e))
