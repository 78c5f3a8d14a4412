-- Methods of entries' files by numbers, and the call paths that computed calls make. Assumes nothing.
--
-- the          == the value that is there
-- method_by     == a method of the entries' files by the numbers of its entry, its class and its place there
-- found        == the method that is there
-- Leads es x y == among the entries' files a call path leads from the method of the package, class and name x to that of y
use Prim.Native.Nat.{ℕ}
use mathlib.Core.Path.{◌≡◌, refl}
use mathlib.Core.List.{List, Memᴰ}
use mathlib.Core.Option.{Option, none, some}
use lib.Dec.{T}
use Rattle.rules.specs.Bytes.{Bytes, Aid, at, is_some}
use Rattle.rules.specs.Package.{Limits, standard, read_file, Method, Class, Package}
use Rattle.rules.specs.Store.{version1, Entry, domain, loaded}
use Rattle.rules.specs.Classes.{installed}
use Rattle.rules.specs.Operations.{sound_entries}
use Rattle.rules.specs.Paths.{InstalledMethod, located, CallPath, call, then_call}
use Rattle.rules.specs.Called.{calls_b}
use Rattle.rules.proofs.Lists.{at_mem}
use Rattle.rules.proofs.Called.{installed_yes_calls}

abbrev pub the : {A : Type 0} (o : Option A) → T (is_some o) → A
the none h = absurd h
the (some a) h = a

module _ (l : Limits) (es : List Entry) (n j : ℕ) where
  abbrev in_class : (d : Aid) (f : Bytes) → Memᴰ (loaded d f) es → (p : Package) → read_file l f ≡ some p → (k : Class) → at p.classes n ≡ some k →
      (o : Option Method) → at k.methods j ≡ o → Option (InstalledMethod l es)
  in_class d f m p r k c none e = none
  in_class d f m p r k c (some x) e =
      some (record {
        domain =
            d;
        file = f;
        entry = m;
        pack = p;
        reads = r;
        number = n;
        class = k;
        class_is = c;
        method = x;
        method_in = at_mem k.methods j x e;
      })

  abbrev in_package : (d : Aid) (f : Bytes) → Memᴰ (loaded d f) es → (p : Package) → read_file l f ≡ some p → (o : Option Class) → at p.classes n ≡
      o → Option (InstalledMethod l es)
  in_package d f m p r none e = none
  in_package d f m p r (some k) e = in_class d f m p r k e (at k.methods j) refl

  abbrev in_file : (d : Aid) (f : Bytes) → Memᴰ (loaded d f) es → (o : Option Package) → read_file l f ≡ o → Option (InstalledMethod l es)
  in_file d f m none e = none
  in_file d f m (some p) e = in_package d f m p e (at p.classes n) refl

  abbrev in_entry : (e : Entry) → Memᴰ e es → Option (InstalledMethod l es)
  in_entry (domain k a) m = none
  in_entry (loaded d f) m = in_file d f m (read_file l f) refl

  abbrev in_entries : (i : ℕ) (o : Option Entry) → at es i ≡ o → Option (InstalledMethod l es)
  in_entries i none e = none
  in_entries i (some x) e = in_entry x (at_mem es i x e)

abbrev pub method_by : (l : Limits) (es : List Entry) → ℕ → ℕ → ℕ → Option (InstalledMethod l es)
method_by l es i n j = in_entries l es n j i (at es i) refl

module _ (es : List Entry) where
  abbrev pub Found : Type 0
  Found = InstalledMethod standard es

  abbrev pub found : (i n j : ℕ) → T (is_some (method_by standard es i n j)) → Found
  found i n j h = the (method_by standard es i n j) h

  -- the method of this package, class and name
  abbrev pub Is : Found → (Aid × ℕ × ℕ) → Type 0
  Is m x = (m.pack.aid ≡ x.0) × (m.number ≡ x.1) × (m.method.name ≡ x.2)

  abbrev pub Leads : (Aid × ℕ × ℕ) → (Aid × ℕ × ℕ) → Type 0
  Leads x y = (m : Found) × (o : Found) × Is m x × Is o y × CallPath standard es m o

-- where the entries would be accepted again
module _ (n : ℕ) (es : List Entry) (accepted : T (sound_entries version1 n es)) where
  -- a computed call is a path of two
  pub called_path : (m o : Found es) → T (calls_b standard (installed standard es) (located m) (located o)) → CallPath standard es m o
  called_path m o h = call m o (installed_yes_calls version1 n es accepted m o h)

  -- a call before a path
  pub before_path : (m o p : Found es) → T (calls_b standard (installed standard es) (located m) (located o)) → CallPath standard es o p →
      CallPath standard es m p
  before_path m o p h r = then_call m o p (installed_yes_calls version1 n es accepted m o h) r
