-- The computed calls are the calls: in a sound store calls_b says yes of two installed methods exactly where the one calls the other.
-- Assumes nothing.
use Prim.Native.Nat.{ℕ, zero, suc, ◌+◌}
use native.Mathlib.Omega.{arith}
use native.Mathlib.Nat.{zero-add}
use mathlib.Core.Path.{◌≡◌, refl, sym, ap, subst}
use mathlib.Core.Logic.{inl, inr}
use mathlib.Core.Bool.{Bool, true, false, ◌&&◌, not}
use mathlib.Core.List.{List, [], ◌∷◌, Memᴰ}
use mathlib.Core.Option.{some}
use lib.Dec.{T, eqb, eqb_refl}
use Rattle.rules.specs.Bytes.{pick, at, list_of}
use Rattle.rules.specs.Code.{Call, CallKind, virtual, special, static, interface, calls_of}
use Rattle.rules.specs.Package.{Limits, Method, Class}
use Rattle.rules.specs.Store.{Opening, opening_limits, Entry}
use Rattle.rules.specs.Classes.{Installed, installed, ClassAt, record_of, parents_of, ancestors_up_to, MethodAt, runs_up_to}
use Rattle.rules.specs.Questions.{own, Named, call_names}
use Rattle.rules.specs.Operations.{sound_entries}
use Rattle.rules.specs.Paths.{InstalledMethod, located, IsOrBelow, First, declares, inherits, Runs, Names, Direct, special_is, static_is, Dynamic, virtual_is, interface_is, Calls, direct, dynamic}
use Rattle.rules.specs.Called.{same_class, same_method, classes_from, classes_over, at_or_below, running_for, running_below, called_as, called_by, called, calls_b}
use Rattle.rules.proofs.Tests.{and_i, is_true, of_true, none_some, any_mem, mem_any, find_some, some_and_is, flat_mem_is, list_of_mem}
use Rattle.rules.proofs.Bounds.{flat_mem, kind0_parent_lem, below_ancestors, ancestors_below, is_runs, runs_is}
use Rattle.rules.proofs.Homes.{class_home, parent_home, above_home}
use Rattle.rules.proofs.Search.{found_member}
use Rattle.rules.proofs.Names.{named_is}
use Rattle.rules.proofs.Sound.{Sane, sound_sane}
use Rattle.rules.proofs.Distinct.{Distinct, sound_distinct, There, one_class, class_refl, one_method}
use Rattle.rules.proofs.Paths.{home_installed, depth_kept, names_found, found_names}

-- a class of a package has a place among its classes
classes_from_lem : (self : Installed) (i j : ℕ) (ks : List Class) (k : Class) → at ks j ≡ some k → Memᴰ (own self (i + j)) (classes_from self i ks)
classes_from_lem self i j [] k e = absurd (none_some e)
classes_from_lem self i zero (x ∷ ks) k e = let q : i + 0 ≡ i = omega arith in rw q (mathlib.Core.List.Memᴰ.head refl)
classes_from_lem self i (suc j) (x ∷ ks) k e = let q : i + suc j ≡ suc i + j = omega arith in rw q (mathlib.Core.List.Memᴰ.tail (classes_from_lem self (suc i) j ks k e))

from_classes : (self : Installed) (i : ℕ) (ks : List Class) (c : ClassAt) → Memᴰ c (classes_from self i ks) → c.home ≡ self
from_classes self i [] c m = elim m [ ]
from_classes self i (x ∷ ks) c m = elim (mathlib.Core.List.Memᴰ.cases_cons m) [ inl e ↦ ap (λ (z : ClassAt). z.home) e | inr h ↦ from_classes self (suc i) ks c h ]

module _ (l : Limits) (is : List Installed) (sane : Sane l is) (distinct : Distinct is) where
  -- what an installed package leads to is installed
  parent_installed : (c d : ClassAt) → Memᴰ c.home is → Memᴰ d (parents_of is c) → Memᴰ d.home is
  parent_installed = parent_home is (λ y. Memᴰ y is) (λ y z. z)

  above_installed : {b x : ClassAt} → Memᴰ b.home is → IsOrBelow is b x → Memᴰ x.home is
  above_installed h r = above_home is (λ y. Memᴰ y is) (λ y z. z) h r

  names_installed : (self : Installed) → Memᴰ self is → (c : Call) (x : ClassAt) (t : MethodAt) → Names is self c x t → Memᴰ x.home is
  names_installed self m c x t r = class_home is (λ y. Memᴰ y is) (λ y z. z) self m r.reference.class x r.class_is

  -- what runs for a class stands at it or above it
  first_there : {b : ClassAt} {n : ℕ} {o : MethodAt} → Memᴰ b.home is → First is b n o → There is o
  first_there h (declares {n =
      n} k m e f) = record { class = k; home = h; there = e; member = (find_some (λ (y : Method). eqb y.name n && not y.static) k.methods m f).0 }
  first_there h (inherits {c = c} k d e f p r) = first_there (parent_installed c d h (kind0_parent_lem is c d p)) r

  -- what an installed method calls is installed
  pub calls_there : (m o : MethodAt) → Memᴰ m.class.home is → Calls is m o → There is o
  calls_there m o h (direct c k d x _ r) =
      let e = names_found l is sane m.class.home h c x o r in
      let f = (named_is l is m.class.home c (record { class = x; means = o }) e).1 in
      let home = above_installed (names_installed m.class.home h c x o r) f.above in
      record { class = f.class; home = home; there = f.there; member = found_member is f }
  calls_there m o h (dynamic c k d x t e b i r _ u) = first_there i u.first

  -- what runs for a receiver is computed
  runs_below : (x b : ClassAt) (n : ℕ) (o : MethodAt) → Memᴰ b.home is → IsOrBelow is b x → Runs is b n o → Memᴰ o (running_below l is x n)
  runs_below x b n o h r u =
      let t = some_and_is (record_of b) (λ (y : Class). not y.interface) u.kind0 in
      let d = depth_kept l is sane b t.0 h t.1 in
      let a : at_or_below l is x b ≡ true = is_true _ (any_mem (same_class x) (class_refl l is sane distinct x) (below_ancestors is l.depth b x d r)) in
      let f : Memᴰ o (running_for l is x n b) = rw (a, is_runs is l.depth b n o d u) (mathlib.Core.List.Memᴰ.head refl) in
      let i : Memᴰ b (classes_from b.home 0 b.home.pack.classes) =
      rw zero-add at (classes_from_lem b.home 0 b.number b.home.pack.classes t.0 t.1) in
      flat_mem (running_for l is x n) b o (classes_over is) (flat_mem (λ y. classes_from y 0 y.pack.classes) b.home b is h i) f

  -- and nothing else is
  below_runs : (x : ClassAt) (n : ℕ) (o : MethodAt) → Memᴰ x.home is → Memᴰ o (running_below l is x n) →
      (b : ClassAt) × Memᴰ b.home is × IsOrBelow is b x × Runs is b n o
  below_runs x n o h m =
      let b = flat_mem_is (running_for l is x n) (classes_over is) o m in
      let i = flat_mem_is (λ y. classes_from y 0 y.pack.classes) is b.0 b.1 in
      let z : b.0.home ≡ i.0 = from_classes i.0 0 i.0.pack.classes b.0 i.2 in
      go b.0 (subst (λ (y : Installed). Memᴰ y is) (sym z) i.1) (at_or_below l is x b.0) refl b.2
    where
      go : (b : ClassAt) → Memᴰ b.home is → (t : Bool) → at_or_below l is x b ≡ t →
          Memᴰ o (pick t (list_of (runs_up_to is l.depth b n) (λ m. m ∷ [])) []) →
          (b : ClassAt) × Memᴰ b.home is × IsOrBelow is b x × Runs is b n o
      go b p false e k = elim k [ ]
      go b p true e k =
          let r = list_of_mem (runs_up_to is l.depth b n) _ o k in
          let q : o ≡ r.0 = mathlib.Core.List.Memᴰ.eq_of_singleton r.2 in
          let a = mem_any (same_class x) (ancestors_up_to is l.depth b) (of_true e) in
          let u = ancestors_below is l.depth b a.0 a.1 in
          let c : x ≡ a.0 = one_class l is sane distinct x a.0 h (above_installed p u) a.2 in
          (b, p, rw c u, rw q (runs_is is l.depth b n r.0 r.1))

  as_dynamic : (k : CallKind) (x : Named) (o : MethodAt) → Dynamic k → Memᴰ o (running_below l is x.class x.means.method.name) →
      Memᴰ o (called_as l is k x)
  as_dynamic _ x o virtual_is m = m
  as_dynamic _ x o interface_is m = m

  as_direct : (k : CallKind) (x : Named) → Direct k → Memᴰ x.means (called_as l is k x)
  as_direct _ x special_is = mathlib.Core.List.Memᴰ.head refl
  as_direct _ x static_is = mathlib.Core.List.Memᴰ.head refl

  -- a call is computed
  pub calls_called : (m o : MethodAt) → Memᴰ m.class.home is → Calls is m o → Memᴰ o (called l is m)
  unfolding called
  calls_called m o h (direct c k d x _ r) =
      let e = names_found l is sane m.class.home h c x o r in
      flat_mem (called_by l is m.class.home) c o (calls_of m.method.code) k (rw e (as_direct c.kind (record { class = x; means = o }) d))
  calls_called m o h (dynamic c k d x t y b i r _ u) =
      let e = names_found l is sane m.class.home h c x t y in
      flat_mem (called_by l is m.class.home) c o (calls_of m.method.code) k
      (rw e (as_dynamic c.kind (record { class = x; means = t }) o d (runs_below x b t.method.name o i r u)))

  -- what is computed is a call
  pub called_calls : (m o : MethodAt) → Memᴰ m.class.home is → Memᴰ o (called l is m) → Calls is m o
  unfolding called
  called_calls m o h k =
      let c = flat_mem_is (called_by l is m.class.home) (calls_of m.method.code) o k in
      let x = list_of_mem (call_names l is m.class.home c.0) _ o c.2 in
      go c.0 c.1 x.0 x.1 c.0.kind refl x.2
    where
      named : (c : Call) → Memᴰ c (calls_of m.method.code) → (x : Named) → call_names l is m.class.home c ≡ some x → Direct c.kind →
          o ≡ x.means → Calls is m o
      named c i x e d z = rw z (direct c i d x.class x.means (found_names l is sane m.class.home h c x e))

      runs : (c : Call) → Memᴰ c (calls_of m.method.code) → (x : Named) → call_names l is m.class.home c ≡ some x → Dynamic c.kind →
          Memᴰ o (running_below l is x.class x.means.method.name) → Calls is m o
      runs c i x e d t =
          let y = found_names l is sane m.class.home h c x e in
          let r = below_runs x.class x.means.method.name o (names_installed m.class.home h c x.class x.means y) t in
          dynamic c i d x.class x.means y r.0 r.1 r.2 o r.3

      go : (c : Call) → Memᴰ c (calls_of m.method.code) → (x : Named) → call_names l is m.class.home c ≡ some x → (k : CallKind) →
          c.kind ≡ k → Memᴰ o (called_as l is k x) → Calls is m o
      go c i x e virtual q t = runs c i x e (rw q virtual_is) t
      go c i x e special q t = named c i x e (rw q special_is) (mathlib.Core.List.Memᴰ.eq_of_singleton t)
      go c i x e static q t = named c i x e (rw q static_is) (mathlib.Core.List.Memᴰ.eq_of_singleton t)
      go c i x e interface q t = runs c i x e (rw q interface_is) t

  -- calls_b says yes exactly where m calls o
  pub calls_yes : (m o : MethodAt) → Memᴰ m.class.home is → Calls is m o → T (calls_b l is m o)
  unfolding calls_b
  calls_yes m o h c =
      any_mem (same_method o) (and_i (same_class o.class o.class) (eqb o.method.name o.method.name) (class_refl l is sane distinct o.class)
      (eqb_refl o.method.name)) (calls_called m o h c)

  pub yes_calls : (m o : MethodAt) → Memᴰ m.class.home is → There is o → T (calls_b l is m o) → Calls is m o
  unfolding calls_b
  yes_calls m o h t k =
      let r = mem_any (same_method o) (called l is m) k in
      let c = called_calls m r.0 h r.1 in
      let z : o ≡ r.0 = one_method l is sane distinct o r.0 t (calls_there m r.0 h c) r.2 in
      rw z c

-- of installed methods of a sound store
module _ (v : Opening) (n : ℕ) (es : List Entry) (h : T (sound_entries v n es)) (m o : InstalledMethod (opening_limits v) es) where
  abbrev l : Limits
  l = opening_limits v

  there : (x : InstalledMethod l es) → There (installed l es) (located x)
  there x = record { class = x.class; home = home_installed l es x; there = x.class_is; member = x.method_in }

  pub installed_calls_yes : Calls (installed l es) (located m) (located o) → T (calls_b l (installed l es) (located m) (located o))
  installed_calls_yes c =
      calls_yes l (installed l es) (sound_sane v n es h) (sound_distinct v n es h) (located m) (located o) (home_installed l es m) c

  pub installed_yes_calls : T (calls_b l (installed l es) (located m) (located o)) → Calls (installed l es) (located m) (located o)
  installed_yes_calls t =
      yes_calls l (installed l es) (sound_sane v n es h) (sound_distinct v n es h) (located m) (located o) (home_installed l es m) (there o) t
