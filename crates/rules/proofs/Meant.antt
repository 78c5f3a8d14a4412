-- Question 18 is the document's sentence over the search without a bound, asked of a package over installed ones as a load asks it.
-- Assumes nothing.
use Prim.Native.Nat.{suc, ◌≤◌}
use mathlib.Core.Path.{◌≡◌, refl, sym, subst}
use mathlib.Core.Logic.{◌⊎◌, inl, inr}
use mathlib.Core.Bool.{Bool, true, false, ◌||◌, not}
use mathlib.Core.List.{List, Memᴰ}
use mathlib.Core.Option.{some}
use lib.Dec.{T, leb→le}
use Rattle.rules.specs.Bytes.{at}
use Rattle.rules.specs.Code.{Call, CallKind, virtual, special, static, interface, calls_of}
use Rattle.rules.specs.Package.{Limits, Class}
use Rattle.rules.specs.Classes.{Installed, has_aid, ClassAt, record_of, depth_up_to, is_kind0, is_interface, MethodAt}
use Rattle.rules.specs.Questions.{depth_within, q12_new, q14_parents, Named, call_names, call_form, visible_from, call_names_method, q18_calls}
use Rattle.rules.specs.Unbounded.{Form, Seen, CallGood, Q18}
use Rattle.rules.proofs.Tests.{and_l, and_r, and_i, is_true, of_true, all_mem, all_from_zero, some_and_is}
use Rattle.rules.proofs.Policies.{all_is}
use Rattle.rules.proofs.Asked.{parents_yes}
use Rattle.rules.proofs.Homes.{class_home, above_home, own_aid_lem, other_aid}
use Rattle.rules.proofs.Names.{named_is, names_found, found_names}
use Rattle.rules.proofs.Paths.{depth_kept}
use Rattle.rules.proofs.Sound.{Sane}
use Rattle.rules.proofs.Unbounded.{all_from_zero_is}

-- tests as equations, and the other way
is_false : (b : Bool) → T (not b) → b ≡ false
is_false false h = refl
is_false true h = absurd h

of_false : {b : Bool} → b ≡ false → T (not b)
of_false e = rw e tt

or_inl : (a b : Bool) → T a → T (a || b)
or_inl true b h = tt
or_inl false b h = absurd h

or_inr : (a b : Bool) → T b → T (a || b)
or_inr true b h = tt
or_inr false b h = h

-- the form of a call
form_is : (k : CallKind) (x : Named) → T (call_form k x) → Form k x.class x.means
form_is virtual x h =
    (is_false x.means.method.static (and_l (not x.means.method.static) _ h), and_r (not x.means.method.static) (is_kind0 x.class) h)
form_is special x h = is_true x.means.method.implemented h
form_is static x h = is_true x.means.method.static h
form_is interface x h =
    (is_false x.means.method.static (and_l (not x.means.method.static) _ h), and_r (not x.means.method.static) (is_interface x.means.class) h)

is_form : (k : CallKind) (x : Named) → Form k x.class x.means → T (call_form k x)
is_form virtual x h = and_i (not x.means.method.static) (is_kind0 x.class) (of_false h.0) h.1
is_form special x h = of_true h
is_form static x h = of_true h
is_form interface x h = and_i (not x.means.method.static) (is_interface x.means.class) (of_false h.0) h.1

module _ (l : Limits) (is : List Installed) (sane : Sane l is) (self : Installed) (q12 : T (q12_new is self.pack)) (q14 : T (q14_parents l is self)) where
  -- the package itself, or an installed one
  abbrev Lies : Installed → Type 0
  Lies y = (y ≡ self) ⊎ Memᴰ y is

  -- a class there is no deeper than the limit
  lies_depth : (x : ClassAt) (k : Class) → Lies x.home → record_of x ≡ some k → depth_up_to is (suc l.depth) x ≤ l.depth
  lies_depth x k (inl z) e = subst (λ (h : Installed). at h.pack.classes x.number ≡ some k →
      depth_up_to is (suc l.depth) (record { home = h; number = x.number }) ≤ l.depth) (sym z) own e
    where
      own : at self.pack.classes x.number ≡ some k → depth_up_to is (suc l.depth) (record { home = self; number = x.number }) ≤ l.depth
      own q = leb→le _ l.depth (all_from_zero (λ i k. depth_within l is self i) self.pack.classes x.number k (parents_yes l is self q14).depths q)
  lies_depth x k (inr m) e = depth_kept l is sane x k m e

  -- a declaration is seen where it is visible or lies in the file
  seen_is : (t : MethodAt) → Lies t.class.home → T (visible_from self t) → Seen self t
  seen_is t (inl z) h = inl z
  seen_is t (inr m) h = inr (is_true t.method.visible (rw (other_aid is self q12 t.class.home m) at h))

  is_seen : (t : MethodAt) → Seen self t → T (visible_from self t)
  is_seen t (inl z) =
      let own = or_inl (has_aid self.pack.aid self) t.method.visible (own_aid_lem is self) in
      subst (λ (y : Installed). T (has_aid self.pack.aid y || t.method.visible)) (sym z) own
  is_seen t (inr v) = or_inr (has_aid self.pack.aid t.class.home) t.method.visible (of_true v)

  -- one call
  call_good : (c : Call) → T (call_names_method l is self c) → CallGood is self c
  call_good c h =
      let x = some_and_is (call_names l is self c) _ h in
      let names = found_names l is Lies (λ y m. inr m) lies_depth self (inl refl) c x.0 x.1 in
      let home = class_home is Lies (λ y m. inr m) self (inl refl) names.reference.class x.0.class names.class_is in
      let lies = above_home is Lies (λ y m. inr m) home (named_is l is self c x.0 x.1).1.above in
      record {
        class = x.0.class;
        means = x.0.means;
        names = names;
        seen = seen_is x.0.means lies (and_l (visible_from self x.0.means) _ x.2);
        form = form_is c.kind x.0 (and_r (visible_from self x.0.means) _ x.2);
      }

  good_call : (c : Call) → CallGood is self c → T (call_names_method l is self c)
  good_call c g =
      let e = names_found l is Lies (λ y m. inr m) lies_depth self (inl refl) c g.class g.means g.names in
      rw e (and_i (visible_from self g.means) _ (is_seen g.means g.seen) (is_form c.kind (record { class = g.class; means = g.means }) g.form))

  -- of every call
  pub q18_unbounded : T (q18_calls l is self) → Q18 is self
  unfolding q18_calls
  q18_unbounded h i k e m x c y =
      let h₁ = all_from_zero _ self.pack.classes i k h e in
      let h₂ = all_mem _ h₁ x in
      call_good c (all_mem (call_names_method l is self) h₂ y)

  pub unbounded_q18 : Q18 is self → T (q18_calls l is self)
  unfolding q18_calls
  unbounded_q18 h = all_from_zero_is _ self.pack.classes (λ i k e. all_is _ k.methods (λ m x. all_is _ (calls_of m.code)
      (λ c y. good_call c (h i k e m x c y))))
