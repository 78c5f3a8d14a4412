-- The form of what is called: visible where it lies outside the file, and as the kind of call asks. Assumes nothing.
use Rattle.std.specs.Prelude.{Some, None}
use Prim.Native.Nat.{ℕ}
use native.Mathlib.Omega.{arith}
use mathlib.Core.Path.{◌≡◌, refl, sym, ◌∙◌, ap, subst}
use mathlib.Core.Bool.{Bool, true, false, ◌&&◌, ◌||◌, not}
use mathlib.Core.List.{List, Memᴰ}
use mathlib.Core.Option.{Option}
use lib.Dec.{T_not, eqb}
use borrow.Author.Tests.{ne_eqb}
use Rattle.rules.specs.Bytes.{Bytes, some_and, is_some}
use Rattle.rules.specs.Store.{Entry, loaded, store_limits}
use Rattle.rules.specs.Classes.{Installed, installed_by, installed, has_aid, by_aid}
use Rattle.rules.specs.Questions.{Named, q12_new, visible_from, call_form}
use Rattle.rules.proofs.Tests.{is_true, of_true, same_refl}
use Rattle.rules.proofs.Lists.{find_there}
use Rattle.rules.proofs.Bounds.{flat_mem}
use Rattle.files.specs.Say.{VisibleIs, StaticIs, ImplementedIs, InterfaceIs, ClassThere, MethodThere}
use Rattle.codes.specs.Calls.{kind_of}
use Rattle.codes.specs.declared.Calling.{Calling}
use Rattle.codes.specs.declared.Calling.TheVariants as kinds
use Rattle.homes.specs.Homes.{file_of, HomeIs, own, stored, Stored, HomeThere}
use Rattle.homes.specs.declared.Home.{Home}
use Rattle.references.specs.Setting.{Loading, imports_of, Judged}
use Rattle.references.specs.Named.{ReferenceIs}
use Rattle.calls.specs.Named.{OfNamed, SeenIs, FormIs, WellIs, CallNamedIs}
use Rattle.references.specs.declared.Meant.{Meant}

-- visible where it lies outside the file
pub seen_outside : {g : Bytes} {m : ℕ} {o b : Bool} → o ≡ true → VisibleIs g m b → SeenIs g m o b
seen_outside e h l ds x j p = rw e (h l ds x j p)

pub seen_own : {g : Bytes} {m : ℕ} {o : Bool} → o ≡ false → SeenIs g m o true
seen_own e l ds x j p = rw e

-- the form that each kind of call asks
module _ {g : Bytes} (x : Meant) where
  pub virtual_static : StaticIs g x.method true → FormIs g x kinds.Virtual false
  virtual_static h y k is n l ds j e a p = rw (← h l ds y.means.method e p)

  pub virtual_is : StaticIs g x.method false → FormIs g x kinds.Virtual x.kind0
  virtual_is h y k is n l ds j e a p = rw (← h l ds y.means.method e p) n

  pub special_is : {b : Bool} → ImplementedIs g x.method b → FormIs g x kinds.Special b
  special_is h y k is n l ds j e a p = h l ds y.means.method e p

  pub static_is : {b : Bool} → StaticIs g x.method b → FormIs g x kinds.Static b
  static_is h y k is n l ds j e a p = h l ds y.means.method e p

  pub interface_static : StaticIs g x.method true → FormIs g x kinds.Interface false
  interface_static h y k is n l ds j e a p = rw (← h l ds y.means.method e p)

  pub interface_is : {b : Bool} → StaticIs g x.method false → InterfaceIs g x.class b → FormIs g x kinds.Interface b
  interface_is h i y k is n l ds j e a p = rw (← h l ds y.means.method e p, is) (i l ds k j a)

  -- both
  seen_is : (o b : Bool) → o ≡ not (eqb x.home.from 0) → SeenIs g x.method o b →
      OfNamed g x λ y. (self : Installed) → has_aid self.pack.aid y.means.class.home ≡ eqb x.home.from 0 → visible_from self y.means ≡ b
  seen_is o b w h y k is n l ds j e a p self q =
      ap (λ (v : Bool). v || y.means.method.visible) (q ∙ twice (eqb x.home.from 0) ∙ ap not (sym w)) ∙ sym (h l ds y.means.method e p)
    where
      twice : (v : Bool) → v ≡ not (not v)
      twice true = refl
      twice false = refl

  pub well_unseen : (o : Bool) (k : Calling) → o ≡ not (eqb x.home.from 0) → SeenIs g x.method o false → WellIs g x k false
  well_unseen o k w h y z is n l ds j e a p self q =
      sym (ap (λ (v : Bool). v && call_form (kind_of k) y) (seen_is o false w h y z is n l ds j e a p self q))

  pub well_seen : (o : Bool) (k : Calling) (r : Bool) → o ≡ not (eqb x.home.from 0) → SeenIs g x.method o true → FormIs g x k r → WellIs g x k r
  well_seen o k r w h d y z is n l ds j e a p self q =
      d y z is n l ds j e a p ∙ sym (ap (λ (v : Bool). v && call_form (kind_of k) y) (seen_is o true w h y z is n l ds j e a p self q))

-- a package lies in the file being judged exactly where it has its AID
stored_installed : (s : Bytes) (es : List Entry) (h : Home) (x : Installed) → Stored s es h x → Memᴰ x (installed (store_limits s) es)
stored_installed s es h x t =
    let l = store_limits s in
    let here : Memᴰ (loaded x.domain _) es = subst (Memᴰ _) (sym t.are) (mathlib.Core.List.Memᴰ.append_right t.pre (mathlib.Core.List.Memᴰ.head refl)) in
    flat_mem (installed_by l) (loaded x.domain _) x es here (rw t.reads (mathlib.Core.List.Memᴰ.head refl))

lies_own : {f s : Bytes} {end : ℕ} {es : List Entry} {self : Installed} (h : Home) (x : Installed) → Loading f s end es self →
    HomeIs f s end es self h x → has_aid self.pack.aid x ≡ eqb h.from 0
unfolding q12_new
lies_own {self = self} _ _ i own = is_true _ (same_refl self.pack.aid)
lies_own {s = s} {es = es} {self} h x i (stored t) =
    go (has_aid self.pack.aid x) refl ∙ sym (ne_eqb h.from 0 (λ e. omega (arith, t.inside, e)))
  where
    is : List Installed
    is = installed (store_limits s) es

    go : (b : Bool) → has_aid self.pack.aid x ≡ b → has_aid self.pack.aid x ≡ false
    go false e = e
    go true e =
        absurd (T_not (is_some (by_aid is self.pack.aid)) i.new
        (find_there (has_aid self.pack.aid) is x (stored_installed s es h x t) (of_true e)))

-- question 18 of a call
module _ {f s : Bytes} {end index : ℕ} (kind : Calling) where
  pub call_unnamed : ReferenceIs f s end index None → CallNamedIs f s end kind index false
  call_unnamed q es self m = rw (q es self m)

  module _ (x : Meant) (q : ReferenceIs f s end index (Some x)) where
    pub named_home : Judged f s end → HomeThere f s x.home
    named_home g =
        let z = q g.0 g.1 g.2 in
        (end, g.0, g.1, imports_of g.2, z.0.means.class.home, z.2.declared.lies)

    module _ (b : Bytes) (e : b ≡ file_of f s x.home) where
      pub named_class_lem : Judged f s end → ClassThere b x.class
      named_class_lem g =
          let z = q g.0 g.1 g.2 in
          let d = z.2.declared in
          rw e (store_limits s, z.0.means.class.home.pack.domains, (d.class, d.class_end, d.stands))

      pub named_method : Judged f s end → MethodThere b x.method
      named_method g =
          let z = q g.0 g.1 g.2 in
          let d = z.2.declared in
          rw e (store_limits s, z.0.means.class.home.pack.domains, (z.0.means.method, d.method_end, d.method))

      pub call_named_is : (r : Bool) → WellIs b x kind r → CallNamedIs f s end kind index r
      call_named_is r w es self u =
          let z = q es self u in
          let y = z.0 in
          let d = z.2.declared in
          let a =
          subst (λ (v : Bytes). WellIs v x kind r) e w y d.class d.is z.2.kind0 (store_limits s) y.means.class.home.pack.domains
          d.class_end d.method_end d.stands d.method self (lies_own x.home y.means.class.home u d.lies)
          in
          subst (λ (o : Option Named). r ≡ some_and o (λ v. visible_from self v.means && call_form (kind_of kind) v)) (sym z.1) a
