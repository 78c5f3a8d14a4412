-- A parent of an own class, as it is listed, is a class at the home of its package number. Assumes nothing.
use Prim.Native.Nat.{ℕ, zero, suc, ◌+◌, ◌*◌, ◌≤◌, ◌<◌}
use native.Mathlib.Omega.{arith}
use mathlib.Core.Path.{◌≡◌, refl, sym, ◌∙◌, ap, ap₂, subst}
use mathlib.Core.List.{List}
use mathlib.Core.Option.{Option, none, some, some-injective}
use lib.Dec.{T}
use lib.ListN.{length, get_or}
use Rattle.rules.specs.Bytes.{Bytes, Aid, at, is_some, some_and, ◌and_then◌}
use Rattle.rules.specs.Package.{ClassNumber, Class}
use Rattle.rules.specs.Store.{Entry, store_limits}
use Rattle.rules.specs.Classes.{Installed, installed, by_aid, package_numbered, record_of, class_named}
use Rattle.rules.specs.Questions.{own, parent_exists}
use Rattle.rules.proofs.Tests.{and_l, all_mem, all_from_zero}
use Rattle.rules.proofs.Lists.{at_mem, some_is, at_below}
use Rattle.homes.specs.Homes.{Parents, own_home, HomeIs}
use Rattle.homes.specs.Homes as homes
use Rattle.homes.specs.Found.{ImportPlaces}
use Rattle.homes.specs.declared.Home.{Home}
use Rattle.homes.proofs.Homes.{parent_smaller, home_reads}
use Rattle.named.specs.Named.{Judged, home_of, PackageThere, ClassFrom}
use Rattle.named.proofs.Numbers.{number_home}
use Rattle.depths.specs.Depths.{ParentsThere, ImportCount, ClassIs, ClassThere, ParentAt, ParentIs}
use Rattle.depths.proofs.Records.{RecordBy, record_by}
use Rattle.depths.proofs.Exist.{own_at}

-- the package at the own home
own_same : (f s : Bytes) (end : ℕ) (es : List Entry) (self : Installed) (h : Home) (x : Installed) → HomeIs f s end es self h x → h.from ≡ 0 → x ≡ self
own_same f s end es self _ _ homes.own e = refl
own_same f s end es self h x (homes.stored t) e = absurd (omega (arith, e, t.inside))

-- a package number that stands for a package
number_below : (is : List Installed) (self : Installed) (p : ℕ) (y : Installed) → package_numbered is self p ≡ some y → p ≤ length self.pack.imports
number_below is self zero y e = omega arith
number_below is self (suc k) y e = go (at self.pack.imports k) refl e
  where
    go : (o : Option Aid) → at self.pack.imports k ≡ o → (o and_then λ a. by_aid is a) ≡ some y → suc k ≤ length self.pack.imports
    go none z q = let w : ◌≡◌ {A = ℕ} 0 1 = cc in absurd (omega arith)
    go (some a) z q = let b = at_below self.pack.imports k a z in omega arith

-- a parent that exists has a package and a record there
package_of_lem : (o : Option Installed) (c : ℕ) → T (some_and (o and_then λ v. some (own v c)) (λ d. is_some (record_of d))) → (y : Installed) × (o ≡ some y) ×
    (k : Class) × (at y.pack.classes c ≡ some k)
package_of_lem none c h = absurd h
package_of_lem (some y) c h = let v = some_is (at y.pack.classes c) h in (y, refl, v.0, v.1)

-- what questions 12 and 13 leave to be asked
pub judged_here : (f s : Bytes) (end : ℕ) → ParentsThere f s end → Judged f s end
judged_here f s end g = (g.0, g.1, g.2.imported)

-- parent i of own class n, which is listed as class c of package b: an own one has a smaller number
pub record Listed (f s : Bytes) (end n i : ℕ) (t : List ℕ) (b c : ℕ) : Type 0 where
  pub there : PackageThere f b
  pub class : ClassThere f s end (home_of s end t b) c
  pub smaller : b ≡ 0 → c < n
  pub is : ParentIs f s end n i (home_of s end t b) c

module _ (f s : Bytes) (end n a : ℕ) (q : ClassFrom f n a) where
  pub class_by : (es : List Entry) (self x : Installed) (k : Class) → ClassIs f s end (own_home end) n es self x k → RecordBy f a k
  class_by es self x k c = record_by (store_limits s) f x.pack n a k (home_reads f s end es self c.parents.imported.setting (own_home end) x
      c.home) q c.is

  module _ (t : List ℕ) (u : ImportPlaces f s end t) (r : ℕ) (few : ImportCount f r) (i m b c : ℕ) (z : m ≡ get_or f (a + 1) 0) (h : i < m)
      (zb : b ≡ get_or f (a + 2 + 2 * i) 0) (zc : c ≡ get_or f (a + 3 + 2 * i) 0) where
    -- the listed parent, by its bytes and as a class that exists
    pub record Lists (es : List Entry) (self : Installed) (k : Class) : Type 0 where
      pub number : ClassNumber
      pub listed : at k.parents i ≡ some number
      pub pack : b ≡ number.pack
      pub class : c ≡ number.class
      pub home : Installed
      pub is : package_numbered (installed (store_limits s) es) self b ≡ some home
      pub record' : Class
      pub there : at home.pack.classes c ≡ some record'

    lists : (es : List Entry) (self : Installed) → Parents f s end es self → (k : Class) → at self.pack.classes n ≡ some k → Lists es self k
    lists es self g k e =
        let w = (record_by (store_limits s) f self.pack n a k g.imported.setting.reads q e).parent i (omega (arith, z)) in
        let p = all_from_zero _ self.pack.classes n k g.exist e in
        let x = and_l (some_and (class_named (installed (store_limits s) es) self w.number) (λ d. is_some (record_of d))) _
        (all_mem (parent_exists (installed (store_limits s) es) self n) p (at_mem k.parents i w.number w.listed)) in
        let y = package_of_lem (package_numbered (installed (store_limits s) es) self w.number.pack) w.number.class x in
        let zp : b ≡ w.number.pack = zb ∙ w.pack in
        let zk : c ≡ w.number.class = zc ∙ w.class in
        record {
          number = w.number;
          listed = w.listed;
          pack = zp;
          class = zk;
          home = y.0;
          is = ap (package_numbered (installed (store_limits s) es) self)
              zp ∙ y.1;
          record' = y.2;
          there = ap (at y.0.pack.classes) zk ∙ y.3;
        }

    module _ (g : ParentsThere f s end) where
      one : Lists g.0 g.1 (own_at f s end n a q g.0 g.1 g.2.imported).0
      one = let y = own_at f s end n a q g.0 g.1 g.2.imported in lists g.0 g.1 g.2 y.0 y.1

      package_there : PackageThere f b
      package_there l p e =
          let d = number_below (installed (store_limits s) g.0) g.1 b one.home one.is in
          omega (arith, d, few l p e, few (store_limits s) g.1.pack g.2.imported.setting.reads)

      -- an own one has a smaller number
      own_smaller : b ≡ 0 → c < n
      own_smaller e =
          let y = own_at f s end n a q g.0 g.1 g.2.imported in
          let v = parent_smaller f s end g.0 g.1 g.2 (own_home end) g.1 homes.own n y.0 y.1 one.number
          (at_mem y.0.parents i one.number one.listed) (sym one.pack ∙ e) in
          omega (arith, v, one.class)

      parent_is : ParentIs f s end n i (home_of s end t b) c
      parent_is es self x k d = subst (λ (v : Installed). ParentAt f s end es self v k i (home_of s end t b) c) (sym e) here
        where
          e : x ≡ self
          e = own_same f s end es self (own_home end) x d.home refl

          here : ParentAt f s end es self self k i (home_of s end t b) c
          here =
              let l = lists es self d.parents k (ap (λ (v : Installed). at v.pack.classes n) (sym e) ∙ d.is) in
              let y = number_home f s end t u b package_there es self d.parents.imported in
              let v : y.0 ≡ l.home = some-injective _ _ (sym y.1 ∙ l.is) in
              let m : class_named (installed (store_limits s) es) self l.number ≡ some (own l.home c) =
              ap₂ (λ (o : Option Installed) (j : ℕ). o and_then λ w. some (own w j))
              (ap (package_numbered (installed (store_limits s) es) self) (sym l.pack) ∙ l.is) (sym l.class) in
              record {
                number = l.number;
                listed = l.listed;
                home = l.home;
                named = m;
                class = l.record';
                there = record
                    { parents = d.parents; home = subst (HomeIs f s end es self (home_of s end t b)) v y.2; is = l.there };
              }

      -- it is a class
      parent_class : ClassThere f s end (home_of s end t b) c
      parent_class =
          let y = own_at f s end n a q g.0 g.1 g.2.imported in
          let p = parent_is g.0 g.1 g.1 y.0 (record { parents = g.2; home = homes.own; is = y.1 }) in
          (g.0, g.1, p.home, p.class, p.there)

      pub listed : Listed f s end n i t b c
      listed = record { there = package_there; class = parent_class; smaller = own_smaller; is = parent_is }
