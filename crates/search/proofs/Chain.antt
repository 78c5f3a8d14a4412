-- The walk along the kind-0 parents of a class: start, turn and end; and both walks together. Assumes nothing.
use Rattle.std.specs.Prelude.{Some, None}
use Prim.Native.Nat.{ℕ, suc, ◌<◌}
use native.Mathlib.Omega.{arith}
use mathlib.Core.Path.{◌≡◌, refl, sym, ◌∙◌, ap, subst}
use mathlib.Core.Bool.{true, false}
use mathlib.Core.List.{List}
use mathlib.Core.Option.{Option, none, some}
use Rattle.std.specs.Prelude.{Option as Optional}
use Rattle.rules.specs.Bytes.{Bytes, at, or_else, ◌and_then◌}
use Rattle.rules.specs.Package.{Class}
use Rattle.rules.specs.Store.{Entry, store_limits}
use Rattle.rules.specs.Classes.{Installed, installed, ClassAt, kind0_parent, MethodAt, declared_at}
use Rattle.rules.proofs.Tests.{of_true}
use Rattle.rules.proofs.Lists.{some_is}
use Rattle.homes.specs.Homes.{HomeIs}
use Rattle.homes.specs.declared.Home.{Home}
use Rattle.classes.specs.Say.{Judged, OfClass, Kind0ParentIs, FoundBefore, rank}
use Rattle.classes.specs.declared.ClassSpot.{ClassSpot}
use Rattle.search.specs.Search.{DeclaredIs}
use Rattle.search.specs.Walk.{SpotThere, Seeking, above, along_up, itself, searched, MeantAt, MeantIs, DeclaredHere, DeclaresIs}
use Rattle.search.specs.declared.Declaration.{Declaration}
use Rattle.rules.proofs.Searched.{along_one, search_one}
use Rattle.search.proofs.Within.{class_depth}
use Rattle.search.proofs.Firsts.{first_there, second_there}
use Rattle.search.proofs.Steps.{none_itself}

-- what is sought along the kind-0 parents of class a is what is sought along those of class c, which is there
pub record Along (f s : Bytes) (end : ℕ) (a : ClassSpot) (n : ℕ) (g : Seeking) (es : List Entry) (self x : Installed) (c : ClassSpot) : Type 0 where
  pub pack : Installed
  pub home : HomeIs f s end es self c.home pack
  pub class : Class
  pub is : at pack.pack.classes c.number ≡ some class
  pub same : along_up g (installed (store_limits s) es) (store_limits s).depth n (record { home = x; number = a.number }) ≡ along_up g
      (installed (store_limits s) es) (store_limits s).depth n (record { home = pack; number = c.number })

abbrev pub AlongFrom : Bytes → Bytes → ℕ → ClassSpot → ℕ → Seeking → ClassSpot → Type 0
AlongFrom f s end a n g c = OfClass (Judged f s end) f s end a.home a.number λ es self x k. Along f s end a n g es self x c

-- the walk is at a class that is there, or is over, and what is sought is nothing
abbrev pub AlongTo : Bytes → Bytes → ℕ → ClassSpot → ℕ → Seeking → Optional ClassSpot → Type 0
AlongTo f s end a n g (Some c) = AlongFrom f s end a n g c × SpotThere f s end c
AlongTo f s end a n g None = MeantIs f s end a n (along_up g) none

-- how many turns are ahead at most
abbrev pub ahead : Optional ClassSpot → ℕ
ahead (Some c) = suc (rank c.home c.number)
ahead None = 0

pub ahead_less : (h : Home) (n : ℕ) (r : Optional ClassSpot) → FoundBefore h n r → ahead r < suc (rank h n)
ahead_less h n (Some c) z = omega arith
ahead_less h n None z = omega arith

-- the kind-0 parent is there
pub parent_there : (f s : Bytes) (end : ℕ) (c d : ClassSpot) → Kind0ParentIs f s c.home c.number (Some d) → SpotThere f s end c → SpotThere f s
    end d
parent_there f s end c d q t =
    let u = q end t.entries t.self t.asked t.pack t.home t.class t.is in
    record { entries = t.entries; self = t.self; asked = t.asked; pack = u.0; home = u.1; class = u.3; is = u.4 }

-- the class itself gives it
pub itself_there : (f s : Bytes) (end : ℕ) (c : ClassSpot) (n : ℕ) → DeclaresIs f s c n true → MeantIs f s end c n itself (some c)
itself_there f s end c n q es self j x o k e =
    let m = some_is (declared_at n (record { home = x; number = c.number })) (of_true (sym (q end es self j x o k e))) in
    (x, o, k, e, m.0, m.1, m.1)

pub itself_none : (f s : Bytes) (end : ℕ) (c : ClassSpot) (n : ℕ) → DeclaresIs f s c n false → MeantIs f s end c n itself none
itself_none f s end c n q = none_itself f s end c n q

module _ (f s : Bytes) (end : ℕ) (a : ClassSpot) (n : ℕ) (g : Seeking) where
  pub along_start : AlongFrom f s end a n g a
  along_start es self j x o k e = record { pack = x; home = o; class = k; is = e; same = refl }

  module _ (c : ClassSpot) (w : AlongFrom f s end a n g c) where
    -- what it gives first
    along_gives : (es : List Entry) (self : Installed) → Judged f s end es self → (x : Installed) → HomeIs f s end es self a.home x → (k : Class) →
        at x.pack.classes a.number ≡ some k → (t : Along f s end a n g es self x c) ×
        (along_up g (installed (store_limits s) es) (store_limits s).depth n (record { home = x; number = a.number }) ≡ or_else
        (g (installed (store_limits s) es) (store_limits s).depth n (record { home = t.pack; number = c.number }))
        (kind0_parent (installed (store_limits s) es) (record { home = t.pack; number = c.number }) and_then
        along_up g (installed (store_limits s) es) (store_limits s).depth n))
    along_gives es self j x o k e =
        let t = w es self j x o k e in
        let d = class_depth f s end es self j c.home t.pack t.home c.number t.class t.is in (
          t,
          t.same ∙ along_one (installed (store_limits s) es) (store_limits s).depth (record { home = t.pack; number = c.number }) d
              (g (installed (store_limits s) es) (store_limits s).depth n),
        )

    -- it gives something
    pub along_hit : (r : ClassSpot) → MeantIs f s end c n g (some r) → MeantIs f s end a n (along_up g) (some r)
    along_hit r m es self j x o k e =
        let u = along_gives es self j x o k e in
        let t = u.0 in
        let y = m es self j t.pack t.home t.class t.is in
        (y.0, y.1, y.2, y.3, y.4, u.1 ∙ first_there _ _ y.4 y.5, y.6)

    module _ (m : MeantIs f s end c n g none) where
      -- it gives nothing, and has no kind-0 parent
      pub along_none : Kind0ParentIs f s c.home c.number None → MeantIs f s end a n (along_up g) none
      along_none q es self j x o k e =
          let u = along_gives es self j x o k e in
          let t = u.0 in
          let up = q end es self j t.pack t.home t.class t.is in
          u.1 ∙ second_there _ _ (m es self j t.pack t.home t.class t.is) ∙ ap
          (λ (b : Option ClassAt). b and_then along_up g (installed (store_limits s) es) (store_limits s).depth n) up

      -- or has one
      pub along_more : (d : ClassSpot) → Kind0ParentIs f s c.home c.number (Some d) → AlongFrom f s end a n g d
      along_more d q es self j x o k e =
          let u = along_gives es self j x o k e in
          let t = u.0 in
          let up = q end es self j t.pack t.home t.class t.is in
          record {
            pack = up.0;
            home = up.1;
            class = up.3;
            is = up.4;
            same = u.1 ∙ second_there _ _ (m es self j t.pack t.home t.class t.is) ∙ ap
                (λ (b : Option ClassAt). b and_then along_up g (installed (store_limits s) es) (store_limits s).depth n) up.2;
          }

      -- either way
      pub along_turn : SpotThere f s end c → (r : Optional ClassSpot) → Kind0ParentIs f s c.home c.number r → AlongTo f s end a n g r
      along_turn t (Some d) q = (along_more d q, parent_there f s end c d q t)
      along_turn t None q = along_none q

-- the class told is there
pub meant_there : (f s : Bytes) (end : ℕ) (c d : ClassSpot) (n : ℕ) (g : Seeking) → MeantIs f s end c n g (some d) → SpotThere f s end c → SpotThere f s end d
meant_there f s end c d n g m t =
    let u = m t.entries t.self t.asked t.pack t.home t.class t.is in
    record { entries = t.entries; self = t.self; asked = t.asked; pack = u.0; home = u.1; class = u.2; is = u.3 }

module _ (f s : Bytes) (end : ℕ) (c : ClassSpot) (n : ℕ) where
  -- a member of the chain declares the name
  pub searched_chain : (d : ClassSpot) → MeantIs f s end c n (along_up itself) (some d) → MeantIs f s end c n searched (some d)
  searched_chain d m es self j x o k e =
      let y = m es self j x o k e in (
        y.0,
        y.1,
        y.2,
        y.3,
        y.4,
        search_one (installed (store_limits s) es) (store_limits s).depth (record { home = x; number = c.number }) n ∙ first_there _ _
            y.4 y.5,
        y.6,
      )

  -- none does
  pub searched_above : MeantIs f s end c n (along_up itself) none → (r : Option ClassSpot) → MeantIs f s end c n (along_up above) r → MeantIs f s end c n
      searched r
  searched_above m r p es self j x o k e = subst (λ (a : Option MethodAt). MeantAt f s end es self n a r)
      (sym (search_one (installed (store_limits s) es) (store_limits s).depth (record { home = x; number = c.number }) n ∙ second_there _ _
      (m es self j x o k e))) (p es self j x o k e)

  -- the declaration of the class told is the one that is meant
  pub declared_meant : (d : ClassSpot) (r : Optional Declaration) → MeantIs f s end c n searched (some d) → DeclaredHere f s d n r → OfClass (Judged f s end) f s end
      c.home c.number λ es self x k. DeclaredIs f s end es self
      (searched (installed (store_limits s) es) (store_limits s).depth n (record { home = x; number = c.number })) r
  declared_meant d r m q es self j x o k e =
      let y = m es self j x o k e in
      subst (λ (a : Option MethodAt). DeclaredIs f s end es self a r) (y.6 ∙ sym y.5) (q end es self j y.0 y.1 y.2 y.3)
