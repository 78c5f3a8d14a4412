-- Question 14's second and third part over the own classes, with the depth figure. Assumes nothing.
use Prim.Native.Nat.{ℕ, ◌+◌, ◌≤◌, ◌<◌, max}
use native.Mathlib.Omega.{arith}
use native.Mathlib.Numerals.{add-one}
use native.Mathlib.Decide.{dec_le}
use mathlib.Core.Path.{◌≡◌, refl, sym, ◌∙◌, ap, ap₂}
use mathlib.Core.Bool.{Bool, true, false, ◌&&◌}
use mathlib.Core.List.{List}
use mathlib.Core.Option.{none}
use lib.Dec.{leb, eqb}
use lib.ListN.{length, drop, get_or, set, length-set}
use lib.Seq.{get_or-set_same, get_or-set_other}
use borrow.Author.Tests.{le-leb, lt-leb, eqb-true, eqb-false}
use Rattle.rules.specs.Bytes.{Bytes, all, at}
use Rattle.rules.specs.Package.{most_classes, Class}
use Rattle.rules.specs.Store.{Entry, store_limits}
use Rattle.rules.specs.Classes.{Installed, installed}
use Rattle.rules.specs.Questions.{parent_kinds, depth_within}
use Rattle.rules.specs.Operations.{deepest_from}
use Rattle.rules.proofs.Tests.{none_some}
use Rattle.rules.proofs.Lists.{at_there, at_below}
use Rattle.places.proofs.Track.{placed_none}
use Rattle.files.specs.Say.{ClassPlaced}
use Rattle.homes.specs.Homes.{Parents, own_home}
use Rattle.homes.specs.Homes as homes
use Rattle.homes.proofs.Homes.{home_reads}
use Rattle.named.specs.Named.{ClassFrom}
use Rattle.depths.specs.Depths.{OfParents, ClassIs, KindsIs, DepthIs, OwnTo, OwnDepths, later_parts, LaterParts}
use Rattle.std.specs.Prelude.{Some, None}
use Rattle.depths.proofs.ByNumber.{drop_at, drop_none, all_from_lem, Left, left_more, left_bad, left_none}
use Rattle.depths.proofs.Exist.{own_at}

and_none : (b : Bool) → (b && false) ≡ false
and_none true = refl
and_none false = refl

module _ (f s : Bytes) (end : ℕ) where
  -- the kinds and the depths of the own classes from class n on are left
  abbrev pub KindsLeft : ℕ → Type 0
  KindsLeft n = OfParents f s end λ es self. Left (λ j k. parent_kinds (installed (store_limits s) es) self k) self.pack.classes n

  abbrev pub DepthsLeft : ℕ → ℕ → Type 0
  DepthsLeft n figure = OfParents f s end λ es self.
      Left (λ j k. depth_within (store_limits s) (installed (store_limits s) es) self j) self.pack.classes n
      × (deepest_from (store_limits s) (installed (store_limits s) es) self 0 self.pack.classes ≡ max figure
      (deepest_from (store_limits s) (installed (store_limits s) es) self n (drop n self.pack.classes)))

  pub kinds_start : KindsLeft 0
  kinds_start es self g = refl

  pub depths_start : DepthsLeft 0 0
  depths_start es self g = (refl, omega arith)

  -- own class n
  module _ (n a : ℕ) (h : ClassFrom f n a) where
    own_is : (es : List Entry) (self : Installed) → Parents f s end es self → (k : Class) × ClassIs f s end (own_home end) n es self self k
    own_is es self g = let y = own_at f s end n a h es self g.imported in (y.0, record { parents = g; home = homes.own; is = y.1 })

    pub kinds_next : KindsLeft n → KindsIs f s end (own_home end) n true → KindsLeft (n + 1)
    kinds_next t q es self g =
        let y = own_is es self g in
        left_more (λ j k. parent_kinds (installed (store_limits s) es) self k) self.pack.classes n y.0 y.1.is
        (sym (q es self self y.0 y.1)) (t es self g)

    pub kinds_bad : (ds : List ℕ) → KindsLeft n → KindsIs f s end (own_home end) n false → LaterParts f s end ds None
    kinds_bad ds t q es self g =
        let y = own_is es self g in
        let e = all_from_lem (parent_kinds (installed (store_limits s) es) self) 0 self.pack.classes ∙ left_bad
        (λ j k. parent_kinds (installed (store_limits s) es) self k) self.pack.classes n y.0 y.1.is (sym (q es self self y.0 y.1))
        (t es self g) in
        rw e

    module _ (figure : ℕ) (t : DepthsLeft n figure) (most : ℕ) (l : most ≡ (store_limits s).depth) (d : ℕ) (q : DepthIs f s end (own_home end) n d) where
      within_is : (b : Bool) → leb d most ≡ b → OfParents f s end λ es self. depth_within (store_limits s) (installed (store_limits s) es) self n ≡ b
      within_is b z es self g = let y = own_is es self g in ap₂ leb (sym (q es self self y.0 y.1)) (sym l) ∙ z

      pub depths_more : d ≤ most → (v : ℕ) → v ≡ max d figure → DepthsLeft (n + 1) v
      depths_more z v w es self g =
          let y = own_is es self g in
          let b = t es self g in
          let e = q es self self y.0 y.1 in
          let r = ap (deepest_from (store_limits s) (installed (store_limits s) es) self n) (drop_at self.pack.classes n y.0 y.1.is)
          ∙ ap₂ (λ (u : ℕ) (j : ℕ). max u (deepest_from (store_limits s) (installed (store_limits s) es) self j (drop (n + 1) self.pack.classes)))
          (sym e) (sym (add-one n)) in (
            left_more (λ j k. depth_within (store_limits s) (installed (store_limits s) es) self j) self.pack.classes n y.0 y.1.is
                (within_is true (le-leb d most z) es self g) b.0,
            omega (arith, b.1, r, w),
          )

      pub depths_bad : (ds : List ℕ) → most < d → LaterParts f s end ds None
      depths_bad ds z es self g =
          let y = own_is es self g in
          let e = left_bad (λ j k. depth_within (store_limits s) (installed (store_limits s) es) self j) self.pack.classes n y.0 y.1.is
          (within_is false (lt-leb d most z) es self g) (t es self g).0 in
          ap (λ (b : Bool). all (parent_kinds (installed (store_limits s) es) self) self.pack.classes && b) e ∙ and_none
          (all (parent_kinds (installed (store_limits s) es) self) self.pack.classes)

  -- the depths of the own classes below n
  pub own_start : (ds : List ℕ) → length ds ≡ most_classes → OwnTo f s end 0 ds
  own_start ds e = record { size = e; told = λ m h. absurd (omega arith) }

  pub own_more : (n d : ℕ) (ds : List ℕ) → n < most_classes → OwnTo f s end n ds → DepthIs f s end (own_home end) n d → OwnTo f s end (n + 1) (set ds n d)
  own_more n d ds h o q = record { size = simp length-set o.size; told = told }
    where
      told : (m : ℕ) → m < n + 1 → DepthIs f s end (own_home end) m (get_or (set ds n d) m 0)
      told m k = go (eqb m n) refl
        where
          go : (b : Bool) → eqb m n ≡ b → DepthIs f s end (own_home end) m (get_or (set ds n d) m 0)
          go true e = rw (eqb-true m n e, get_or-set_same ds n d 0 (omega (arith, h, o.size))) q
          go false e = let ne = eqb-false m n e in rw (get_or-set_other ds n m d 0 ne) (o.told m (omega (arith, k, ne)))

  module _ (n : ℕ) (over : ClassPlaced f n None) where
    pub own_all : (ds : List ℕ) → OwnTo f s end n ds → OwnDepths f s end ds
    own_all ds o m es self x k c =
        let r = home_reads f s end es self c.parents.imported.setting (own_home end) x c.home in
        let e = placed_none (over (store_limits s) x.pack r) in
        o.told m (below x.pack.classes e (at_below x.pack.classes m k c.is)) es self x k c
      where
        below : (xs : List Class) → at xs n ≡ none → m < length xs → m < n
        below xs e h = elim (dec_le n m) [
          | yes l ↦ let y = at_there xs n (omega arith) in absurd (none_some (sym e ∙ y.1))
          | no l ↦ omega arith
        ]

    pub later_done : (figure : ℕ) (ds : List ℕ) → KindsLeft n → DepthsLeft n figure → OwnTo f s end n ds → LaterParts f s end ds (Some figure)
    later_done figure ds t u o = (both, own_all ds o)
      where
        both : OfParents f s end λ es self. (later_parts s es self ≡ true) ×
            (figure ≡ deepest_from (store_limits s) (installed (store_limits s) es) self 0 self.pack.classes)
        both es self g =
            let e = placed_none (over (store_limits s) self.pack g.imported.setting.reads) in
            let b = u es self g in
            let r = ap (deepest_from (store_limits s) (installed (store_limits s) es) self n) (drop_none self.pack.classes n e) in
            let k = all_from_lem (parent_kinds (installed (store_limits s) es) self) 0 self.pack.classes ∙ left_none
            (λ j k. parent_kinds (installed (store_limits s) es) self k) self.pack.classes n e (t es self g) in
            let d = left_none (λ j k. depth_within (store_limits s) (installed (store_limits s) es) self j) self.pack.classes n e b.0 in
            (ap₂ ◌&&◌ k d, omega (arith, b.1, r))
