-- The walk over the interfaces of a class: start, turn and end, and the class itself before them. Assumes nothing.
use Prim.Native.Nat.{ℕ, suc, ◌+◌, ◌≤◌, ◌<◌}
use native.Mathlib.Omega.{arith}
use native.Mathlib.Numerals.{add-one}
use mathlib.Core.Path.{◌≡◌, refl, sym, ◌∙◌, ap, subst}
use mathlib.Core.Bool.{Bool, true, false}
use mathlib.Core.List.{List, []}
use mathlib.Core.Option.{Option, none, some}
use lib.ListN.{drop, drop_of_length-le}
use Rattle.rules.specs.Bytes.{Bytes, pick, at, is_some, or_else, keep, first_of, list_of}
use Rattle.rules.specs.Package.{ClassNumber, Class}
use Rattle.rules.specs.Store.{Entry, store_limits}
use Rattle.rules.specs.Classes.{Installed, installed, parents_named, is_interface, MethodAt, declared_at}
use Rattle.rules.proofs.Tests.{of_true}
use Rattle.rules.proofs.Lists.{some_is}
use Rattle.homes.specs.Homes.{HomeIs}
use Rattle.classes.specs.Say.{Judged, OfClass, CountIs, rank, ParentIs, Kind0Is}
use Rattle.classes.specs.declared.ClassSpot.{ClassSpot}
use Rattle.classes.proofs.Records.{at_split}
use Rattle.search.specs.Walk.{SpotThere, above, whole, MeantAt, MeantIs, DeclaresIs}
use Rattle.rules.proofs.Searched.{above_one}
use Rattle.search.proofs.Firsts.{first_there, second_there, none_there, interface_is, first_named}
use Rattle.search.proofs.Within.{class_depth}

-- of the interfaces among the parents from i on, and theirs, the first gives what the class's interfaces give
abbrev pub AboveFrom : Bytes → Bytes → ℕ → ClassSpot → ℕ → ℕ → Type 0
AboveFrom f s end c n i = OfClass (Judged f s end) f s end c.home c.number λ es self x k.
    above (installed (store_limits s) es) (store_limits s).depth n (record { home = x; number = c.number }) ≡ first_of
    (whole (installed (store_limits s) es) (store_limits s).depth n)
    (keep is_interface (parents_named (installed (store_limits s) es) x (drop i k.parents)))

module _ (f s : Bytes) (end : ℕ) (c : ClassSpot) (n : ℕ) where
  -- the class itself declares the name
  pub whole_itself : DeclaresIs f s c n true → MeantIs f s end c n whole (some c)
  whole_itself q es self j x o k e =
      let m = some_is (declared_at n (record { home = x; number = c.number })) (of_true (sym (q end es self j x o k e))) in
      (x, o, k, e, m.0, first_there _ _ m.0 m.1, m.1)

  -- or does not
  pub none_itself : DeclaresIs f s c n false → (es : List Entry) (self : Installed) → Judged f s end es self → (x : Installed) → HomeIs f s end es self
      c.home x → (k : Class) → at x.pack.classes c.number ≡ some k → declared_at n (record { home = x; number = c.number }) ≡ none
  none_itself q es self j x o k e = go (declared_at n (record { home = x; number = c.number })) (q end es self j x o k e)
    where
      go : (o : Option MethodAt) → false ≡ is_some o → o ≡ none
      go none w = refl
      go (some m) w = let z : ◌≡◌ {A = ℕ} 0 1 = cc in absurd (omega arith)

  pub whole_above : DeclaresIs f s c n false → (r : Option ClassSpot) → MeantIs f s end c n above r → MeantIs f s end c n whole r
  whole_above q r m es self j x o k e = subst (λ (a : Option MethodAt). MeantAt f s end es self n a r)
      (sym (second_there (declared_at n (record { home = x; number = c.number })) _ (none_itself q es self j x o k e))) (m es self j x o k e)

  -- the parents that are interfaces: none was asked so far
  pub above_start : AboveFrom f s end c n 0
  above_start es self j x o k e =
      let d = class_depth f s end es self j c.home x o c.number k e in
      above_one (installed (store_limits s) es) (store_limits s).depth (record { home = x; number = c.number }) d n ∙ ap
      (λ (r : Option Class). first_of (whole (installed (store_limits s) es) (store_limits s).depth n) (keep is_interface
      (list_of r (λ k. parents_named (installed (store_limits s) es) x k.parents)))) e

  -- all were
  pub above_none : (count i : ℕ) → CountIs f s c.home c.number count → count ≤ i → AboveFrom f s end c n i → MeantIs f s end c n above none
  above_none count i q z w es self j x o k e =
      let d : drop i k.parents ≡ [] = drop_of_length-le k.parents {i = i} (omega (arith, q end es self j x o k e)) in
      w es self j x o k e ∙ ap (λ (ps : List ClassNumber). first_of (whole (installed (store_limits s) es) (store_limits s).depth n)
      (keep is_interface (parents_named (installed (store_limits s) es) x ps))) d

  -- parent i
  module _ (count i : ℕ) (q : CountIs f s c.home c.number count) (z : i < count) (d : ClassSpot) (p : ParentIs f s c.home c.number i d) where
    pub parent_there : SpotThere f s end c → SpotThere f s end d
    parent_there t =
        let m = at_split t.class.parents i (omega (arith, q end t.entries t.self t.asked t.pack t.home t.class t.is)) in
        let w = (p end t.entries t.self t.asked t.pack t.home t.class t.is m.0 m.1).0 in
        record { entries = t.entries; self = t.self; asked = t.asked; pack = w.pack; home = w.home; class = w.class; is = w.is }

    pub parent_rank : SpotThere f s end c → rank d.home d.number < rank c.home c.number
    parent_rank t =
        let m = at_split t.class.parents i (omega (arith, q end t.entries t.self t.asked t.pack t.home t.class t.is)) in
        (p end t.entries t.self t.asked t.pack t.home t.class t.is m.0 m.1).1

    module _ (w : AboveFrom f s end c n i) where
      -- what it gives where it lies in package y, and what those behind it give
      abbrev gives : List Entry → Installed → Option MethodAt
      gives es y = whole (installed (store_limits s) es) (store_limits s).depth n (record { home = y; number = d.number })

      abbrev behind : List Entry → Installed → Class → Option MethodAt
      behind es x k = first_of (whole (installed (store_limits s) es) (store_limits s).depth n)
          (keep is_interface (parents_named (installed (store_limits s) es) x (drop (suc i) k.parents)))

      -- what it gives, with those behind it
      parent_gives : (es : List Entry) (self : Installed) → Judged f s end es self → (x : Installed) → HomeIs f s end es self c.home x → (k : Class) →
          at x.pack.classes c.number ≡ some k → (y : Installed) × HomeIs f s end es self d.home y × (l : Class) ×
          (at y.pack.classes d.number ≡ some l) ×
          (above (installed (store_limits s) es) (store_limits s).depth n (record { home = x; number = c.number }) ≡ pick
          (is_interface (record { home = y; number = d.number })) (or_else (gives es y) (behind es x k)) (behind es x k))
      parent_gives es self j x o k e =
          let m = at_split k.parents i (omega (arith, q end es self j x o k e)) in
          let u = (p end es self j x o k e m.0 m.1).0 in
          let is = installed (store_limits s) es in (
            u.pack,
            u.home,
            u.class,
            u.is,
            w es self j x o k e ∙ ap (λ (ps : List ClassNumber). first_of (whole is (store_limits s).depth n) (keep is_interface (parents_named is x ps))) m.2 ∙
                first_named is x m.0 (drop (suc i) k.parents) (record { home = u.pack; number = d.number }) _ (whole is (store_limits s).depth n)
                u.named refl,
          )

      -- it is not an interface
      pub above_kind0 : Kind0Is f s d.home d.number true → AboveFrom f s end c n (i + 1)
      above_kind0 v es self j x o k e =
          let u = parent_gives es self j x o k e in
          let kind = interface_is (record { home = u.0; number = d.number }) u.2 u.3 true (v end es self j u.0 u.1 u.2 u.3) in
          rw (add-one i) (u.4 ∙ ap (λ (b : Bool). pick b (or_else (gives es u.0) (behind es x k)) (behind es x k)) kind)

      -- whatever it is, it leads to none
      pub above_miss : MeantIs f s end d n whole none → AboveFrom f s end c n (i + 1)
      above_miss m es self j x o k e =
          let u = parent_gives es self j x o k e in
          rw (add-one i) (u.4 ∙ none_there (is_interface (record { home = u.0; number = d.number })) (gives es u.0) (behind es x k)
          (m es self j u.0 u.1 u.2 u.3))

      -- it is an interface, and leads to a class that declares the name
      pub above_hit : Kind0Is f s d.home d.number false → (r : ClassSpot) → MeantIs f s end d n whole (some r) → MeantIs f s end c n above (some r)
      above_hit v r m es self j x o k e =
          let u = parent_gives es self j x o k e in
          let t = m es self j u.0 u.1 u.2 u.3 in
          let kind = interface_is (record { home = u.0; number = d.number }) u.2 u.3 false (v end es self j u.0 u.1 u.2 u.3) in
          let first = ap (λ (b : Bool). pick b (or_else (gives es u.0) (behind es x k)) (behind es x k)) kind ∙ first_there _ _ t.4 t.5 in
          (t.0, t.1, t.2, t.3, t.4, u.4 ∙ first, t.6)
