-- A class that is visited, where it stands: its record, its parents. Assumes nothing.
use Rattle.std.specs.Prelude.{Some}
use Prim.Native.Nat.{ℕ, ◌≤◌, ◌<◌}
use native.Mathlib.Omega.{arith}
use mathlib.Core.Bool.{Bool}
use mathlib.Core.Path.{◌≡◌, refl, sym, ◌∙◌, ap, subst}
use lib.ListN.{length, drop, get_or}
use Rattle.rules.specs.Bytes.{Bytes}
use Rattle.rules.specs.Store.{first_entry, store_limits}
use Rattle.store.proofs.Stand.{entries_to}
use Rattle.files.specs.Say.{Readable}
use Rattle.files.specs.Say as say
use Rattle.homes.specs.Homes.{file_of, HomeThere, RecordIs}
use Rattle.homes.specs.declared.Home.{Home}
use Rattle.homes.proofs.Homes.{home_bounds, home_below}
use Rattle.named.proofs.Rows.{file_size}
use Rattle.classes.specs.Say.{ClassThere, ParentThere, ParentIs, RecordAt}
use Rattle.classes.specs.declared.ClassSpot.{ClassSpot}
use Rattle.classes.proofs.Records.{home_there, at_split}
use Rattle.classes.proofs.Places.{there_bounds, class_there}
use Rattle.chains.specs.declared.Names.{Names}
use Rattle.chains.proofs.Links.{file_held}
use Rattle.slots.specs.Slots.{SmallHome}
use Rattle.running.specs.Say.{WalkThere, MethodsPass}
use Rattle.running.specs.Walk.{visit_home, visit_names, VisitThere, VisitPlaced, PlacedIs, at_place, ParentPlaced}
use Rattle.running.specs.declared.visited.Visit.{Visit}
use Rattle.running.proofs.Loops.{walk_class}

-- the home's places fit two bytes
walk_small : (f s : Bytes) (end d b : ℕ) (h : Home) (n : ℕ) → WalkThere f s end d b h n → length s ≤ 65535 → SmallHome h
walk_small f s end d b h n t z =
    let g = t.asked.running.judged.parents.imported.setting in
    let w = home_bounds f s end t.entries t.self h t.pack t.home in
    let e = (entries_to s (first_entry s) t.entries end g.stand).1 in
    let l = home_below f s end t.entries t.self g h t.pack t.home in
    record { from = omega (arith, w.0, w.1); to = omega (arith, w.1); before = omega (arith, l, e) }

module _ (f s : Bytes) (v : Visit) where
  pub visit_class : VisitThere f s v → ClassThere f s (visit_home v) v.number
  visit_class t = walk_class f s v.end v.domain v.own (visit_home v) v.number t

  pub visit_home_lem : VisitThere f s v → HomeThere f s (visit_home v)
  visit_home_lem t = home_there f s (visit_home v) v.number (visit_class t)

  pub visit_bounds : VisitThere f s v → (v.from ≤ v.to) × (v.to ≤ length s)
  visit_bounds t = there_bounds f s (visit_home v) v.number (visit_class t)

  pub visit_below : VisitThere f s v → v.before ≤ v.end
  visit_below t = home_below f s v.end t.entries t.self t.asked.running.judged.parents.imported.setting (visit_home v) t.pack t.home

  pub visit_small : VisitThere f s v → length s ≤ 65535 → SmallHome (visit_home v)
  visit_small t z = walk_small f s v.end v.domain v.own (visit_home v) v.number t z

  -- and so does the place of its record
  pub place_small : (i : ℕ) → RecordAt f s (visit_home v) v.number i → VisitThere f s v → length s ≤ 65535 → get_or f 5 0 < 256 → get_or f 6 0 < 256 → i ≤ 65535
  place_small i p t z a b =
      let y = class_there f s (visit_home v) v.number (file_of f s (visit_home v)) i refl p (visit_class t) in
      let r : Readable f = (store_limits s, t.self.pack, t.asked.running.judged.parents.imported.setting.reads) in
      let u : length f ≤ 65535 = omega (arith, (file_size f r).1) in
      let g = file_held f s (visit_home v) (visit_bounds t) u z in
      let w = y.2.2 in
      omega (arith, w.from, g.inside, g.short)

  -- the visit with its slot and place
  pub visit_placed : VisitThere f s v → (w : Visit) → PlacedIs f s v w → VisitPlaced f s w
  visit_placed t w p =
      let u : VisitPlaced f s (at_place v w.slot w.place) = record { there = t; place = p.1; slot = p.2 } in
      subst (VisitPlaced f s) (sym p.0) u

  module _ (p : VisitPlaced f s v) (g : Bytes) (e : g ≡ file_of f s (visit_home v)) where
    -- its record
    pub record_there : say.ClassThere g v.place
    record_there = class_there f s (visit_home v) v.number g v.place e p.place (visit_class p.there)

    pub record_inside : v.place ≤ length g
    record_inside = let y = record_there.2.2 in y.from

    pub record_part : (r : Bytes) → r ≡ drop v.place g → RecordIs f s (visit_home v) v.number r
    record_part r z end es self m x o = (Some v.place, p.place end es self m x o, z ∙ ap (drop v.place) e)

  -- by the names and the home that stand for it
  module _ (w : Names) (h : Home) (a : w ≡ visit_names v) (b : h ≡ visit_home v) where
    pub told_there : VisitThere f s v → WalkThere f s w.end v.domain w.own h v.number
    told_there t =
        subst (λ (g : Home). WalkThere f s w.end v.domain w.own g v.number) (sym b)
        (subst (λ (u : Names). WalkThere f s u.end v.domain u.own (visit_home v) v.number) (sym a) t)

    pub told_place : VisitPlaced f s v → RecordAt f s h v.number v.place
    told_place p = subst (λ (g : Home). RecordAt f s g v.number v.place) (sym b) p.place

    pub told_pass : (r : Bool) → MethodsPass f s w.end v.domain w.own h v.number r →
        MethodsPass f s v.end v.domain v.own (visit_home v) v.number r
    told_pass r m =
        subst (λ (g : Home). MethodsPass f s v.end v.domain v.own g v.number r) b
        (subst (λ (u : Names). MethodsPass f s u.end v.domain u.own h v.number r) a m)

  -- parent i
  unfoldable pub placed_parent : (i : ℕ) → ParentPlaced f s v i → ParentThere f s (visit_home v) v.number i
  unfolding walk_class
  placed_parent i t = record { class = walk_class f s v.end v.domain v.own (visit_home v) v.number t.class.there; inside = t.inside }

  -- its home
  pub parent_small : (i : ℕ) → ParentPlaced f s v i → length s ≤ 65535 → (c : ClassSpot) → ParentIs f s (visit_home v) v.number i c → SmallHome c.home
  parent_small i t z c p =
      let u = t.class.there in
      let m = at_split u.class.parents i t.inside in
      let w = (p v.end u.entries u.self u.asked.running.judged u.pack u.home u.class u.is m.0 m.1).0 in
      let there : WalkThere f s v.end v.domain v.own c.home c.number =
      record { entries = u.entries; self = u.self; asked = u.asked; pack = w.pack; home = w.home; class = w.class; is = w.is } in
      walk_small f s v.end v.domain v.own c.home c.number there z
