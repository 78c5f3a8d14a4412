-- How a part of a chain is found: start, turn and end of the loop. Assumes nothing.
use Rattle.std.specs.Prelude.{Some}
use Rattle.std.specs.Prelude.{Option as Optional}
use Prim.Native.Nat.{ℕ, zero, suc, ◌+◌, ◌*◌, ◌≤◌, ◌<◌}
use native.Mathlib.Omega.{arith}
use mathlib.Core.Path.{◌≡◌, refl, sym, ◌∙◌, ap, subst}
use mathlib.Core.List.{List}
use mathlib.Core.Logic.{inl, inr}
use lib.ListN.{length, get_or}
use Rattle.rules.specs.Bytes.{Bytes}
use Rattle.rules.specs.Classes.{installed, depth_up_to}
use Rattle.rules.proofs.Bounds.{parent_depth, kind0_parent_lem}
use Rattle.store.proofs.Stand.{entries_to}
use Rattle.rules.specs.Store.{first_entry, store_limits}
use Rattle.homes.specs.declared.Home.{Home}
use Rattle.homes.proofs.Homes.{home_bounds, home_below}
use Rattle.classes.specs.Say.{Judged, ClassIn, ClassThere, Nearer, Kind0ParentIs, RecordAt}
use Rattle.classes.specs.declared.ClassSpot.{ClassSpot}
use Rattle.classes.proofs.Places.{class_at}
use Rattle.classes.proofs.Apart.{Apart, same, earlier, enters, parent_apart}
use Rattle.chains.specs.Chain.{most_links, all_links, names_start, link_home, link_place, with_link, LinkIs, Steps, Leaves, Part, last, more, Same, PartRoom, PartIs}
use Rattle.chains.proofs.Links.{link_size, set_home, set_place, link_below, link_above, link_same, file_held}

module _ (f s : Bytes) where
  -- the class above a class, which is its kind-0 parent
  unfoldable pub above_in : (end : ℕ) (h : Home) (n : ℕ) (d : ClassSpot) → Kind0ParentIs f s h n (Some d) → ClassIn (Judged f s end) f s end h n →
      ClassIn (Judged f s end) f s end d.home d.number
  above_in end h n d q c =
      let u = q end c.entries c.self c.asked c.pack c.home c.class c.is in
      record { entries = c.entries; self = c.self; asked = c.asked; pack = u.0; home = u.1; class = u.3; is = u.4 }

  module _ (end i top : ℕ) (h : Home) (n : ℕ) (room : PartRoom f s end i top h n) where
    pub room_there : ClassThere f s h n
    room_there = (end, room.class)

    -- the class's home stands where the entries end, or before
    pub room_below : h.before ≤ end
    room_below = let c = room.class in home_below f s end c.entries c.self c.asked.parents.imported.setting h c.pack c.home

    pub room_inside : i < top
    room_inside = omega (arith, room.room, room.within)

    pub room_above : (d : ClassSpot) → Kind0ParentIs f s h n (Some d) → PartRoom f s end (i + 1) top d.home d.number
    unfolding above_in
    room_above d q = go room.depth room.room room.within
      where
        go : (k : ℕ) → i + k ≤ top → depth_up_to (installed (store_limits s) room.class.entries) (suc k)
            (record { home = room.class.pack; number = n }) ≤ k → PartRoom f s end (i + 1) top d.home d.number
        go zero a w = absurd (omega (arith, w))
        go (suc k) a w =
            let c = room.class in
            let u = q end c.entries c.self c.asked c.pack c.home c.class c.is in
            record {
              class = above_in end h n d q c;
              depth = k;
              room = omega arith;
              within = parent_depth (installed (store_limits s) c.entries) k (record { home = c.pack; number = n })
                  (record { home = u.0; number = d.number }) w
                  (kind0_parent_lem (installed (store_limits s) c.entries) (record { home = c.pack; number = n })
                  (record { home = u.0; number = d.number }) u.2);
            }

    -- the numbers of its link fit
    room_bounds : (h.from ≤ h.to) × (h.to ≤ length s)
    room_bounds = let c = room.class in home_bounds f s end c.entries c.self h c.pack c.home

    pub link_fits : length f ≤ 65535 → length s ≤ 65535 → (r : ℕ) → RecordAt f s h n r → (h.from ≤ 65535) × (h.to ≤ 65535) × (h.before ≤ 65535) × (r ≤ 65535)
    link_fits u w r p =
        let c = room.class in
        let b = room_bounds in
        let x = entries_to s (first_entry s) c.entries end c.asked.parents.imported.setting.stand in
        let y = (class_at f s h n r p end c.entries c.self c.asked c.pack c.home c.class c.is).1 in
        let t = file_held f s h b u w in
        (omega (arith, b.0, b.1), omega (arith, b.1), omega (arith, room_below, x.1), omega (arith, y.from, t.inside, t.short))

    -- the class that follows
    module _ (d : ClassSpot) (q : Kind0ParentIs f s h n (Some d)) (z : Nearer h d.home) where
      apart : Apart h d.home
      apart = parent_apart f s end h n d room.class q z

      above_bounds : (d.home.from ≤ d.home.to) × (d.home.to ≤ length s)
      unfolding above_in
      above_bounds = let c = above_in end h n d q room.class in home_bounds f s end c.entries c.self d.home c.pack c.home

      pub steps : d.home.from ≤ h.from → Steps h d.home
      steps less = go apart
        where
          go : Apart h d.home → Steps h d.home
          go (same e) = inl e
          go (earlier a b) = inr (a, b)
          go (enters a b) = absurd (omega arith)

      pub leaves : h.from < d.home.from → Leaves h (Some d)
      leaves less = go apart
        where
          go : Apart h d.home → Leaves h (Some d)
          go (same e) = let z : d.home.from ≡ h.from = ap (λ (a : Home). a.from) e in absurd (omega arith)
          go (earlier a b) = absurd (omega (arith, above_bounds.0))
          go (enters a b) = (a, b)

-- the loop: the classes so far stand before link k, and class n at home h is the next
pub record Finding (f s : Bytes) (end : ℕ) (l m : List ℕ) (c : ClassSpot) (i k : ℕ) (h : Home) (n : ℕ) : Type 0 where
  pub room : PartRoom f s end k (i + most_links) h n
  pub size : length m ≡ length l
  pub start : i ≤ k
  pub below : Same l m 0 (4 * i)
  pub above : (x : ℕ) → 4 * (i + most_links) ≤ x → get_or m x 0 ≡ get_or l x 0
  pub grow : (m' : List ℕ) → Same m m' (4 * i) (4 * k) → (j : ℕ) (stop : Optional ClassSpot) → Part f s m' h n k j stop → Part f s m' c.home c.number i j stop

module _ (f s : Bytes) (end : ℕ) (l : List ℕ) (c : ClassSpot) (i : ℕ) where
  pub finding_start : PartRoom f s end i (i + most_links) c.home c.number → Finding f s end l l c i i c.home c.number
  finding_start room = record { room = room; size = refl; start = omega arith; below = λ k a b. refl; above = λ k a. refl; grow = λ m k j stop p. p }

  module _ (m : List ℕ) (k : ℕ) (h : Home) (n : ℕ) (inv : Finding f s end l m c i k h n) (small : i ≤ most_links) (size : names_start ≤ length l) where
    pub finding_inside : k < all_links
    finding_inside = omega (arith, room_inside f s end k (i + most_links) h n inv.room)

    pub finding_size : names_start ≤ length m
    finding_size = omega (arith, inv.size)

    -- a link is written
    module _ (r : ℕ) (p : RecordAt f s h n r) (m' : List ℕ) (e : m' ≡ with_link m k h r) where
      written_link : LinkIs f s m' h n k
      written_link = record {
        home = ap (λ (v : List ℕ). link_home v k) e ∙ set_home m k h r finding_inside finding_size;
        place = subst (RecordAt f s h n) (sym (ap (λ (v : List ℕ). link_place v k) e ∙ set_place m k h r finding_inside finding_size)) p;
      }

      pub written_size : length m' ≡ length l
      written_size = ap length e ∙ link_size m k h r finding_inside finding_size ∙ inv.size

      kept : (x : ℕ) → x < 4 * k → get_or m' x 0 ≡ get_or m x 0
      kept x b = ap (λ (v : List ℕ). get_or v x 0) e ∙ link_below m k h r finding_inside finding_size x b

      beyond : (x : ℕ) → 4 * k + 4 ≤ x → get_or m' x 0 ≡ get_or m x 0
      beyond x b = ap (λ (v : List ℕ). get_or v x 0) e ∙ link_above m k h r finding_inside finding_size x b

      written_below : Same l m' 0 (4 * i)
      written_below x a b = kept x (omega (arith, inv.start)) ∙ inv.below x a b

      written_above : (x : ℕ) → 4 * (i + most_links) ≤ x → get_or m' x 0 ≡ get_or l x 0
      written_above x a = beyond x (omega (arith, room_inside f s end k (i + most_links) h n inv.room)) ∙ inv.above x a

      -- the part ends here
      pub finding_last : (stop : Optional ClassSpot) → Kind0ParentIs f s h n stop → Leaves h stop → PartIs f s l m' c i (k + 1) stop
      finding_last stop q v = record {
        size = written_size;
        part = inv.grow m' (λ x a b. kept x b) (k + 1) stop (last written_link q v refl);
        few = omega (arith, room_inside f s end k (i + most_links) h n inv.room);
        below = written_below;
        above = written_above;
      }

      -- or goes on
      pub finding_more : (d : ClassSpot) → Kind0ParentIs f s h n (Some d) → Nearer h d.home → d.home.from ≤ h.from → Finding f s end l m' c i
          (k + 1) d.home d.number
      finding_more d q z less = record {
        room = room_above f s end k (i + most_links) h n inv.room d q;
        size = written_size;
        start = omega (arith, inv.start);
        below = written_below;
        above = written_above;
        grow = λ m'' u j stop p. inv.grow m'' (λ x a b. u x a (omega arith) ∙ kept x b) j stop
            (more d (link_same f s h n k m' m'' (λ x a b. u x (omega (arith, inv.start)) b) written_link) q
            (steps f s end k (i + most_links) h n inv.room d q z less) p);
      }

      pub finding_leaves : (d : ClassSpot) → Kind0ParentIs f s h n (Some d) → Nearer h d.home → h.from < d.home.from → PartIs f s l m' c i
          (k + 1) (Some d)
      finding_leaves d q z less = finding_last (Some d) q (leaves f s end k (i + most_links) h n inv.room d q z less)
