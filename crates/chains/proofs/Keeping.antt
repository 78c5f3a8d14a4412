-- The names of stored classes are kept from one own class to the next; all names of an own class. Assumes nothing.
use Rattle.std.specs.Prelude.{Some, None}
use Rattle.std.specs.Prelude.{Option as Optional}
use Prim.Native.Nat.{ℕ, ◌+◌, ◌-◌, ◌*◌, ◌≤◌, ◌<◌}
use native.Mathlib.Omega.{arith}
use mathlib.Core.Path.{◌≡◌, refl, sym, ◌∙◌, ap, subst}
use mathlib.Core.List.{List}
use mathlib.Core.Logic.{inl, inr}
use mathlib.Core.Bool.{false}
use lib.Dec.{eqb}
use lib.ListN.{length}
use borrow.Author.Tests.{ne_eqb}
use Rattle.rules.specs.Bytes.{Bytes}
use Rattle.rules.specs.Store.{store_limits}
use Rattle.rules.proofs.Limits.{limits_range_lem}
use Rattle.homes.specs.Homes.{own_home}
use Rattle.homes.specs.declared.Home.{Home}
use Rattle.classes.specs.declared.ClassSpot.{ClassSpot}
use Rattle.methods.specs.Table.{Has}
use Rattle.chains.specs.Chain.{most_links, names_start, link_home, Steps, Leaves, Part, last, more, Same, PartRoom, PartIs}
use Rattle.chains.specs.Names.{first_link, HomeFor, Gathered, GatheredAll, KeptFor, Kept, Room, PartThere}
use Rattle.chains.specs.declared.Names.{Names}
use Rattle.chains.proofs.Links.{home_of_lem}
use Rattle.chains.proofs.Parts.{room_above, room_inside, room_there}

-- homes of links that stand as they stood
home_kept : (l m : List ℕ) (i x y : ℕ) → Same l m x y → x ≤ 4 * i → 4 * i + 2 < y → link_home m i ≡ link_home l i
home_kept l m i x y k a b = home_of_lem (link_home l i) _ _ _ (k (4 * i) a (omega arith)) (k (4 * i + 1) (omega arith) (omega arith))
    (k (4 * i + 2) (omega arith) (omega arith))

module _ (f s : Bytes) where
  -- names that stand as they stood, with the links of their part
  module _ (l m : List ℕ) (h : Home) (n : ℕ) (stop : Optional ClassSpot) (a e : ℕ) (links : Same l m (4 * first_link h) (4 * (first_link h + most_links)))
      (names : Same l m a e) (size : length m ≡ length l) where
    has_same : (q : ℕ) → Has m a e q → Has l a e q
    has_same q t = (t.0, t.1, t.2, sym (names t.0 t.1 t.2) ∙ t.3)

    has_back : (q : ℕ) → Has l a e q → Has m a e q
    has_back q t = (t.0, t.1, t.2, names t.0 t.1 t.2 ∙ t.3)

    home_same : (q : ℕ) (g : Home) → HomeFor l (first_link h) q g → HomeFor m (first_link h) q g
    home_same q g t = record {
      link = t.link;
      from = t.from;
      small = t.small;
      is = home_kept l m t.link _ _ links (omega (arith, t.from)) (omega (arith, t.small)) ∙ t.is;
      inside = t.inside;
      behind = λ j u v. let z = ap (λ (b : Home). b.from) (home_kept l m j _ _ links (omega arith) (omega (arith, t.small))) in omega
          (arith, z, t.behind j u v);
    }

    pub gathered_same : Gathered f s l h n stop a e → Gathered f s m h n stop a e
    gathered_same t = record {
      sorted = record {
        low = t.sorted.low;
        size = omega (arith, t.sorted.size);
        named = λ k u v. rw (names k u v) (t.sorted.named k u v);
        order = λ i j u v w. rw (names i u (omega arith), names j (omega arith) w) (t.sorted.order i j u v w);
      };
      hit = λ q has. let u = t.hit q (has_same q has) in (u.0, home_same q u.0 u.1, u.2);
      rest = λ x nl r u. t.rest x (λ q has z. nl q (has_back q has) z) r u;
    }

  -- a part in the store goes on to nothing
  pub part_stored : (l : List ℕ) (h : Home) (n i j : ℕ) (stop : Optional ClassSpot) → 0 < h.from → Part f s l h n i j stop → Part f s l h n i j None
  part_stored l h n i j (Some d) z (last t q v e) = absurd (omega (arith, v.0))
  part_stored l h n i j None z (last t q v e) = last t q v e
  part_stored l h n i j stop z (more d t q v p) = more d t q v (part_stored l d.home d.number (i + 1) j stop (next v) p)
    where
      next : Steps h d.home → 0 < d.home.from
      next (inl e) = let y : d.home.from ≡ h.from = ap (λ (b : Home). b.from) e in omega arith
      next (inr u) = u.0

  -- what follows own classes is stored
  pub part_leaves : (l : List ℕ) (h : Home) (n i j : ℕ) (stop : Optional ClassSpot) (end : ℕ) → Part f s l h n i j stop → Leaves (own_home end) stop
  part_leaves l h n i j (Some d) end (last t q v e) = (refl, v.1)
  part_leaves l h n i j None end (last t q v e) = tt {0}
  part_leaves l h n i j stop end (more d t q v p) = part_leaves l d.home d.number (i + 1) j stop end p

  -- a part leaves room for what follows it
  abbrev RoomLeft : ℕ → ℕ → ℕ → Optional ClassSpot → Type 0
  RoomLeft end j top (Some d) = PartRoom f s end j top d.home d.number
  RoomLeft end j top None = j ≤ top

  pub part_room : (l : List ℕ) (h : Home) (n i j : ℕ) (stop : Optional ClassSpot) (end top : ℕ) → Part f s l h n i j stop → PartRoom f s end i top h n → RoomLeft
      end j top stop
  part_room l h n i j (Some d) end top (last t q v e) room = subst (λ (k : ℕ). PartRoom f s end k top d.home d.number) (sym e)
      (room_above f s end i top h n room d q)
  part_room l h n i j None end top (last t q v e) room = let z = room_inside f s end i top h n room in omega arith
  part_room l h n i j stop end top (more d t q v p) room = part_room l d.home d.number (i + 1) j stop end top p (room_above f s end i top h n room d q)

  pub part_few : (l : List ℕ) (h : Home) (n i j : ℕ) (stop : Optional ClassSpot) (end top : ℕ) → Part f s l h n i j stop → PartRoom f s end i top h n → j ≤ top
  part_few l h n i j (Some d) end top p room = let z = room_inside f s end j top d.home d.number
      (part_room l h n i j (Some d) end top p room) in omega arith
  part_few l h n i j None end top p room = part_room l h n i j None end top p room

  pub room_more : (end i top i' top' : ℕ) (h : Home) (n : ℕ) → i' + top ≤ i + top' → PartRoom f s end i top h n → PartRoom f s end i' top' h n
  room_more end i top i' top' h n z r = record { class = r.class; depth = r.depth; room = omega (arith, r.room); within = r.within }

  pub link_stored : (h : Home) → 0 < h.from → first_link h ≡ 0
  link_stored h z = let y : eqb h.from 0 ≡ false = ne_eqb h.from 0 (λ x. omega arith) in rw y

  -- stored names
  module _ (end : ℕ) (d : ClassSpot) (stored : 0 < d.home.from) (room : PartRoom f s end 0 (store_limits s).depth d.home d.number) where
    pub stored_room : PartRoom f s end (first_link d.home) (first_link d.home + most_links) d.home d.number
    stored_room = room_more end 0 (store_limits s).depth (first_link d.home) (first_link d.home + most_links) d.home d.number
        (omega (arith, (limits_range_lem s).0)) room

    module _ (l m : List ℕ) (j : ℕ) (stop : Optional ClassSpot) (found : PartIs f s l m d (first_link d.home) j stop) where
      p : PartIs f s l m d 0 j stop
      p = subst (λ (i : ℕ). PartIs f s l m d i j stop) (link_stored d.home stored) found

      first : Part f s m d.home d.number (first_link d.home) j stop
      first = subst (λ (i : ℕ). Part f s m d.home d.number i j stop) (sym (link_stored d.home stored)) p.part

      pub stored_there : PartThere f s m d.home d.number j
      stored_there = (room_there f s end 0 (store_limits s).depth d.home d.number room, stop, first)

      few : j ≤ (store_limits s).depth
      few = part_few m d.home d.number 0 j stop end (store_limits s).depth p.part room

      pub stored_fits : Room f s l → (j ≤ first_link d.home + most_links) × (names_start ≤ names_start) ×
          (names_start + 64 * (j - first_link d.home) ≤ length m)
      stored_fits r = let z = link_stored d.home stored in (omega (arith, z, p.few), omega arith, omega (arith, z, few, r.size, p.size))

      module _ (m' : List ℕ) (e : ℕ) (g : GatheredAll f s m m' d.home d.number j names_start e) where
        pub stored_new : KeptFor f s m' d.home d.number e × Same l m' 64 names_start × (length m' ≡ length l)
        stored_new = (
          record {
            names = g.is None (part_stored m d.home d.number (first_link d.home) j stop stored first);
            few = λ end' es self asked x o k c top within.
                let r : PartRoom f s end' 0 top d.home d.number = record {
                  class = record { entries = es; self = self; asked = asked; pack = x; home = o; class = k; is = c };
                  depth = top;
                  room = omega arith;
                  within = within;
                } in
                let z = part_few m d.home d.number 0 j stop end' top p.part r in
                omega (arith, g.end, z, link_stored d.home stored);
          },
          λ k u v. g.below k (omega arith) v ∙ p.above k (omega arith),
          g.size ∙ p.size,
        )

  pub stored_kept : (l : List ℕ) (kept : Names) (d : ClassSpot) → Kept f s l kept → 0 < d.home.from → (d.home ≡ kept.home) ×
      (d.number ≡ kept.number) → KeptFor f s l d.home d.number kept.stored × Same l l 64 names_start × (length l ≡ length l)
  stored_kept l kept d k z e =
      let y : 0 < kept.home.from = let w = ap (λ (b : Home). b.from) e.0 in omega (arith, w) in (
        subst (λ (b : Home). KeptFor f s l b d.number kept.stored) (sym e.0)
            (subst (λ (b : ℕ). KeptFor f s l kept.home b kept.stored) (sym e.1) (k y)),
        λ x u v. refl,
        refl,
      )
