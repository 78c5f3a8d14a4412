-- All names of an own class: those of the stored classes of its chain, then those of the own ones. Assumes nothing.
use Rattle.std.specs.Prelude.{Some, None}
use Rattle.std.specs.Prelude.{Option as Optional}
use Prim.Native.Nat.{ℕ, ◌+◌, ◌-◌, ◌*◌, ◌≤◌, ◌<◌}
use native.Mathlib.Omega.{arith}
use mathlib.Core.Path.{◌≡◌, sym, ap, subst}
use mathlib.Core.List.{List}
use lib.ListN.{length}
use Rattle.rules.specs.Bytes.{Bytes}
use Rattle.rules.specs.Store.{store_limits}
use Rattle.rules.proofs.Limits.{limits_range_lem}
use Rattle.homes.specs.Homes.{own_home}
use Rattle.homes.specs.Homes as homes
use Rattle.homes.specs.declared.Home.{Home}
use Rattle.classes.specs.Say.{ClassThere}
use Rattle.classes.specs.declared.ClassSpot.{ClassSpot}
use Rattle.classes.proofs.Places.{own_depth}
use Rattle.chains.specs.Say.{RunningThere}
use Rattle.chains.specs.Chain.{most_links, names_start, Part, Same, PartRoom, PartIs}
use Rattle.chains.specs.Names.{first_link, Gathered, GatheredAll, names_length, names_of, NamesIs, KeptFor, Kept, AsStored, Room, PartThere}
use Rattle.chains.specs.declared.Names.{Names}
use Rattle.chains.proofs.Methods.{own_there, own_class}
use Rattle.chains.proofs.Links.{part_inside, part_same}
use Rattle.chains.proofs.Keeping.{gathered_same, part_leaves, part_room, part_few, room_more, link_stored}

module _ (f s : Bytes) where
  -- kept names, where the links from `16` on or the numbers behind them change
  kept_same : (l m : List ℕ) (h : Home) (n e : ℕ) → 0 < h.from → Same l m 0 64 → Same l m names_start e → length m ≡ length l → KeptFor f s l h n e →
      KeptFor f s m h n e
  kept_same l m h n e z low names size t =
      let y = link_stored f s h z in
      record {
        names = gathered_same f s l m h n None names_start e (λ k u v. low k (omega arith) (omega (arith, y))) names size t.names;
        few = t.few;
      }

  pub room_after : (l m : List ℕ) → length m ≡ length l → Room f s l → Room f s m
  room_after l m e r = record { size = omega (arith, e, r.size); file = r.file; store = r.store }

  -- names that are told by their numbers
  pub names_told : (l : List ℕ) (end b to all : ℕ) (c : ClassSpot) (v : Names) → v ≡ names_of end b to all c →
      NamesIs f s l (names_of end b to all c) → Kept f s l (names_of end b to all c) → AsStored f s (names_of end b to all c) →
      ((v.end ≡ end) × (v.own ≡ b) × NamesIs f s l v) × (Kept f s l v × AsStored f s v)
  names_told l end b to all c v e q k a = (
    (ap (λ (w : Names). w.end) e, ap (λ (w : Names). w.own) e, subst (NamesIs f s l) (sym e) q),
    (subst (Kept f s l) (sym e) k, subst (AsStored f s) (sym e) a),
  )

  module _ (end b : ℕ) (there : RunningThere f s end b) (h : Home) (eh : h ≡ own_home end) where
    own_room : PartRoom f s end 16 (16 + (store_limits s).depth) h b
    own_room =
        let y = own_class f s end b there.0 there.1 there.2 in
        subst (λ (g : Home). PartRoom f s end 16 (16 + (store_limits s).depth) g b) (sym eh) (record {
          class = record { entries = there.0; self = there.1; asked = there.2.judged; pack = there.1; home = homes.own; class = y.0; is = y.1 };
          depth = (store_limits s).depth;
          room = omega arith;
          within = own_depth f s end b there.0 there.1 there.2.judged y.0 y.1;
        })

    pub find_room : PartRoom f s end (first_link h) (first_link h + most_links) h b
    find_room = room_more f s end 16 (16 + (store_limits s).depth) (first_link h) (first_link h + most_links) h b (omega (arith, (limits_range_lem s).0)) own_room

    own_link : first_link h ≡ 16
    own_link = ap first_link eh

    module _ (l m : List ℕ) (j : ℕ) (stop : Optional ClassSpot) (found : PartIs f s l m (record { home = h; number = b }) (first_link h) j stop) where
      p : PartIs f s l m (record { home = h; number = b }) 16 j stop
      p = subst (λ (i : ℕ). PartIs f s l m (record { home = h; number = b }) i j stop) own_link found

      pub kept_after : (kept : Names) → Kept f s l kept → Kept f s m kept
      kept_after kept k z = kept_same l m kept.home kept.number kept.stored z (λ x u v. p.below x u v) (λ x u v. p.above x u) p.size (k z)

      -- the stored class that follows has room
      pub next_room : (d : ClassSpot) → stop ≡ Some d → PartRoom f s end j (16 + (store_limits s).depth) d.home d.number
      next_room d e = part_room f s m h b 16 j (Some d) end (16 + (store_limits s).depth)
          (subst (λ (o : Optional ClassSpot). Part f s m h b 16 j o) e p.part) own_room

      pub next_stored : (d : ClassSpot) → stop ≡ Some d → 0 < d.home.from
      next_stored d e = (part_leaves f s m h b 16 j (Some d) end (subst (λ (o : Optional ClassSpot). Part f s m h b 16 j o) e p.part)).1

      inside : 16 < j
      inside = part_inside f s m h b 16 j stop p.part

      pub next_need : (d : ClassSpot) → stop ≡ Some d → PartRoom f s end 0 (store_limits s).depth d.home d.number
      next_need d e = room_more f s end j (16 + (store_limits s).depth) 0 (store_limits s).depth d.home d.number (omega (arith, inside)) (next_room d e)

      -- all names, where those of the stored classes end at `to`
      module _ (l' : List ℕ) (to : ℕ) (size : length l' ≡ length m) (links : Same m l' 64 names_start) where
        own_part : Part f s l' h b (first_link h) j stop
        own_part = subst (λ (i : ℕ). Part f s l' h b i j stop) (sym own_link)
            (part_same f s m l' h b 16 j stop (λ k u v. links k u (omega (arith, p.few))) p.part)

        pub own_part_there : PartThere f s l' h b j
        own_part_there = (subst (λ (g : Home). ClassThere f s g b) (sym eh) (own_there f s end b there), stop, own_part)

        own_fits : Room f s l → names_start ≤ to → to + 64 * (j - 16) ≤ names_length s → (j ≤ first_link h + most_links) ×
            (names_start ≤ to) × (to + 64 * (j - first_link h) ≤ length l')
        own_fits r low z = (omega (arith, own_link, p.few), low, omega (arith, own_link, z, r.size, p.size, size))

        -- a stored class follows
        module _ (d : ClassSpot) (e : stop ≡ Some d) (k : KeptFor f s l' d.home d.number to) where
          few_stored : to + 64 * (j - 16) ≤ names_length s
          few_stored =
              let n = next_room d e in
              let c = n.class in
              let few = k.few end c.entries c.self c.asked c.pack c.home c.class c.is n.depth n.within in
              omega (arith, few, n.room, inside)

          pub fits_stored : Room f s l → (j ≤ first_link h + most_links) × (names_start ≤ to) × (to + 64 * (j - first_link h) ≤ length l')
          fits_stored r = own_fits r k.names.sorted.low few_stored

          module _ (l'' : List ℕ) (all : ℕ) (g : GatheredAll f s l' l'' h b j to all) where
            kept_end : KeptFor f s l'' d.home d.number to
            kept_end = kept_same l' l'' d.home d.number to (next_stored d e) (λ x u v. g.below x u (omega (arith, k.names.sorted.low)))
                (λ x u v. g.below x (omega arith) v) g.size k

            own_gathered : Gathered f s l'' (own_home end) b (Some d) to all
            own_gathered = subst (λ (v : Home). Gathered f s l'' v b (Some d) to all) eh
                (g.is (Some d) (subst (λ (o : Optional ClassSpot). Part f s l' h b (first_link h) j o) e own_part))

            pub names_stored : NamesIs f s l'' (record { end = end; own = b; stored = to; all = all; home = d.home; number = d.number })
            names_stored = record {
              stop = Some d;
              leaves = part_leaves f s l' h b (first_link h) j (Some d) end (subst (λ (o : Optional ClassSpot). Part f s l' h b (first_link h) j o) e own_part);
              own = own_gathered;
              stored = kept_end.names;
              few = omega (arith, own_link, g.end, few_stored);
            }

            pub names_kept : Kept f s l'' (record { end = end; own = b; stored = to; all = all; home = d.home; number = d.number })
            names_kept z = kept_end

            pub names_first : AsStored f s (record { end = end; own = b; stored = to; all = all; home = d.home; number = d.number })
            names_first z y x r w = own_gathered.rest x (λ q has n. omega (arith, has.1, has.2, y)) r w

        -- none does
        module _ (e : stop ≡ None) (z : to ≡ names_start) where
          few_alone : to + 64 * (j - 16) ≤ names_length s
          few_alone = omega (arith, part_few f s m h b 16 j stop end (16 + (store_limits s).depth) p.part own_room, inside)

          pub fits_alone : Room f s l → (j ≤ first_link h + most_links) × (names_start ≤ to) × (to + 64 * (j - first_link h) ≤ length l')
          fits_alone r = own_fits r (omega arith) few_alone

          pub names_alone : (l'' : List ℕ) (all : ℕ) → GatheredAll f s l' l'' h b j to all → NamesIs f s l''
              (record { end = end; own = b; stored = to; all = all; home = h; number = b })
          names_alone l'' all g = record {
            stop = None;
            leaves = tt {0};
            own = subst (λ (v : Home). Gathered f s l'' v b None to all) eh
                (g.is None (subst (λ (o : Optional ClassSpot). Part f s l' h b (first_link h) j o) e own_part));
            stored = z;
            few = omega (arith, own_link, g.end, few_alone);
          }

          pub alone_kept : (l'' : List ℕ) (all : ℕ) → Kept f s l'' (record { end = end; own = b; stored = to; all = all; home = h; number = b })
          alone_kept l'' all y = let w = ap (λ (v : Home). v.from) eh in absurd (omega (arith, w, y))

          pub alone_first : (all : ℕ) → AsStored f s (record { end = end; own = b; stored = to; all = all; home = h; number = b })
          alone_first all y n x r u = let w = ap (λ (v : Home). v.from) eh in absurd (omega (arith, w, y))
