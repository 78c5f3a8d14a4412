-- A turn of the loop over the links of a part, and its end. Assumes nothing.
use Prim.Native.Nat.{ℕ, ◌+◌, ◌-◌, ◌*◌, ◌≤◌, ◌<◌}
use native.Mathlib.Omega.{arith}
use mathlib.Core.Path.{◌≡◌, refl, sym, ◌∙◌, ap, subst}
use mathlib.Core.List.{List}
use mathlib.Core.Logic.{◌⊎◌, inl, inr, ⊎_elim}
use mathlib.Core.Option.{some}
use lib.ListN.{length}
use mathlib.Core.Bool.{Bool, true, false}
use lib.Dec.{eqb}
use Rattle.std.specs.Prelude.{None}
use Rattle.std.specs.Prelude.{Option as Optional}
use Rattle.std.specs.Prelude.{Some}
use Rattle.rules.specs.Bytes.{Bytes, at, pick}
use Rattle.rules.specs.Store.{Entry, store_limits}
use Rattle.rules.specs.Package.{Class, class, method}
use Rattle.rules.specs.Classes.{Installed, declared_instance}
use Rattle.places.specs.Reads.{Reads, Placed}
use Rattle.places.proofs.Track.{put_none}
use Rattle.files.specs.Say as files
use Rattle.homes.specs.Homes.{file_of, format_at, HomeIs}
use Rattle.homes.specs.declared.Home.{Home}
use Rattle.classes.specs.Say.{Judged, ClassThere, Kind0ParentIs, RecordAt}
use Rattle.classes.specs.declared.ClassSpot.{ClassSpot}
use Rattle.classes.proofs.Places.{class_at, class_there, there_bounds}
use Rattle.methods.specs.Table.{name_at, Has, Nameless, Sorted}
use Rattle.chains.specs.Say.{runs_at, InstanceAt, FirstIs}
use Rattle.chains.specs.Chain.{most_links, names_start, link_home, link_place, Part, last, more}
use Rattle.chains.specs.Names.{text_of, first_link, Held, Gathers, HomeFor, Above, GatheredAll}
use Rattle.chains.specs.declared.MethodSpot.{MethodSpot}
use Rattle.chains.proofs.Methods.{first_here, first_above, first_nowhere}
use Rattle.chains.proofs.Links.{part_inside, part_link, file_held, link_home_same}
use Rattle.chains.proofs.Parts.{above_in}
use Rattle.chains.proofs.Collecting.{Reach, Left, classes_left, over, State, Collecting, text_steps, reach_steps, home_for}

-- one class is gathered: what each name is then
module _ (f s : Bytes) (hc : Home) (nc p : ℕ) (there : ClassThere f s hc nc) (at_p : RecordAt f s hc nc p) (m m' : List ℕ) (a e e' : ℕ)
    (w : Gathers (file_of f s hc) (text_of f s hc) m m' p hc.from a e e') where
  reads : (end : ℕ) (es : List Entry) (self : Installed) → Judged f s end es self → (x : Installed) → HomeIs f s end es self hc x → (k : Class) → at
      x.pack.classes nc ≡ some k →
      (j : ℕ) × Reads (class (format_at s (file_of f s hc)) x.pack.domains) (file_of f s hc) p k j
  reads = class_at f s hc nc p at_p

  -- a name that is not there is not declared
  pub name_left : (x : ℕ) → Nameless (text_of f s hc) m' a e' x → InstanceAt f s hc nc x None
  name_left x n end es self j y o k z = let u = reads end es self j y o k z in put_none (w.left (store_limits s) y.pack.domains k u.0 u.1 x n).1

  pub name_less : (x : ℕ) → Nameless (text_of f s hc) m' a e' x → Nameless (text_of f s hc) m a e x
  name_less x n =
      let c = there.1 in
      let u = reads there.0 c.entries c.self c.asked c.pack c.home c.class c.is in
      (w.left (store_limits s) c.pack.pack.domains c.class u.0 u.1 x n).0

  -- a place was there, or is that of the first method of its name
  pub place_new : (q : ℕ) → Has m' a e' q →
      Has m a e q ⊎ ((i : ℕ) × (q ≡ hc.from + i) × (i < length (file_of f s hc)) × Nameless (text_of f s hc) m a e (name_at (text_of f s hc) q) × FirstIs f s
      hc nc (name_at (text_of f s hc) q) (runs_at hc i))
  place_new q has = go first_time
    where
      c : ClassThere f s hc nc
      c = there

      Found : Class → Installed → Type 0
      Found k y = Has m a e q ⊎ ((i : ℕ) × (q ≡ hc.from + i) × (i < length (file_of f s hc)) × Nameless (text_of f s hc) m a e (name_at (text_of f s hc) q) ×
          Placed (method (format_at s (file_of f s hc)) y.pack.domains) (file_of f s hc) (declared_instance k (name_at (text_of f s hc) q)) (some i))

      first_time : Found there.1.class there.1.pack
      first_time =
          let d = there.1 in
          let u = reads there.0 d.entries d.self d.asked d.pack d.home d.class d.is in
          w.from (store_limits s) d.pack.pack.domains d.class u.0 u.1 q has

      always : (i : ℕ) → q ≡ hc.from + i → Nameless (text_of f s hc) m a e (name_at (text_of f s hc) q) → InstanceAt f s hc nc (name_at (text_of f s hc) q)
          (Some i)
      always i z n end es self j y o k v =
          let u = reads end es self j y o k v in
          again (w.from (store_limits s) y.pack.domains k u.0 u.1 q has)
        where
          again : Found k y → Placed (method (format_at s (file_of f s hc)) y.pack.domains) (file_of f s hc)
              (declared_instance k (name_at (text_of f s hc) q)) (some i)
          again (inl old) = absurd (n q old refl)
          again (inr t) = let same : t.0 ≡ i = omega (arith, t.1) in subst
              (λ (b : ℕ). Placed (method (format_at s (file_of f s hc)) y.pack.domains) (file_of f s hc)
              (declared_instance k (name_at (text_of f s hc) q)) (some b))
              same t.4

      go : Found there.1.class there.1.pack →
          Has m a e q ⊎ ((i : ℕ) × (q ≡ hc.from + i) × (i < length (file_of f s hc)) × Nameless (text_of f s hc) m a e (name_at (text_of f s hc) q) × FirstIs
          f s hc nc (name_at (text_of f s hc) q) (runs_at hc i))
      go (inl old) = inl old
      go (inr t) = inr (t.0, t.1, t.2, t.3, first_here f s hc nc (name_at (text_of f s hc) q) t.0 (always t.0 t.1 t.3))

pub first_small : (h : Home) → first_link h ≤ most_links
first_small h = go (eqb h.from 0)
  where
    go : (b : Bool) → pick b 16 0 ≤ most_links
    go true = omega arith
    go false = omega arith

pub first_inside : (f s : Bytes) (l : List ℕ) (h : Home) (n top : ℕ) (stop : Optional ClassSpot) → Part f s l h n (first_link h) top stop → first_link h ≤ top
first_inside f s l h n top stop p = let z = part_inside f s l h n (first_link h) top stop p in omega arith

module _ (f s : Bytes) (l : List ℕ) (h : Home) (n top a : ℕ) where
  pub collecting_start : ClassThere f s h n → names_start ≤ a → a ≤ length l → Collecting f s l l h n top a (first_link h) a
  collecting_start there big size = record {
    size = refl;
    below = λ k u v. refl;
    start = omega arith;
    end = omega arith;
    sorted = record { low = omega arith; size = size; named = λ k u v. absurd (omega arith); order = λ i j u v w. absurd (omega arith) };
    state = λ stop p. record {
      hit = λ q has. absurd (omega (arith, has.1, has.2));
      left = classes_left h n p (start stop p) refl there (λ x u r v. v);
    };
  }
    where
      start : (stop : Optional ClassSpot) → Part f s l h n (first_link h) top stop → Reach l (first_link h) (first_link h) h
      start stop p =
          let t = part_link f s l h n (first_link h) top stop p in
          record {
            link = first_link h;
            low = omega arith;
            high = omega arith;
            is = t.home;
            near = λ j u v. absurd (omega arith);
            under = λ j u v. let same : j ≡ first_link h = omega arith in let z : (link_home l j).from ≡ h.from = ap (λ (k : ℕ). (link_home l k).from) same ∙
                ap (λ (b : Home). b.from) t.home in omega arith;
          }

  module _ (m : List ℕ) (i e : ℕ) (inv : Collecting f s l m h n top a i e) (small : top ≤ first_link h + most_links) (big : names_start ≤ a)
      (inside : i < top) where
    -- the class at hand
    pub record Here (stop : Optional ClassSpot) (hh : Home) (p : ℕ) : Type 0 where
      pub number : ℕ
      pub there : ClassThere f s hh number
      pub record_at : RecordAt f s hh number p
      pub text : text_of f s hh ≡ text_of f s h
      pub part : Part f s l hh number i top stop
      pub reach : Reach l (first_link h) i hh
      pub up : (x : ℕ) → Nameless (text_of f s h) m a e x → (r : Optional MethodSpot) → FirstIs f s hh number x r → FirstIs f s h n x r

    pub here : (stop : Optional ClassSpot) → Part f s l h n (first_link h) top stop → (hh : Home) (p : ℕ) → hh ≡ link_home m i → p ≡ link_place m i → Here stop hh p
    here stop part hh p eh ep = go (inv.state stop part).left
      where
        go : Left f s l m h n stop top a i e → Here stop hh p
        go (over z r) = absurd (omega arith)
        go (classes_left hc nc q reach text there up) =
            let t = part_link f s l hc nc i top stop q in
            let same : hc ≡ hh = sym t.home ∙ sym (link_home_same l m i inv.below (omega (arith, first_small h))) ∙ sym eh in
            let place : link_place l i ≡ p = sym (inv.below (4 * i + 3) (omega arith) (omega (arith, first_small h))) ∙ sym ep in
            subst (λ (b : Home). Here stop b p) same (record {
              number = nc;
              there = there;
              record_at = subst (RecordAt f s hc nc) place t.place;
              text = text;
              part = q;
              reach = reach;
              up = up;
            })

    module _ (hh : Home) (p : ℕ) (eh : hh ≡ link_home m i) (ep : p ≡ link_place m i) (stop₀ : Optional ClassSpot) (part₀ : Part f s l h n (first_link h) top stop₀) where
      pub collect_bounds : (hh.from ≤ hh.to) × (hh.to ≤ length s)
      collect_bounds = let t = here stop₀ part₀ hh p eh ep in there_bounds f s hh t.number t.there

      pub collect_text : (t : Bytes) → t ≡ text_of f s h → t ≡ text_of f s hh
      collect_text t z = z ∙ sym (here stop₀ part₀ hh p eh ep).text

      pub collect_record : (g : Bytes) → g ≡ file_of f s hh → files.ClassThere g p
      collect_record g z = let t = here stop₀ part₀ hh p eh ep in class_there f s hh t.number g p z t.record_at t.there

      pub collect_sorted : (t : Bytes) → t ≡ text_of f s hh → Sorted t m a e
      collect_sorted t z = subst (λ (b : Bytes). Sorted b m a e) (sym (z ∙ (here stop₀ part₀ hh p eh ep).text)) inv.sorted

      pub collect_held : length f ≤ 65535 → length s ≤ 65535 → (g t : Bytes) → g ≡ file_of f s hh → t ≡ text_of f s hh → Held g t hh.from
      collect_held u v g t zg zt = subst (λ (b : Bytes). Held b t hh.from) (sym zg)
          (subst (λ (b : Bytes). Held (file_of f s hh) b hh.from) (sym zt) (file_held f s hh collect_bounds u v))

      module _ (m' : List ℕ) (e' : ℕ) (w : Gathers (file_of f s hh) (text_of f s hh) m m' p hh.from a e e') where
        module _ (stop : Optional ClassSpot) (t : Here stop hh p) where
          -- names in the bytes of the first class of the part
          less : (x : ℕ) → Nameless (text_of f s h) m' a e' x → Nameless (text_of f s h) m a e x
          less x u = subst (λ (b : Bytes). Nameless b m a e x) t.text
              (name_less f s hh t.number p t.there t.record_at m m' a e e' w x (subst (λ (b : Bytes). Nameless b m' a e' x) (sym t.text) u))

          not_declared : (x : ℕ) → Nameless (text_of f s h) m' a e' x → InstanceAt f s hh t.number x None
          not_declared x u = name_left f s hh t.number p t.there t.record_at m m' a e e' w x
              (subst (λ (b : Bytes). Nameless b m' a e' x) (sym t.text) u)

          new_hit : State f s l m h n stop top a i e → (q : ℕ) → Has m' a e' q → (g : Home) × HomeFor l (first_link h) q g × FirstIs f s h n
              (name_at (text_of f s h) q) (runs_at g (q - g.from))
          new_hit old q has = ⊎_elim (λ v. old.hit q v) fresh (place_new f s hh t.number p t.there t.record_at m m' a e e' w q has)
            where
              fresh : (x : ℕ) × (q ≡ hh.from + x) × (x < length (file_of f s hh)) × Nameless (text_of f s hh) m a e (name_at (text_of f s hh) q) × FirstIs f
                  s hh t.number (name_at (text_of f s hh) q) (runs_at hh x) →
                  (g : Home) × HomeFor l (first_link h) q g × FirstIs f s h n (name_at (text_of f s h) q) (runs_at g (q - g.from))
              fresh v =
                  let y : v.0 ≡ q - hh.from = omega (arith, v.1) in
                  let name : name_at (text_of f s hh) q ≡ name_at (text_of f s h) q = ap (λ (b : Bytes). name_at b q) t.text in
                  let nl : Nameless (text_of f s h) m a e (name_at (text_of f s h) q) = subst (λ (b : Bytes). Nameless b m a e (name_at b q)) t.text v.3 in
                  let fi : FirstIs f s hh t.number (name_at (text_of f s h) q) (runs_at hh (q - hh.from)) = subst
                  (λ (k : ℕ). FirstIs f s hh t.number (name_at (text_of f s h) q) (runs_at hh k)) y
                  (subst (λ (k : ℕ). FirstIs f s hh t.number k (runs_at hh v.0)) name v.4) in (
                    hh,
                    subst (λ (k : ℕ). HomeFor l (first_link h) k hh) (sym v.1)
                        (home_for f s l (first_link h) i hh (there_bounds f s hh t.number t.there) (omega arith) t.reach v.0 v.2),
                    t.up (name_at (text_of f s h) q) nl (runs_at hh (q - hh.from)) fi,
                  )

          new_left : Left f s l m' h n stop top a (i + 1) e'
          new_left = go t.part
            where
              nothing : Kind0ParentIs f s hh t.number None → (x : ℕ) → Nameless (text_of f s h) m' a e' x → (r : Optional MethodSpot) → r ≡
                  None → FirstIs f s h n x r
              nothing k x u r z = t.up x (less x u) r (subst (λ (b : Optional MethodSpot). FirstIs f s hh t.number x b) (sym z)
                  (first_nowhere f s hh t.number x (not_declared x u) k))

              next : (d : ClassSpot) → Kind0ParentIs f s hh t.number (Some d) → (x : ℕ) → Nameless (text_of f s h) m' a e' x → (r : Optional MethodSpot) →
                  FirstIs f s d.home d.number x r → FirstIs f s h n x r
              next d k x u r z = t.up x (less x u) r (first_above f s hh t.number x (not_declared x u) d r k z)

              ends : (stop : Optional ClassSpot) → Kind0ParentIs f s hh t.number stop → (x : ℕ) → Nameless (text_of f s h) m' a e' x → (r : Optional MethodSpot) → Above f
                  s stop x r → FirstIs f s h n x r
              ends (Some d) k = next d k
              ends None k = nothing k

              go : Part f s l hh t.number i top stop → Left f s l m' h n stop top a (i + 1) e'
              go (last k q v z) = over (sym z) (ends stop q)
              go (more d k q v r) =
                  let up_there : ClassThere f s d.home d.number = (t.there.0, above_in f s t.there.0 hh t.number d q t.there.1) in
                  let b = there_bounds f s d.home d.number up_there in
                  let o = there_bounds f s hh t.number t.there in
                  let k' = part_link f s l d.home d.number (i + 1) top stop r in
                  classes_left d.home d.number r (reach_steps f s l (first_link h) i hh d.home inv.start k'.home o.0 b.0 t.reach v)
                  (text_steps f s hh d.home b.0 v ∙ t.text) up_there (next d q)

        pub collecting_step : Collecting f s l m' h n top a (i + 1) e'
        collecting_step = record {
          size = w.size ∙ inv.size;
          below = λ k u v. w.below k u v ∙ inv.below k u v;
          start = omega (arith, inv.start);
          end = omega (arith, inv.end, w.end, inv.start);
          sorted = subst (λ (b : Bytes). Sorted b m' a e') (here stop₀ part₀ hh p eh ep).text w.sorted;
          state = λ stop part. record {
            hit = new_hit stop (here stop part hh p eh ep) (inv.state stop part);
            left = new_left stop
                (here stop part hh p eh ep);
          };
        }

  pub collecting_end : (m : List ℕ) (i e : ℕ) → Collecting f s l m h n top a i e → top ≤ i → i ≤ top → names_start ≤ a → GatheredAll f s l m h n top a e
  collecting_end m i e inv z y big = record {
    is = λ stop part. record { sorted = inv.sorted; hit = λ q has. hit stop part q has; rest = rest stop part };
    size = inv.size;
    below = inv.below;
    end = let same : i ≡ top = omega arith in omega (arith, inv.end);
  }
    where
      hit : (stop : Optional ClassSpot) → Part f s l h n (first_link h) top stop → (q : ℕ) → Has m a e q → (g : Home) × HomeFor m (first_link h) q g × FirstIs f s h
          n (name_at (text_of f s h) q) (runs_at g (q - g.from))
      hit stop part q has =
          let t = (inv.state stop part).hit q has in
          let u = t.1 in (
            t.0,
            record {
              link = u.link;
              from = u.from;
              small = u.small;
              is = link_home_same l m u.link inv.below (omega (arith, u.small, first_small h)) ∙ u.is;
              inside = u.inside;
              behind = λ j v w. let same = ap (λ (b : Home). b.from) (link_home_same l m j inv.below (omega (arith, u.small, first_small h))) in
                  omega (arith, same, u.behind j v w);
            },
            t.2,
          )

      rest : (stop : Optional ClassSpot) → Part f s l h n (first_link h) top stop → (x : ℕ) → Nameless (text_of f s h) m a e x → (r : Optional MethodSpot) → Above f s stop x
          r → FirstIs f s h n x r
      rest stop part = go (inv.state stop part).left
        where
          go : Left f s l m h n stop top a i e → (x : ℕ) → Nameless (text_of f s h) m a e x → (r : Optional MethodSpot) → Above f s stop x r → FirstIs f s h n x r
          go (over e' r) = r
          go (classes_left hc nc q reach text there up) = absurd (omega (arith, part_inside f s l hc nc i top stop q))
