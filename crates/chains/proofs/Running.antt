-- The method that runs, found in the table of a chain. Assumes nothing.
use Prim.Native.Nat.{ℕ, ◌+◌, ◌-◌, ◌≤◌, ◌<◌}
use native.Mathlib.Omega.{arith}
use mathlib.Core.Path.{◌≡◌, refl, sym, ◌∙◌, ap, subst}
use mathlib.Core.Bool.{false}
use mathlib.Core.List.{List}
use mathlib.Core.Logic.{⊎_elim}
use lib.Dec.{eqb}
use lib.ListN.{length, get_or}
use borrow.Author.Tests.{ne_eqb}
use Rattle.std.specs.Prelude.{Some, None}
use Rattle.std.specs.Prelude.{Option as Optional}
use Rattle.classes.specs.declared.ClassSpot.{ClassSpot}
use Rattle.rules.specs.Bytes.{Bytes}
use Rattle.files.specs.Say as files
use Rattle.homes.specs.Homes.{file_of, own_home}
use Rattle.homes.specs.declared.Home.{Home}
use Rattle.methods.specs.Table.{name_at, Nameless, Sorted, Standing}
use Rattle.methods.proofs.Search.{less_or}
use Rattle.chains.specs.Say.{runs_at, FirstIs, IfImplemented, RunsIs}
use Rattle.chains.specs.Chain.{most_links, names_start, link_home, Leaves}
use Rattle.chains.specs.Names.{text_of, first_link, HomeFor, HomeForIs, Hit, HitThere, HitRuns, Above, StoredIs, NamesIs}
use Rattle.chains.specs.declared.Names.{Names}
use Rattle.chains.specs.declared.MethodSpot.{MethodSpot}
use Rattle.chains.proofs.Methods.{runs_none, first_method, first_bounds, runs_this, runs_not}

-- the search for a home: all links from i up to k lie behind place q
abbrev pub Behind : List ℕ → ℕ → ℕ → ℕ → Type 0
Behind l i q k = (j : ℕ) → i ≤ j → j < k → q < (link_home l j).from

module _ (l : List ℕ) (i q k : ℕ) (inv : Behind l i q k) where
  -- no home so far
  later : (g : Home) (t : HomeFor l i q g) → k ≤ t.link
  later g t = ⊎_elim (λ w. absurd (early w)) (λ w. w) (less_or t.link k)
    where
      early : t.link < k → ⊥
      early w = let z : (link_home l t.link).from ≡ g.from = ap (λ (b : Home). b.from) t.is in omega (arith, inv t.link t.from w, t.inside)

  pub home_found : (h : Home) → i ≤ k → h ≡ link_home l k → h.from ≤ q → HomeForIs l i q h
  home_found h low e z g t = ⊎_elim (λ w. absurd (past w)) here (less_or k t.link)
    where
      past : k < t.link → ⊥
      past w = let y : h.from ≡ (link_home l k).from = ap (λ (b : Home). b.from) e in omega (arith, t.behind k low w)

      here : t.link ≤ k → h ≡ g
      here w = let y : k ≡ t.link = omega (arith, later g t) in e ∙ ap (link_home l) y ∙ t.is

  pub home_next : (h : Home) → h ≡ link_home l k → q < h.from → Behind l i q (k + 1)
  home_next h e z j low w = ⊎_elim (λ v. inv j low v) here (less_or j k)
    where
      here : k ≤ j → q < (link_home l j).from
      here v = let y : j ≡ k = omega arith in let x : (link_home l j).from ≡ h.from = ap (λ (b : ℕ). (link_home l b).from) y ∙ sym
          (ap (λ (b : Home). b.from) e) in omega arith

  pub home_none : (h : Home) → i ≤ most_links → 32 ≤ k → HomeForIs l i q h
  home_none h small z g t = absurd (omega (arith, later g t, t.small))

-- a method found in the table
module _ (f s : Bytes) (l : List ℕ) (i q : ℕ) (h : Home) (e : HomeForIs l i q h) where
  hit_first : (end b x : ℕ) → Hit f s l i end b q x → FirstIs f s (own_home end) b x (runs_at h (q - h.from))
  hit_first end b x t = subst (λ (g : Home). FirstIs f s (own_home end) b x (runs_at g (q - g.from))) (sym (e t.0 t.1)) t.2

  pub hit_inside : HitThere f s l i q → h.from ≤ q
  hit_inside t = let z = t.4 in let y = ap (λ (b : Home). b.from) (e z.0 z.1) in omega (arith, y, z.1.inside)

  pub hit_bounds : HitThere f s l i q → (h.from ≤ h.to) × (h.to ≤ length s)
  hit_bounds t = first_bounds f s t.0 t.1 t.2 h (q - h.from) (hit_first t.0 t.1 t.2 t.4) t.3

  module _ (g : Bytes) (z : g ≡ file_of f s h) where
    pub hit_method : HitThere f s l i q → files.MethodThere g (q - h.from)
    hit_method t = first_method f s t.0 t.1 t.2 h (q - h.from) (hit_first t.0 t.1 t.2 t.4) g z t.3

    pub hit_runs : (r : Optional MethodSpot) → IfImplemented g h (q - h.from) r → HitRuns f s l i q r
    hit_runs (Some y) w end b x there t =
        subst (λ (v : MethodSpot). RunsIs f s end b x (Some v)) (sym w.0) (runs_this f s end b x h (q - h.from) (hit_first end b x t) g z w.1)
    hit_runs None w end b x there t = runs_not f s end b x h (q - h.from) (hit_first end b x t) g z w

-- the names of an own class
module _ (f s : Bytes) (l : List ℕ) (v : Names) (is : NamesIs f s l v) where
  pub own_sorted : Sorted f l v.stored v.all
  own_sorted = is.own.sorted

  -- a stored class's names stand in the store
  text_stored : (h : Home) → 0 < h.from → text_of f s h ≡ s
  text_stored h z = let y : eqb h.from 0 ≡ false = ne_eqb h.from 0 (λ x. omega arith) in rw y

  link_stored : (h : Home) → 0 < h.from → first_link h ≡ 0
  link_stored h z = let y : eqb h.from 0 ≡ false = ne_eqb h.from 0 (λ x. omega arith) in rw y

  pub stored_sorted : Sorted s l names_start v.stored
  stored_sorted = go is.stop is.leaves is.stored
    where
      go : (stop : Optional ClassSpot) → Leaves (own_home v.end) stop → StoredIs f s l v.stored stop → Sorted s l names_start v.stored
      go (Some d) w t = subst (λ (b : Bytes). Sorted b l names_start v.stored) (text_stored d.home w.1) t.sorted
      go None w t = record {
        low = omega (arith, t);
        size = omega (arith, own_sorted.low, own_sorted.size);
        named = λ k a b. absurd
            (omega (arith, t));
        order = λ i j a b c. absurd (omega (arith, t));
      }

  pub names_size : names_start ≤ length l
  names_size = omega (arith, stored_sorted.low, own_sorted.low, own_sorted.size)

  module _ (x : ℕ) where
    -- an own class declares it
    pub own_hit : (r : ℕ) → Standing f l v.stored v.all x r → Hit f s l 16 v.end v.own (get_or l r 0) x
    own_hit r w =
        let t = is.own.hit (get_or l r 0) (r, w.low, w.high, refl) in
        (t.0, t.1, subst (λ (n : ℕ). FirstIs f s (own_home v.end) v.own n (runs_at t.0 (get_or l r 0 - t.0.from))) w.named t.2)

    -- a stored class does
    pub stored_hit : Nameless f l v.stored v.all x → (r : ℕ) → Standing s l names_start v.stored x r → Hit f s l 0 v.end v.own (get_or l r 0) x
    stored_hit nl r w = go is.stop is.leaves is.stored (is.own.rest x nl)
      where
        go : (stop : Optional ClassSpot) → Leaves (own_home v.end) stop → StoredIs f s l v.stored stop →
            ((y : Optional MethodSpot) → Above f s stop x y → FirstIs f s (own_home v.end) v.own x y) → Hit f s l 0 v.end v.own (get_or l r 0) x
        go (Some d) z t up =
            let u = t.hit (get_or l r 0) (r, w.low, w.high, refl) in
            let name : name_at (text_of f s d.home) (get_or l r 0) ≡ x = ap (λ (b : Bytes). name_at b (get_or l r 0)) (text_stored d.home z.1) ∙
            w.named in
            let first : FirstIs f s d.home d.number x (runs_at u.0 (get_or l r 0 - u.0.from)) = subst
            (λ (n : ℕ). FirstIs f s d.home d.number n (runs_at u.0 (get_or l r 0 - u.0.from))) name u.2 in (
              u.0,
              subst (λ (i : ℕ). HomeFor l i (get_or l r 0) u.0) (link_stored d.home z.1) u.1,
              up (runs_at u.0 (get_or l r 0 - u.0.from))
                  first,
            )
        go None z t up = absurd (omega (arith, t, w.low, w.high))

    -- none does
    pub none_declares : Nameless f l v.stored v.all x → Nameless s l names_start v.stored x → RunsIs f s v.end v.own x None
    none_declares nl ns = runs_none f s v.end v.own x (go is.stop is.leaves is.stored (is.own.rest x nl))
      where
        go : (stop : Optional ClassSpot) → Leaves (own_home v.end) stop → StoredIs f s l v.stored stop →
            ((y : Optional MethodSpot) → Above f s stop x y → FirstIs f s (own_home v.end) v.own x y) → FirstIs f s (own_home v.end) v.own x None
        go (Some d) z t up = up None (t.rest x (subst (λ (b : Bytes). Nameless b l names_start v.stored x)
            (sym (text_stored d.home z.1)) ns) None refl)
        go None z t up = up None refl

  -- there are no names
  pub none_runs : v.all ≡ names_start → (x : ℕ) → RunsIs f s v.end v.own x None
  none_runs z x = none_declares x (λ q has y. omega (arith, has.1, has.2, stored_sorted.low)) (λ q has y. omega (arith, has.1, has.2, own_sorted.low))
