-- A turn of the walk over the parents of a class that is visited: the parent at hand, its visit, and what was found from it on. Assumes nothing.
use Prim.Native.Nat.{ℕ, zero, suc, ◌+◌, ◌/◌, ◌<◌}
use native.Mathlib.Omega.{arith}
use mathlib.Core.Path.{◌≡◌, refl, sym, ap, subst}
use mathlib.Core.Bool.{true, false}
use mathlib.Core.Option.{Option, none, some}
use lib.ListN.{length}
use Rattle.rules.specs.Bytes.{Bytes}
use Rattle.bits.specs.Bits.{bit_at, with_bit}
use Rattle.classes.specs.Say.{rank, ParentIs, Kind0Is}
use Rattle.classes.specs.Keys.{key}
use Rattle.classes.specs.declared.ClassSpot.{ClassSpot}
use Rattle.search.specs.Walk.{spot_in, class_in, visit_spot, SpotThere, VisitPlaced, VisitOf, above, whole, MeantIs}
use Rattle.search.specs.Walk.{ParentInside, InterfaceIs, SeenNone}
use Rattle.search.specs.declared.visited.Visit.{Visit}
use Rattle.search.proofs.Codes.{class_in_lem}
use Rattle.search.proofs.Steps.{AboveFrom}
use Rattle.search.proofs.Steps as steps
use Rattle.search.proofs.Seen as seen_of
use Rattle.search.proofs.Visits as visits

-- what is said of a visit: nothing was found among its first i parents; the bits are good for it
abbrev pub Above : Bytes → Bytes → Visit → ℕ → Type 0
Above f s v i = AboveFrom f s v.end (visit_spot v) v.name i

abbrev pub Seen : Bytes → Bytes → Visit → Bytes → Type 0
Seen f s v x = SeenNone f s v.end v.name x

-- a turn: parent i of class v is the class told by c
pub record Turn (f s : Bytes) (v : Visit) (i c : ℕ) : Type 0 where
  pub placed : VisitPlaced f s v
  pub inside : i < v.parents
  pub is : ParentIs f s (visit_spot v).home (visit_spot v).number i (spot_in c)

pub turn_inside : (f s : Bytes) (v : Visit) (i : ℕ) → VisitPlaced f s v → i < v.parents → ParentInside f s v i
turn_inside f s v i p z =
    let t = p.there in
    record { placed = p; inside = omega (arith, p.count v.end t.entries t.self t.asked t.pack t.home t.class t.is) }

-- what an answer other than none says
interface_of : (f s : Bytes) (v : Visit) (c : ℕ) (w : Visit) (n : ℕ) → (n ≡ 0 → ⊥) → InterfaceIs f s v c w n → Kind0Is f s (spot_in c).home
    (spot_in c).number false × VisitOf f s v.end v.name (spot_in c) w
interface_of f s v c w zero z q = absurd (z refl)
interface_of f s v c w (suc n) z q = q

-- what makes one
pub interface_told : (f s : Bytes) (v : Visit) (c : ℕ) (w : Visit) → Kind0Is f s (spot_in c).home (spot_in c).number false →
    VisitOf f s v.end v.name (spot_in c) w → InterfaceIs f s v c w w.class
interface_told f s v c w q o = go w.class o.placed.told
  where
    go : (n : ℕ) → 0 < n → InterfaceIs f s v c w n
    go zero z = absurd (omega arith)
    go (suc n) z = (q, o)

module _ {f s : Bytes} {v : Visit} {i c : ℕ} (k : Turn f s v i c) where
  pub turn_there : SpotThere f s v.end (spot_in c)
  turn_there = steps.parent_there f s v.end (visit_spot v) 0 v.parents i k.placed.count k.inside (spot_in c) k.is k.placed.there

  pub turn_room : (x : Bytes) → Seen f s v x → key (spot_in c).home (spot_in c).number / 8 < length x
  turn_room x m = seen_of.key_inside f s v.end (spot_in c) turn_there (length x) m.room

  -- it leads to none
  turn_none : MeantIs f s v.end (spot_in c) v.name whole none → Above f s v i → Above f s v (i + 1)
  turn_none m a = steps.above_miss f s v.end (visit_spot v) v.name v.parents i k.placed.count k.inside (spot_in c) k.is a m

  -- it was seen
  pub turn_seen : (x : Bytes) → Seen f s v x → bit_at x (key (spot_in c).home (spot_in c).number) ≡ true → Above f s v i → Above f s v (i + 1)
  turn_seen x m e a = turn_none (m.hold (spot_in c) e) a

  -- the answer w: none, if it is of kind 0
  module _ (w : Visit) (q : InterfaceIs f s v c w w.class) where
    pub turn_kind0 : w.class ≡ 0 → Above f s v i → Above f s v (i + 1)
    turn_kind0 z a = steps.above_kind0 f s v.end (visit_spot v) v.name v.parents i k.placed.count k.inside (spot_in c) k.is a
        (subst (InterfaceIs f s v c w) z q)

    -- else its visit
    module _ (z : w.class ≡ 0 → ⊥) where
      pub walk_of : VisitOf f s v.end v.name (spot_in c) w
      walk_of = (interface_of f s v c w w.class z q).1

      pub walk_less : rank (visit_spot w).home (visit_spot w).number < rank (visit_spot v).home (visit_spot v).number
      walk_less =
          let less = steps.parent_rank f s v.end (visit_spot v) 0 v.parents i k.placed.count k.inside (spot_in c) k.is k.placed.there in
          omega (arith, visits.visit_rank walk_of, less)

      -- what was found from it on
      module _ (r : ℕ) (m : MeantIs f s w.end (visit_spot w) w.name whole (class_in r)) where
        found : (o : Option ClassSpot) → class_in r ≡ o → MeantIs f s v.end (spot_in c) v.name whole o
        found o e = subst (MeantIs f s v.end (spot_in c) v.name whole) e (visits.visit_meant walk_of whole (class_in r) m)

        pub walk_hit : (r ≡ 0 → ⊥) → Above f s v i → MeantIs f s v.end (visit_spot v) v.name above (class_in r)
        walk_hit y a = subst (MeantIs f s v.end (visit_spot v) v.name above) (sym (class_in_lem r y))
            (steps.above_hit f s v.end (visit_spot v) v.name v.parents i k.placed.count k.inside (spot_in c) k.is a
            (interface_of f s v c w w.class z q).0 (spot_in r) (found (some (spot_in r)) (class_in_lem r y)))

        module _ (y : r ≡ 0) where
          pub walk_miss : Above f s v i → Above f s v (i + 1)
          walk_miss a = turn_none (found none (ap class_in y)) a

          -- its bit is set
          pub walk_bit : (x new : Bytes) → Seen f s w x → length new ≡ length x → (b : ℕ) → b ≡ key (spot_in c).home (spot_in c).number →
              ((j : ℕ) → bit_at new j ≡ with_bit (bit_at x) b j) → Seen f s v new
          walk_bit x new a l b eb g = seen_of.seen_more f s v.end (spot_in c) turn_there v.name x (visits.visit_seen walk_of x a)
              (found none (ap class_in y)) new l b eb g
