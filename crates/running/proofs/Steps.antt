-- The steps of the walk: from a visit to the same one with its slot and place, and to that of a parent. Assumes nothing.
use Prim.Native.Nat.{ℕ, ◌+◌, ◌/◌, ◌<◌}
use native.Mathlib.Omega.{arith}
use mathlib.Core.Path.{◌≡◌, sym, ap, subst}
use mathlib.Core.Bool.{Bool, true, false}
use mathlib.Core.List.{List}
use lib.ListN.{length}
use Rattle.rules.specs.Bytes.{Bytes}
use Rattle.bits.specs.Bits.{bit_at, with_bit}
use Rattle.homes.specs.declared.Home.{Home}
use Rattle.classes.specs.Say.{CountIs, rank}
use Rattle.classes.specs.Keys.{key}
use Rattle.running.specs.Say.{MethodsPass, ClassPasses}
use Rattle.running.specs.Walk.{visit_home, VisitPlaced, at_place, PlacedIs, ParentPlaced, visit_of, ParentVisit, WalkFrom, SeenPass, FirstPass, ParentsPass}
use Rattle.running.specs.declared.visited.Visit.{Visit}
use Rattle.running.proofs.Walk as walk

-- what is said of a visit, by its own class, home and number
abbrev pub Passing : (Bytes → Bytes → ℕ → ℕ → ℕ → Home → ℕ → Bool → Type 0) → Bytes → Bytes → Visit → Bool → Type 0
Passing q f s v r = q f s v.end v.domain v.own (visit_home v) v.number r

-- the visit with its slot and place
module _ (f s : Bytes) (v w : Visit) (p : PlacedIs f s v w) where
  pub placed_from : (index names : List ℕ) → WalkFrom f s index names v → WalkFrom f s index names w
  placed_from index names t =
      let u : WalkFrom f s index names (at_place v w.slot w.place) =
      record { there = t.there; chain = t.chain; indexed = t.indexed; small = t.small } in
      subst (WalkFrom f s index names) (sym p.0) u

  pub placed_seen : (seen : Bytes) → SeenPass f s v.end v.domain v.own seen → SeenPass f s w.end w.domain w.own seen
  placed_seen seen m = subst (λ (u : Visit). SeenPass f s u.end u.domain u.own seen) (sym p.0) m

  pub seen_placed : (seen : Bytes) → SeenPass f s w.end w.domain w.own seen → SeenPass f s v.end v.domain v.own seen
  seen_placed seen m = subst (λ (u : Visit). SeenPass f s u.end u.domain u.own seen) p.0 m

  pub placed_rank : rank (visit_home w) w.number ≡ rank (visit_home v) v.number
  placed_rank = ap (λ (u : Visit). rank (visit_home u) u.number) p.0

  -- its methods, and its parents
  methods_placed : (r : Bool) → Passing MethodsPass f s w r → Passing MethodsPass f s v r
  methods_placed r m = subst (λ (u : Visit). Passing MethodsPass f s u r) p.0 m

  parents_placed_lem : (r : Bool) → Passing ParentsPass f s w r → Passing ParentsPass f s v r
  parents_placed_lem r m = subst (λ (u : Visit). Passing ParentsPass f s u r) p.0 m

  pub methods_no : Passing MethodsPass f s w false → Passing ClassPasses f s v false
  methods_no m = walk.class_no f s v.end v.domain v.own (visit_home v) v.number (methods_placed false m)

  pub methods_yes : (r : Bool) → Passing MethodsPass f s w true → Passing ParentsPass f s w r → Passing ClassPasses f s v r
  methods_yes false m n = walk.class_parent_no f s v.end v.domain v.own (visit_home v) v.number (parents_placed_lem false n)
  methods_yes true m n = walk.class_yes f s v.end v.domain v.own (visit_home v) v.number (methods_placed true m) (parents_placed_lem true n)

-- a parent
module _ (f s : Bytes) (v : Visit) (count i : ℕ) (q : CountIs f s (visit_home v) v.number count) (z : i < count) where
  pub parent_placed : VisitPlaced f s v → ParentPlaced f s v i
  parent_placed t =
      let u = t.there in
      record { class = t; inside = omega (arith, q v.end u.entries u.self u.asked.running.judged u.pack u.home u.class u.is) }

  module _ (w : Visit) (p : ParentVisit f s v i w) where
    pub parent_from : (index names : List ℕ) → WalkFrom f s index names v → WalkFrom f s index names w
    parent_from index names t =
        let d = walk.parent_walk f s v.end v.domain v.own (visit_home v) v.number count i q z p.0 p.2 t.there in
        let u : WalkFrom f s index names (visit_of v p.0) =
        record { there = d; chain = t.chain; indexed = t.indexed; small = t.small } in
        subst (WalkFrom f s index names) (sym p.1) u

    pub parent_less : (index names : List ℕ) → WalkFrom f s index names v → rank (visit_home w) w.number < rank (visit_home v) v.number
    parent_less index names t =
        let d = walk.parent_rank f s v.end v.domain v.own (visit_home v) v.number count i q z p.0 p.2 t.there in
        omega (arith, d, ap (λ (u : Visit). rank (visit_home u) u.number) p.1)

    pub parent_seen : (seen : Bytes) → SeenPass f s v.end v.domain v.own seen → SeenPass f s w.end w.domain w.own seen
    parent_seen seen m = subst (λ (u : Visit). SeenPass f s u.end u.domain u.own seen) (sym p.1) m

    pub seen_parent : (seen : Bytes) → SeenPass f s w.end w.domain w.own seen → SeenPass f s v.end v.domain v.own seen
    seen_parent seen m = subst (λ (u : Visit). SeenPass f s u.end u.domain u.own seen) p.1 m

    -- its bit is set
    pub seen_more : (index names : List ℕ) → WalkFrom f s index names v → Passing ClassPasses f s w true → (x y : Bytes) →
        SeenPass f s w.end w.domain w.own x → length y ≡ length x → (b : ℕ) → b ≡ key (visit_home w) w.number →
        ((j : ℕ) → bit_at y j ≡ with_bit (bit_at x) b j) → SeenPass f s w.end w.domain w.own y
    seen_more index names t m x y a l b e g =
        walk.seen_more f s w.end w.domain w.own (visit_home w) w.number x a (parent_from index names t).there m y l
        (subst (λ (n : ℕ). (j : ℕ) → bit_at y j ≡ with_bit (bit_at x) n j) e g)

    pub bit_inside : (index names : List ℕ) → WalkFrom f s index names v → (x : Bytes) → SeenPass f s w.end w.domain w.own x →
        key (visit_home w) w.number / 8 < length x
    bit_inside index names t x a =
        walk.key_inside f s w.end w.domain w.own (visit_home w) w.number (parent_from index names t).there (length x) a.room

    pub parent_no : Passing ClassPasses f s w false → Passing ParentsPass f s v false
    parent_no m = walk.parents_no f s v.end v.domain v.own (visit_home v) v.number count i q z p.0 p.2
        (subst (λ (u : Visit). Passing ClassPasses f s u false) p.1 m)

    pub parent_yes : Passing ClassPasses f s w true → FirstPass f s v.end v.domain v.own (visit_home v) v.number i →
        FirstPass f s v.end v.domain v.own (visit_home v) v.number (i + 1)
    parent_yes m = walk.first_more f s v.end v.domain v.own (visit_home v) v.number count i q z p.0 p.2
        (subst (λ (u : Visit). Passing ClassPasses f s u true) p.1 m)
