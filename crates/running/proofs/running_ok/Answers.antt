-- `running::running_ok` meets its contract: the loop goes on while every own class passed; for an interface nothing runs. Assumes nothing.
use native.Mathlib.Omega.{arith}
use Prim.Native.Nat.{ℕ, ◌≤◌}
use mathlib.Core.Path.{◌≡◌, refl, sym, subst, ◌∙◌}
use mathlib.Core.Bool.{Bool, true, false}
use lib.ListN.{length, length-replicate}
use Rattle.rules.specs.Store.{first_entry}
use Rattle.store.proofs.Stand.{entries_to}
use Rattle.homes.specs.Homes.{own_home}
use Rattle.homes.specs.Found.{Indexed}
use Rattle.homes.specs.declared.Home.{Home}
use Rattle.homes.proofs.Imported.{places_stand}
use Rattle.classes.specs.Say.{ClassThere, Kind0Is, OwnThere}
use Rattle.classes.proofs.Places as places
use Rattle.chains.specs.Say.{RunningThere}
use Rattle.chains.specs.Names.{names_length}
use Rattle.running.specs.Say.{OwnPasses}
use Rattle.running.specs.Walk.{SeenPass, SeenIf}
use Rattle.running.proofs.Whole as whole
use Rattle.running.proofs.Seen as seen_of
use Rattle.running.proofs.Seen.{SeenKept}
use Rattle.running.proofs.running_ok.Goals as goal
use Rattle.running.proofs.running_ok.Goals.{After-is_kind0, After-names_apart-w, After-own_class_passes, In-loop-b, then-is_kind0+else-not-own_class_passes, else-is_kind0}

-- the own class at hand
own : (k : In-loop-b) →
    let a = k.args in
    OwnThere a.f.now a.s.now a.x.end k.loop-b.b
own k =
    let a = k.args in
    whole.own_there' a.f.now a.s.now a.x.end a.x.domain k.wide-count.result k.loop-b.b k.loop-b.invariant.0 k.loop-b-test.true k.requires.judged_there.0

-- its kind
kind : (k : After-is_kind0) (r : Bool) → k.is_kind0.result ≡ r →
    let a = k.args in
    Kind0Is a.f.now a.s.now (own_home a.x.end) k.loop-b.b r
kind k r e =
    let a = k.args in
    let f = a.f.now in
    let s = a.s.now in
    subst (λ (g : Home). Kind0Is f s g k.loop-b.b r) k.own_home-h.ensures (subst (Kind0Is f s k.own_home-h.result k.loop-b.b) e k.is_kind0.ensures.kind0is)

-- its names are those of the entries that end at `end`
ends : (k : After-names_apart-w) → k.names_apart-w.result.end ≡ k.args.x.end
ends k = k.names_apart-w.ensures.end_value.0 ∙ k.loop-b.invariant.3

-- whether it passes, as it was walked
passes : (k : After-own_class_passes) (r : Bool) → k.own_class_passes.result ≡ r →
    let a = k.args in
    OwnPasses a.f.now a.s.now a.x.end a.x.domain k.loop-b.b r
passes k r e =
    let a = k.args in
    let f = a.f.now in
    let s = a.s.now in
    let walked = subst (λ (q : Bool). OwnPasses f s k.names_apart-w.result.end a.x.domain k.names_apart-w.result.own q) e k.own_class_passes.ensures.own_passes in
    whole.own_at (λ (x y : ℕ). OwnPasses f s x a.x.domain y r) k.names_apart-w.result.end k.names_apart-w.result.own a.x.end k.loop-b.b (ends (goal.at.After-own_class_passes k).After-names_apart-w) k.names_apart-w.ensures.end_value.1 walked

pub enter_imports-requires : goal.enter_imports-requires
enter_imports-requires c =
    let a = c.args in
    let end = (entries_to a.s.now (first_entry a.s.now) c.requires.judged_there.0.0 a.x.end c.requires.judged_there.0.2.imported.setting.stand).1 in
    record { slots_length_in_bounds = (omega (arith, length-replicate {A = ℕ} 640 0), omega (arith, end, c.requires.indexed.1), c.requires.indexed.1); places_len = (c.requires.judged_there.1.size, places_stand a.f.now a.s.now a.x.end a.places.now c.requires.judged_there.1 c.requires.judged_there.0.0 c.requires.judged_there.0.1 c.requires.judged_there.0.2.imported) }

pub classes_at-requires : goal.classes_at-requires
classes_at-requires c =
    let a = c.args in
    whole.judged_reads a.f.now a.s.now a.x.end a.x.domain c.requires.judged_there.0

pub bounds-f-classes_at : goal.bounds-f-classes_at
bounds-f-classes_at c =
    let a = c.args in
    whole.classes_inside a.f.now a.s.now a.x.end a.x.domain c.classes_at.result c.classes_at.ensures c.requires.judged_there.0

pub loop-b-init : goal.loop-b-init
loop-b-init c =
    let a = c.args in
    let f = a.f.now in
    let s = a.s.now in (
      whole.own_start f s a.x.end a.x.domain c.classes_at.result c.classes_at.ensures c.wide-count.result c.wide-count.ensures.0,
      c.enter_imports.ensures f c.requires.judged_there.1,
      refl,
      c.no_names-kept.ensures.0,
      (λ z. absurd (omega (arith, z, c.no_names-kept.ensures.1))),
      refl,
      seen_of.kept_none f s a.x.end a.x.domain c.no_names-kept.result _ c.no_names-kept.ensures.1,
    )

pub is_kind0-requires : goal.is_kind0-requires
is_kind0-requires c =
    let a = c.args in
    let f = a.f.now in
    let s = a.s.now in
    let there = subst (λ (h : Home). ClassThere f s h c.loop-b.b) (sym c.own_home-h.ensures) (places.own_class_there f s a.x.end c.loop-b.b (own (goal.at.is_kind0-requires c).In-loop-b)) in
    record { class_there = (there, c.requires.indexed.1); slots_true = c.loop-b.invariant.1 }

pub names_apart-w-requires : goal.names_apart-w-requires
names_apart-w-requires c =
    let a = c.args in
    let f = a.f.now in
    let s = a.s.now in
    let reads = whole.judged_reads f s a.x.end a.x.domain c.requires.judged_there.0 in
    let long : names_length s ≤ length c.loop-b.names = omega (arith, c.requires.s_in_bounds, c.loop-b.invariant.5) in
    let room = whole.names_room f s c.loop-b.names reads (omega (arith, c.type_inv.f 5)) (omega (arith, c.type_inv.f 6)) c.requires.indexed.1 long in
    let runs = whole.own_runs f s a.x.end a.x.domain c.loop-b.b (kind (goal.at.names_apart-w-requires c).After-is_kind0 true c.if-is_kind0.true) (own (goal.at.names_apart-w-requires c).In-loop-b) in
    let indexed = subst (λ (n : ℕ). Indexed s n a.index.now) (sym c.loop-b.invariant.3) c.requires.indexed.0 in
    record { running_there = subst (λ (n : ℕ). RunningThere f s n c.loop-b.b) (sym c.loop-b.invariant.3) runs; kept = (c.loop-b.invariant.4, room); indexed = (indexed, c.is_kind0.ensures.slots_true_2) }

pub own_class_passes-requires : goal.own_class_passes-requires
own_class_passes-requires c =
    let a = c.args in
    let f = a.f.now in
    let s = a.s.now in
    let there = whole.own_class f s a.x.end a.x.domain c.wide-count.result c.loop-b.b c.loop-b.invariant.0 c.loop-b-test.true c.names_apart-w.result (ends (goal.at.own_class_passes-requires c).After-names_apart-w) c.names_apart-w.ensures.end_value.1 c.requires.judged_there.0 in
    let class = kind (goal.at.own_class_passes-requires c).After-is_kind0 true c.if-is_kind0.true in
    let zero = whole.at_own (λ (x y : ℕ). Kind0Is f s (own_home x) y true) c.names_apart-w.result.end c.names_apart-w.result.own a.x.end c.loop-b.b (ends (goal.at.own_class_passes-requires c).After-names_apart-w) c.names_apart-w.ensures.end_value.1 class in
    let indexed = subst (λ (e : ℕ). Indexed s e a.index.now) (sym (ends (goal.at.own_class_passes-requires c).After-names_apart-w)) c.requires.indexed.0 in
    let carry = seen_of.seen_alike f s a.x.end a.x.domain _ c.loop-b.kept c.names_apart-w.result c.loop-b.seen c.loop-b.invariant.6 c.loop-b.invariant.3 (ends (goal.at.own_class_passes-requires c).After-names_apart-w) c.names_apart-w.ensures.kept_2.1 c.names_apart-w.ensures.kept_2.0 in
    let seen : SeenIf f s c.names_apart-w.result.end a.x.domain c.names_apart-w.result.own c.loop-b.seen c.run_alike.result = record {
      room = omega (arith, c.requires.s_in_bounds_2, c.loop-b.invariant.2);
      hold = λ e. subst (λ (x : ℕ). SeenPass f s x a.x.domain c.names_apart-w.result.own c.loop-b.seen) (sym (ends (goal.at.own_class_passes-requires c).After-names_apart-w)) (carry (c.run_alike.ensures e));
    } in
    record { own_class_there = (there, zero); names_is = c.names_apart-w.ensures.end_value.2; indexed = (indexed, c.requires.indexed.1); seen_if = seen; slots_true = c.names_apart-w.ensures.slots_true }

pub shape_of-names-then-not-own_class_passes : goal.shape_of-names-then-not-own_class_passes
shape_of-names-then-not-own_class_passes c =
    omega (arith, c.loop-b.invariant.5, c.names_apart-w.auto.names)

pub shape_of-seen-then-not-own_class_passes : goal.shape_of-seen-then-not-own_class_passes
shape_of-seen-then-not-own_class_passes c = omega (arith, c.loop-b.invariant.2)

pub returns-then-not-own_class_passes : goal.returns-then-not-own_class_passes
returns-then-not-own_class_passes c =
    let a = c.args in
    let fails = passes (goal.at.returns-then-not-own_class_passes c).After-own_class_passes false (c.if-not-own_class_passes.true) in
    whole.own_no a.f.now a.s.now a.x.end a.x.domain c.wide-count.result c.loop-b.b c.loop-b.invariant.0 c.loop-b-test.true fails

pub loop-b-preserved : goal.loop-b-preserved
loop-b-preserved c = elim c.if-is_kind0.branch [
  | then-is_kind0+else-not-own_class_passes w ↦
      let f = c.args.f.now in
      let s = c.args.s.now in
      let end = c.args.x.end in
      let d = c.args.x.domain in
      let n = w.names_apart-w.result in
      let ends = w.names_apart-w.ensures.end_value.0 ∙ c.loop-b.invariant.3 in
      let walked = subst (λ (q : Bool). OwnPasses f s n.end d n.own q) w.if-not-own_class_passes.false w.own_class_passes.ensures.own_passes in
      let more = whole.own_at (λ (x y : ℕ). OwnPasses f s x d y true) n.end n.own end c.loop-b.b ends w.names_apart-w.ensures.end_value.1 walked in
      let left = whole.own_yes f s end d c.wide-count.result c.loop-b.b c.loop-b.invariant.0 c.loop-b-test.true more in
      let every = whole.own_every f s end d c.wide-count.result c.loop-b.b c.loop-b.invariant.0 c.loop-b-test.true (kind (goal.at.loop-b-preserved c).After-is_kind0 true w.if-is_kind0.true) in
      let seen = seen_of.kept_next f s end d c.loop-b.b n _ ends w.names_apart-w.ensures.end_value.1 w.names_apart-w.ensures.kept_2.1 every
      w.own_class_passes.ensures.seen_pass in (
        left,
        rw w.slots-is w.own_class_passes.ensures.slots_true_2,
        omega (arith, c.if-is_kind0.auto.seen, c.loop-b.invariant.2),
        rw w.kept-is ends,
        rw (w.kept-is, w.names-is) w.names_apart-w.ensures.kept_2.0,
        omega (arith, c.if-is_kind0.auto.names, c.loop-b.invariant.5),
        rw (w.kept-is, w.seen-is) seen,
      )
  | else-is_kind0 w ↦
      let f = c.args.f.now in
      let s = c.args.s.now in
      let end = c.args.x.end in
      let more = whole.own_interface f s end c.args.x.domain c.loop-b.b (kind (goal.at.loop-b-preserved c).After-is_kind0 false w.if-is_kind0.false) in (
        whole.own_yes f s end c.args.x.domain c.wide-count.result c.loop-b.b c.loop-b.invariant.0 c.loop-b-test.true more,
        rw w.slots-is c.is_kind0.ensures.slots_true_2,
        omega (arith, c.if-is_kind0.auto.seen, c.loop-b.invariant.2),
        rw w.kept-is c.loop-b.invariant.3,
        rw (w.kept-is, w.names-is) c.loop-b.invariant.4,
        omega (arith, c.if-is_kind0.auto.names, c.loop-b.invariant.5),
        rw (w.kept-is, w.seen-is) c.loop-b.invariant.6,
      )
]

pub shape_of-names : goal.shape_of-names
shape_of-names c = c.loop-b.invariant.5

pub shape_of-seen : goal.shape_of-seen
shape_of-seen c = c.loop-b.invariant.2

pub returns : goal.returns
returns c =
    let a = c.args in
    whole.own_done a.f.now a.s.now a.x.end a.x.domain c.wide-count.result c.loop-b.b c.loop-b.invariant.0 c.loop-b-test.false
