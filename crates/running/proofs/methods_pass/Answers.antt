-- `running::methods_pass` meets its contract: the loop goes on while every method passed, and the row is that of the last one that ran. Assumes nothing.
use Prim.Native.Nat.{◌+◌, ◌-◌, ◌≤◌, ◌<◌}
use native.Mathlib.Omega.{arith}
use mathlib.Core.Path.{◌≡◌, sym, subst}
use mathlib.Core.Bool.{Bool, true, false}
use lib.ListN.{length}
use Rattle.files.specs.Say as say
use Rattle.homes.specs.Homes.{DomainAt}
use Rattle.homes.specs.declared.Home.{Home}
use Rattle.classes.specs.Say.{MethodsIn, RecordAt}
use Rattle.classes.proofs.Places as places
use Rattle.chains.specs.Names.{NamesIs}
use Rattle.std.specs.Prelude.{Some}
use Rattle.std.specs.Prelude.{Option as Optional}
use Rattle.chains.specs.declared.MethodSpot.{MethodSpot}
use Rattle.running.specs.Say.{MethodThere, MethodPasses, WalkThere, MethodsPass}
use Rattle.running.specs.Rows.{BesideIs}
use Rattle.running.specs.Walk.{visit_home}
use Rattle.running.proofs.Allows as allows
use Rattle.running.proofs.Visits as visits
use Rattle.running.proofs.Loops as loops
use Rattle.running.proofs.Turns as turns
use Rattle.running.proofs.methods_pass.Goals as goal
use Rattle.running.proofs.methods_pass.Goals.{After-after_method-c, After-allows_all_of, After-file_of-g, After-methods_of-start, In-Some, In-loop, in-Some+else-not-allows_all_of, in_default}

-- the class, by the names and the home found, and its record
there : (k : After-file_of-g) →
    let a = k.args in
    WalkThere a.f.now a.s.now k.names_of-w.result.end a.v.domain k.names_of-w.result.own k.home_of-h.result a.v.number
there k =
    let a = k.args in
    visits.told_there a.f.now a.s.now a.v k.names_of-w.result k.home_of-h.result k.names_of-w.ensures k.home_of-h.ensures k.requires.visit_placed.there

place : (k : After-file_of-g) →
    let a = k.args in
    RecordAt a.f.now a.s.now k.home_of-h.result a.v.number a.v.place
place k =
    let a = k.args in
    visits.told_place a.f.now a.s.now a.v k.names_of-w.result k.home_of-h.result k.names_of-w.ensures k.home_of-h.ensures k.requires.visit_placed

-- its methods
methods : (k : After-methods_of-start) →
    let a = k.args in
    MethodsIn a.f.now a.s.now k.home_of-h.result a.v.number k.methods_of-start.result
methods k =
    let a = k.args in
    places.methods_in_lem a.f.now a.s.now k.home_of-h.result a.v.number k.file_of-g.result.now a.v.place k.methods_of-start.result k.file_of-g.ensures (place (goal.at.After-methods_of-start k).After-file_of-g) k.methods_of-start.ensures

inside : (k : After-methods_of-start) → k.methods_of-start.result < length k.file_of-g.result.now
inside k =
    let a = k.args in
    loops.methods_inside a.f.now a.s.now k.names_of-w.result.end a.v.domain k.names_of-w.result.own k.home_of-h.result a.v.number k.methods_of-start.result (methods k) k.file_of-g.result.now
    k.file_of-g.ensures (there (goal.at.After-methods_of-start k).After-file_of-g)

-- the method at hand, and in its file
here : (k : In-loop) →
    let a = k.args in
    (m : MethodThere a.f.now a.s.now k.names_of-w.result.end k.names_of-w.result.own k.home_of-h.result k.loop.c) ×
    DomainAt a.s.now a.v.domain m.1
here k =
    let a = k.args in
    loops.method_here a.f.now a.s.now k.names_of-w.result.end a.v.domain k.names_of-w.result.own k.home_of-h.result a.v.number k.methods_of-start.result (methods (goal.at.In-loop k).After-methods_of-start) (k.wide-end.result - k.loop.counter) k.loop.c
    (k.loop.invariant.0 a.v.number (methods (goal.at.In-loop k).After-methods_of-start)) (omega (arith, k.loop-test.true)) (there (goal.at.In-loop k).After-file_of-g)

file_here : (k : In-loop) → say.MethodThere k.file_of-g.result.now k.loop.c
file_here k =
    let a = k.args in
    loops.file_here a.f.now a.s.now k.names_of-w.result.end a.v.domain k.names_of-w.result.own k.home_of-h.result a.v.number k.methods_of-start.result (methods (goal.at.In-loop k).After-methods_of-start) (k.wide-end.result - k.loop.counter) k.loop.c
    (k.loop.invariant.0 a.v.number (methods (goal.at.In-loop k).After-methods_of-start)) (omega (arith, k.loop-test.true)) k.file_of-g.result.now k.file_of-g.ensures (there (goal.at.In-loop k).After-file_of-g)

-- what runs beside it
beside : (k : In-Some) →
    let a = k.args in
    BesideIs a.f.now a.s.now k.names_of-w.result.end k.names_of-w.result.own k.home_of-h.result k.loop.c (Some k.in-Some.runs)
beside k =
    let a = k.args in
    subst (BesideIs a.f.now a.s.now k.names_of-w.result.end k.names_of-w.result.own k.home_of-h.result k.loop.c) k.in-Some.is k.method_beside.ensures

-- whether the method at hand passes, as it was compared
passes : (k : After-allows_all_of) (r : Bool) → k.allows_all_of.result ≡ r →
    let a = k.args in
    MethodPasses a.f.now a.s.now k.names_of-w.result.end a.v.domain k.names_of-w.result.own k.home_of-h.result k.loop.c r
passes k r e =
    let a = k.args in
    subst (MethodPasses a.f.now a.s.now k.names_of-w.result.end a.v.domain k.names_of-w.result.own k.home_of-h.result k.loop.c) e
    (allows.beside_passes a.v.domain _ (beside (goal.at.After-allows_all_of k).In-Some) k.allows_all_of.result k.allows_all_of.ensures.allows_all_of)

-- an answer for the names and the home found is one for the visit
told : (k : After-file_of-g) (r : Bool) →
    let a = k.args in
    MethodsPass a.f.now a.s.now k.names_of-w.result.end a.v.domain k.names_of-w.result.own k.home_of-h.result a.v.number r →
    MethodsPass a.f.now a.s.now a.v.end a.v.domain a.v.own (visit_home a.v) a.v.number r
told k r m =
    let a = k.args in
    visits.told_pass a.f.now a.s.now a.v k.names_of-w.result k.home_of-h.result k.names_of-w.ensures k.home_of-h.ensures r m

pub file_of-g-requires : goal.file_of-g-requires
file_of-g-requires c =
    let a = c.args in
    subst (λ (h : Home). (h.from ≤ h.to) × (h.to ≤ length a.s.now)) (sym c.home_of-h.ensures)
    (visits.visit_bounds a.f.now a.s.now a.v c.requires.visit_placed.there)

pub methods_of-start-requires : goal.methods_of-start-requires
methods_of-start-requires c =
    let a = c.args in
    let class = loops.walk_class a.f.now a.s.now c.names_of-w.result.end a.v.domain c.names_of-w.result.own c.home_of-h.result a.v.number (there (goal.at.methods_of-start-requires c).After-file_of-g) in
    places.class_there a.f.now a.s.now c.home_of-h.result a.v.number c.file_of-g.result.now a.v.place c.file_of-g.ensures (place (goal.at.methods_of-start-requires c).After-file_of-g) class

pub bounds-g-start : goal.bounds-g-start
bounds-g-start c = inside (goal.at.bounds-g-start c).After-methods_of-start

pub overflow_add-c : goal.overflow_add-c
overflow_add-c c = omega (arith, inside (goal.at.overflow_add-c c).After-methods_of-start)

pub loop-init : goal.loop-init
loop-init c =
    let a = c.args in (
      λ n q. loops.methods_start a.f.now a.s.now c.names_of-w.result.end a.v.domain c.names_of-w.result.own c.home_of-h.result n c.methods_of-start.result q c.file_of-g.result.now (c.wide-end.result - 0)
          c.file_of-g.ensures (omega (arith, c.wide-end.ensures.0)),
      turns.row_start a.f.now a.s.now a.v.domain c.home_of-h.result c.home_of-h.result,
    )

pub method_beside-requires : goal.method_beside-requires
method_beside-requires c =
    let a = c.args in
    let chain = subst (NamesIs a.f.now a.s.now a.names.now) (sym c.names_of-w.ensures) c.requires.names_is in
    record { method_there = (here c).0; names_is = chain }

pub turn_row-requires : goal.turn_row-requires
turn_row-requires c = c.loop.invariant.1.size

pub allows_all_of-requires : goal.allows_all_of-requires
allows_all_of-requires c =
    let a = c.args in
    let m = here (goal.at.allows_all_of-requires c).In-loop in
    let both = allows.beside_both a.v.domain _ (beside (goal.at.allows_all_of-requires c).In-Some) m.0 m.1 in
    record { both_there = both; row_for = c.turn_row.ensures.turned a.f.now a.s.now a.v.domain c.home_of-h.result c.loop.invariant.1 }

pub returns-then-not-allows_all_of : goal.returns-then-not-allows_all_of
returns-then-not-allows_all_of c =
    let a = c.args in
    let fails = passes (goal.at.returns-then-not-allows_all_of c).After-allows_all_of false (c.if-not-allows_all_of.true) in
    told (goal.at.returns-then-not-allows_all_of c).After-file_of-g false
    (loops.methods_hit a.f.now a.s.now c.names_of-w.result.end a.v.domain c.names_of-w.result.own c.home_of-h.result a.v.number c.methods_of-start.result (methods (goal.at.returns-then-not-allows_all_of c).After-methods_of-start) (c.wide-end.result - c.loop.counter) c.loop.c
    (c.loop.invariant.0 a.v.number (methods (goal.at.returns-then-not-allows_all_of c).After-methods_of-start)) (omega (arith, c.loop-test.true)) fails)

pub after_method-c-requires : goal.after_method-c-requires
after_method-c-requires c = file_here (goal.at.after_method-c-requires c).In-loop

pub loop-preserved : goal.loop-preserved
loop-preserved c = elim c.match-method_beside.branch [
  | in-Some+else-not-allows_all_of w ↦ (
    next c (subst (passes_there c) w.if-not-allows_all_of.false
        (allows.beside_passes c.args.v.domain _ (subst (beside_there c) w.in-Some.is c.method_beside.ensures) w.allows_all_of.result w.allows_all_of.ensures.allows_all_of)),
    rw (w.row-is, w.last-is) w.allows_all_of.ensures.row_for_2,
  )
  | in_default w ↦ (
    next c (allows.beside_none c.args.v.domain (subst (beside_there c) w.in_default.is c.method_beside.ensures)),
    rw (w.row-is, w.last-is) c.loop.invariant.1,
  )
]
  where
    passes_there : After-after_method-c → Bool → Type 0
    passes_there k = MethodPasses k.args.f.now k.args.s.now k.names_of-w.result.end k.args.v.domain k.names_of-w.result.own k.home_of-h.result k.loop.c

    beside_there : After-after_method-c → Optional MethodSpot → Type 0
    beside_there k = BesideIs k.args.f.now k.args.s.now k.names_of-w.result.end k.names_of-w.result.own k.home_of-h.result k.loop.c

    -- the method at hand passes, and the others are left
    next : (k : After-after_method-c) → passes_there k true →
        loops.MethodsOn k.args.f.now k.args.s.now k.names_of-w.result.end k.args.v.domain k.names_of-w.result.own k.home_of-h.result k.methods_of-start.result
        (k.wide-end.result - (k.loop.counter + 1)) k.after_method-c.result
    next k pass n q =
        loops.methods_miss k.args.f.now k.args.s.now k.names_of-w.result.end k.args.v.domain k.names_of-w.result.own k.home_of-h.result n k.methods_of-start.result q
        (k.wide-end.result - k.loop.counter) k.loop.c (k.loop.invariant.0 n q) (omega (arith, k.loop-test.true)) k.file_of-g.result.now k.after_method-c.result
        _ (omega arith) k.file_of-g.ensures pass k.after_method-c.ensures

pub returns : goal.returns
returns c =
    let a = c.args in
    told (goal.at.returns c).After-file_of-g true
    (loops.methods_done a.f.now a.s.now c.names_of-w.result.end a.v.domain c.names_of-w.result.own c.home_of-h.result a.v.number c.methods_of-start.result (methods (goal.at.returns c).After-methods_of-start) (c.wide-end.result - c.loop.counter) c.loop.c
    (c.loop.invariant.0 a.v.number (methods (goal.at.returns c).After-methods_of-start)) (omega (arith, c.loop-test.false)))
