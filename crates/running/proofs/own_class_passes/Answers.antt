-- `running::own_class_passes` meets its contract: where no method can run nothing is asked; else the walk from the class answers. Assumes nothing.
use native.Mathlib.Omega.{arith}
use mathlib.Core.Path.{◌≡◌, sym, ◌∙◌, ap, subst}
use Rattle.homes.specs.declared.Home.{Home}
use Rattle.slots.specs.Slots.{SmallHome}
use Rattle.running.specs.Say.{ClassPasses}
use Rattle.running.specs.Walk.{visit_home, visit_for, WalkFrom}
use Rattle.running.specs.declared.visited.Visit.{Visit}
use Rattle.running.proofs.Whole as whole
use Rattle.running.proofs.Seen as seen_of
use Rattle.running.proofs.own_class_passes.Goals as goal
use Rattle.running.proofs.own_class_passes.Goals.{After-visit_for-v}

-- the visit of the class
visit : (k : After-visit_for-v) → k.visit_for-v.result ≡ whole.own_visit k.args.o
visit k =
    let o = k.args.o in
    k.visit_for-v.ensures ∙ ap (λ (h : Home). visit_for o.names o.domain h o.names.own) k.own_home.ensures

pub none_run-requires : goal.none_run-requires
none_run-requires c = c.requires.names_is

pub returns-then-none_run : goal.returns-then-none_run
returns-then-none_run c =
    let a = c.args in
    let f = a.f.now in
    let s = a.s.now in
    let none = c.none_run.ensures c.if-none_run.true in
    let seen = seen_of.seen_nothing f s a.o.names.end a.o.domain a.o.names.own _ c.requires.seen_if.room none in
    record { own_passes = whole.own_nothing f s a.o.names.end a.o.domain a.o.names.own c.requires.own_class_there.1 none; seen_pass = seen; slots_true_2 = c.requires.slots_true }

pub bits_for-requires : goal.bits_for-requires
bits_for-requires c =
    let a = c.args in
    let below = whole.own_end a.f.now a.s.now a.o.names.end a.o.names.own c.requires.own_class_there.0.0 in
    (omega (arith, below, c.requires.seen_if.room), omega (arith, below, c.requires.indexed.1))

pub visit_for-v-requires : goal.visit_for-v-requires
visit_for-v-requires c =
    let a = c.args in
    let small = whole.names_small a.f.now a.s.now a.names.now a.o.names c.requires.names_is c.requires.indexed.1 c.requires.own_class_there.0.0 in
    let home = subst SmallHome (sym c.own_home.ensures) (whole.own_small a.o.names.end small.end) in
    (small, whole.domain_small c.requires.own_class_there.0.1 c.requires.indexed.1, home, small.own)

pub class_passes-requires : goal.class_passes-requires
class_passes-requires c =
    let a = c.args in
    let f = a.f.now in
    let s = a.s.now in
    let from = whole.own_from f s a.index.now a.names.now a.o c.requires.own_class_there.1 c.requires.own_class_there.0 c.requires.names_is c.requires.indexed.0 c.requires.indexed.1 in
    let seen = seen_of.bits_for f s a.o.names.end a.o.domain a.o.names.own _ _ a.o.alike c.bits_for.ensures c.requires.seen_if.hold
    (omega (arith, c.requires.seen_if.room, c.bits_for.auto.seen)) in
    record { walk_from = subst (WalkFrom f s a.index.now a.names.now) (sym (visit (goal.at.class_passes-requires c).After-visit_for-v)) from; seen_pass = seen_of.own_seen f s a.o _ _ (visit (goal.at.class_passes-requires c).After-visit_for-v) seen; slots_true = c.requires.slots_true }

pub returns : goal.returns
returns c =
    let a = c.args in
    let f = a.f.now in
    let s = a.s.now in
    let o = a.o in
    let answer = subst (λ (v : Visit). ClassPasses f s v.end v.domain v.own (visit_home v) v.number c.class_passes.result) (visit (goal.at.returns c).After-visit_for-v) c.class_passes.ensures.class_passes in
    let seen = seen_of.seen_own f s o _ _ (visit (goal.at.returns c).After-visit_for-v) c.class_passes.ensures.seen_pass_2 in
    record { own_passes = whole.own_answer f s o.names.end o.domain o.names.own c.requires.own_class_there.1 c.class_passes.result answer; seen_pass = seen; slots_true_2 = c.class_passes.ensures.slots_true_2 }
