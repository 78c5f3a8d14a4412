-- `chains::gathered::gather_class` meets its contract: the names that are not in the table are those of the methods still to be read. Assumes nothing.
use Rattle.files.proofs.Steps as steps
use Rattle.chains.proofs.Gathering as gathering
use native.Mathlib.Omega.{arith}
use Prim.Native.Nat.{◌-◌}
use Rattle.chains.proofs.gathered.gather_class.Goals as goal

pub methods_of-start-requires : goal.methods_of-start-requires
methods_of-start-requires c =
    c.requires.record_there.0

pub bounds-g-start : goal.bounds-g-start
bounds-g-start c =
    steps.methods_in_lem (steps.methods_there c.methods_of-start.ensures c.requires.record_there.0)

pub overflow_add-m : goal.overflow_add-m
overflow_add-m c =
    omega (arith, steps.methods_in_lem (steps.methods_there c.methods_of-start.ensures c.requires.record_there.0))

pub loop-init : goal.loop-init
loop-init c =
    let a = c.args in
    gathering.gathering_start a.g.now a.t.now a.names.now c.methods_of-start.result a.base a.a a.e c.requires.record_there.1 (c.from-end.result - 0)
    (omega (arith, c.from-end.ensures)) (steps.methods_there c.methods_of-start.ensures c.requires.record_there.0) c.requires.sorted.0

pub add_method-to-requires : goal.add_method-to-requires
add_method-to-requires c =
    let a = c.args in
    record {
      method_here = (
        gathering.gathering_here a.g.now a.t.now a.names.now c.methods_of-start.result a.base a.a a.e c.requires.record_there.1 c.loop.names
            (c.from-end.result - c.loop.counter) c.loop.m c.loop.to c.loop.invariant (omega (arith, c.loop-test.true)) (steps.methods_there c.methods_of-start.ensures c.requires.record_there.0),
        c.requires.record_there.1,
      );
      sorted = (
        c.loop.invariant.sorted,
        gathering.gathering_room a.g.now a.t.now a.names.now c.methods_of-start.result a.base a.a a.e c.requires.record_there.1
            c.loop.names (c.from-end.result - c.loop.counter) c.loop.m c.loop.to c.loop.invariant (omega (arith, c.loop-test.true)) c.requires.sorted.1,
      );
    }

pub after_method-m-requires : goal.after_method-m-requires
after_method-m-requires c =
    let a = c.args in
    gathering.gathering_here a.g.now a.t.now a.names.now c.methods_of-start.result a.base a.a a.e c.requires.record_there.1 c.loop.names
    (c.from-end.result - c.loop.counter) c.loop.m c.loop.to c.loop.invariant (omega (arith, c.loop-test.true)) (steps.methods_there c.methods_of-start.ensures c.requires.record_there.0)

pub loop-preserved : goal.loop-preserved
loop-preserved c =
    let a = c.args in
    gathering.gathering_step a.g.now a.t.now a.names.now c.methods_of-start.result a.base a.a a.e c.requires.record_there.1 c.loop.names
    (c.from-end.result - c.loop.counter) c.loop.m c.loop.to c.loop.invariant (omega (arith, c.loop-test.true)) (steps.methods_there c.methods_of-start.ensures c.requires.record_there.0)
    c.add_method-to.new.names c.add_method-to.result c.after_method-m.result c.after_method-m.ensures _ (omega arith) c.add_method-to.ensures

pub shape_of-names : goal.shape_of-names
shape_of-names c = c.loop.invariant.size

pub returns : goal.returns
returns c =
    let a = c.args in
    gathering.gathering_end a.g.now a.t.now a.names.now c.methods_of-start.result a.base a.a a.e c.requires.record_there.1
    c.loop.names (c.from-end.result - c.loop.counter) c.loop.m c.loop.to a.c c.loop.invariant (omega (arith, c.loop-test.false))
    c.methods_of-start.ensures
