-- `named::walk_on` meets its contract: each turn passes one class and writes its place. Assumes nothing.
use native.Mathlib.Omega.{arith}
use Prim.Native.Nat.{ℕ, ◌<◌}
use mathlib.Core.Path.{◌≡◌, refl, subst}
use lib.ListN.{length-set}
use Rattle.rules.specs.Package.{most_classes}
use Rattle.named.specs.Named.{ClassFrom}
use Rattle.named.proofs.Rows as rows
use Rattle.named.proofs.walk_on.Goals as goal

pub u2_at-size-requires : goal.u2_at-size-requires
u2_at-size-requires c = omega (arith, (rows.file_size c.args.g.now c.requires.readable.0).0)

pub loop-n-init : goal.loop-n-init
loop-n-init c = (c.requires.j_le_c.2, c.requires.readable.1, rows.beside_same c.args.rows.now c.args.base, refl)

pub returns-then-size-i-clause-class_stands : goal.returns-then-size-i-clause-class_stands
returns-then-size-i-clause-class_stands c =
    let a = c.args in
    rows.from_end a.g.now c.loop-n.n c.loop-n.i c.loop-n.invariant.0
    (omega (arith, c.if-size-i.true, c.u2_at-size.ensures.0, (rows.file_size a.g.now c.requires.readable.0).1)) a.c (omega (arith, c.loop-n-test.true))

pub after_class-i-requires : goal.after_class-i-requires
after_class-i-requires c =
    let a = c.args in
    let here = rows.from_inside a.g.now c.loop-n.n c.loop-n.i c.u2_at-size.result c.requires.readable.0 c.u2_at-size.ensures.0
    (omega (arith, c.if-size-i.false)) c.loop-n.invariant.0 in
    rows.from_there a.g.now c.loop-n.n c.loop-n.i here c.requires.readable.0

pub loop-n-preserved : goal.loop-n-preserved
loop-n-preserved c =
    let a = c.args in
    let here = rows.from_inside a.g.now c.loop-n.n c.loop-n.i c.u2_at-size.result c.requires.readable.0 c.u2_at-size.ensures.0
    (omega (arith, c.if-size-i.false)) c.loop-n.invariant.0 in
    let few : c.loop-n.n < most_classes = omega (arith, c.loop-n-test.true, c.requires.j_le_c.1) in (
      rows.from_next a.g.now c.loop-n.n c.loop-n.i c.after_class-i.result c.requires.readable.0 here c.after_class-i.ensures,
      rows.row_written a.g.now c.loop-n.rows a.base c.loop-n.n c.loop-n.i few c.loop-n.invariant.1 here,
      rows.beside_written a.rows.now c.loop-n.rows a.base c.loop-n.n c.loop-n.i few c.loop-n.invariant.2,
      simp length-set c.loop-n.invariant.3,
    )

pub returns-then-size-i-2-clause-class_stands : goal.returns-then-size-i-2-clause-class_stands
returns-then-size-i-2-clause-class_stands c =
    let a = c.args in
    rows.from_end a.g.now c.loop-n.n c.loop-n.i c.loop-n.invariant.0
    (omega (arith, c.if-size-i-2.true, c.u2_at-size.ensures.0, (rows.file_size a.g.now c.requires.readable.0).1)) a.c (omega (arith, c.loop-n.auto.n-end, c.requires.j_le_c.0))

pub returns : goal.returns
returns c =
    let a = c.args in
    let last : c.loop-n.n ≡ a.c = omega (arith, c.loop-n.auto.n-end, c.loop-n-test.false, c.requires.j_le_c.0) in
    let here : ClassFrom a.g.now a.c c.loop-n.i = subst (λ (m : ℕ). ClassFrom a.g.now m c.loop-n.i) last
    (rows.from_inside a.g.now c.loop-n.n c.loop-n.i c.u2_at-size.result c.requires.readable.0 c.u2_at-size.ensures.0 (omega (arith, c.if-size-i-2.false)) c.loop-n.invariant.0) in
    record {
      class_stands = here;
      row_true = (
        rows.row_written a.g.now c.loop-n.rows a.base a.c c.loop-n.i c.requires.j_le_c.1 c.loop-n.invariant.1 here,
        rows.beside_written a.rows.now c.loop-n.rows a.base a.c c.loop-n.i c.requires.j_le_c.1 c.loop-n.invariant.2,
      );
    }
