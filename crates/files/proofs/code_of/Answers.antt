-- `files::code_of` meets its contract: the part after the code length, or an empty one. Assumes nothing.
use native.Mathlib.Omega.{arith}
use Rattle.files.proofs.Steps as steps
use Rattle.files.proofs.Guards as guards
use Rattle.files.proofs.code_of.Goals as goal
use Rattle.files.proofs.code_of.Goals.{After-after_policy-c, After-wide-b, Else-b-ne1}

pub bounds-s-at : goal.bounds-s-at
bounds-s-at c = omega (arith, steps.method_in_lem c.requires)

pub overflow_add-at : goal.overflow_add-at
overflow_add-at c =
    let pre = c.requires in
    omega (arith, steps.method_in_lem pre)

pub after_policy-c-requires : goal.after_policy-c-requires
after_policy-c-requires c =
    let pre = c.requires in
    steps.method_policy pre

pub slice_bounds-result-count : goal.slice_bounds-result-count
slice_bounds-result-count c =
    let pre = c.requires in
    omega (arith, guards.bare_in c.wide-b.ensures.0 c.after_policy-c.ensures c.if-b-ne1.true pre)

pub slice_bounds-result-start : goal.slice_bounds-result-start
slice_bounds-result-start c =
    let pre = c.requires in
    omega (arith, guards.bare_in c.wide-b.ensures.0 c.after_policy-c.ensures c.if-b-ne1.true pre)

pub slice_bounds-result-end : goal.slice_bounds-result-end
slice_bounds-result-end c =
    let pre = c.requires in
    omega (arith, guards.bare_in c.wide-b.ensures.0 c.after_policy-c.ensures c.if-b-ne1.true pre)

pub returns-then-b-ne1 : goal.returns-then-b-ne1
returns-then-b-ne1 c =
    guards.bare_code c.wide-b.ensures.0 c.after_policy-c.ensures c.if-b-ne1.true

pub overflow_add-e : goal.overflow_add-e
overflow_add-e c =
    let pre = c.requires in
    omega (
      arith,
      (guards.code_in c.wide-b.ensures.0 c.after_policy-c.ensures c.if-b-ne1.false pre).0,
      (guards.code_in c.wide-b.ensures.0 c.after_policy-c.ensures c.if-b-ne1.false pre).1,
    )

pub u2_at-requires : goal.u2_at-requires
u2_at-requires c =
    let pre = c.requires in
    (guards.code_in c.wide-b.ensures.0 c.after_policy-c.ensures c.if-b-ne1.false pre).0

pub overflow_add-e-2 : goal.overflow_add-e-2
overflow_add-e-2 c =
    let pre = c.requires in
    omega (
      arith,
      (guards.code_in c.wide-b.ensures.0 c.after_policy-c.ensures c.if-b-ne1.false pre).0,
      (guards.code_in c.wide-b.ensures.0 c.after_policy-c.ensures c.if-b-ne1.false pre).1,
      c.u2_at.ensures.0,
    )

pub overflow_add-result : goal.overflow_add-result
overflow_add-result c =
    let pre = c.requires in
    omega (
      arith,
      (guards.code_in c.wide-b.ensures.0 c.after_policy-c.ensures c.if-b-ne1.false pre).0,
      (guards.code_in c.wide-b.ensures.0 c.after_policy-c.ensures c.if-b-ne1.false pre).1,
      c.u2_at.ensures.0,
    )

pub slice_bounds-result-count-2 : goal.slice_bounds-result-count-2
slice_bounds-result-count-2 c =
    let pre = c.requires in
    omega (
      arith,
      (guards.code_in c.wide-b.ensures.0 c.after_policy-c.ensures c.if-b-ne1.false pre).0,
      (guards.code_in c.wide-b.ensures.0 c.after_policy-c.ensures c.if-b-ne1.false pre).1,
      c.u2_at.ensures.0,
    )

pub slice_bounds-result-start-2 : goal.slice_bounds-result-start-2
slice_bounds-result-start-2 c =
    let pre = c.requires in
    omega (
      arith,
      (guards.code_in c.wide-b.ensures.0 c.after_policy-c.ensures c.if-b-ne1.false pre).0,
      (guards.code_in c.wide-b.ensures.0 c.after_policy-c.ensures c.if-b-ne1.false pre).1,
      c.u2_at.ensures.0,
    )

pub slice_bounds-result-end-2 : goal.slice_bounds-result-end-2
slice_bounds-result-end-2 c =
    let pre = c.requires in
    omega (
      arith,
      (guards.code_in c.wide-b.ensures.0 c.after_policy-c.ensures c.if-b-ne1.false pre).0,
      (guards.code_in c.wide-b.ensures.0 c.after_policy-c.ensures c.if-b-ne1.false pre).1,
      c.u2_at.ensures.0,
    )

pub returns : goal.returns
returns c =
    guards.code_is c.wide-b.ensures.0 c.after_policy-c.ensures c.if-b-ne1.false c.u2_at.ensures.0
