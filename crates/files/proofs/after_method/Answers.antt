-- `files::after_method` meets its contract: the code, if there is one, follows the policy, and in the second edition its handlers follow the
-- code. Assumes nothing.
use native.Mathlib.Omega.{arith}
use mathlib.Core.Path.{◌∙◌, ap}
use Rattle.fields.specs.Editions.{edition_if}
use Rattle.files.proofs.Steps as steps
use Rattle.files.proofs.Guards as guards
use Rattle.files.proofs.after_method.Goals as goal
use Rattle.files.proofs.after_method.Goals.{After-after_policy-c, After-says_second, After-u2_at, After-wide-b}

pub bounds-s-at : goal.bounds-s-at
bounds-s-at c = omega (arith, steps.method_in_lem c.requires)

pub overflow_add-at : goal.overflow_add-at
overflow_add-at c =
    let pre = c.requires in
    omega (arith, steps.method_in_lem pre)

pub after_policy-c-requires : goal.after_policy-c-requires
after_policy-c-requires c =
    let pre = c.requires in
    steps.method_policy pre

pub returns-then-b-ne1 : goal.returns-then-b-ne1
returns-then-b-ne1 c = guards.bare_next c.wide-b.ensures.0 c.after_policy-c.ensures c.if-b-ne1.true

pub overflow_add-e : goal.overflow_add-e
overflow_add-e c =
    let pre = c.requires in
    omega (arith, (guards.code_in c.wide-b.ensures.0 c.after_policy-c.ensures c.if-b-ne1.false pre).0)

pub u2_at-requires : goal.u2_at-requires
u2_at-requires c =
    let pre = c.requires in
    (guards.code_in c.wide-b.ensures.0 c.after_policy-c.ensures c.if-b-ne1.false pre).0

pub overflow_add-e-2 : goal.overflow_add-e-2
overflow_add-e-2 c =
    let pre = c.requires in
    omega (arith, (guards.code_in c.wide-b.ensures.0 c.after_policy-c.ensures c.if-b-ne1.false pre).1, c.u2_at.ensures.0)

pub says_second-requires : goal.says_second-requires
says_second-requires c =
    let pre = c.requires in
    guards.code_far c.wide-b.ensures.0 c.after_policy-c.ensures c.if-b-ne1.false pre

pub bounds-s-e : goal.bounds-s-e
bounds-s-e c =
    let pre = c.requires in
    let second = c.says_second.ensures ∙ ap edition_if c.if-says_second.true in
    let there = guards.guards_in c.wide-b.ensures.0 c.after_policy-c.ensures c.if-b-ne1.false second pre in
    omega (arith, there.0, c.u2_at.ensures.0)

pub overflow_add-result : goal.overflow_add-result
overflow_add-result c =
    let pre = c.requires in
    omega (arith, (guards.code_in c.wide-b.ensures.0 c.after_policy-c.ensures c.if-b-ne1.false pre).1, c.u2_at.ensures.0)

pub overflow_mul-result : goal.overflow_mul-result
overflow_mul-result c = omega (arith, c.wide.ensures.1)

pub overflow_add-result-then-says_second : goal.overflow_add-result-then-says_second
overflow_add-result-then-says_second c =
    let pre = c.requires in
    let small = (guards.code_in c.wide-b.ensures.0 c.after_policy-c.ensures c.if-b-ne1.false pre).1 in
    omega (arith, small, c.u2_at.ensures.0, c.wide.ensures.1)

pub returns-then-says_second : goal.returns-then-says_second
returns-then-says_second c =
    let second = c.says_second.ensures ∙ ap edition_if c.if-says_second.true in
    rw (c.wide.ensures.0, c.u2_at.ensures.0)
    (guards.guards_next c.wide-b.ensures.0 c.after_policy-c.ensures c.if-b-ne1.false second)

pub returns : goal.returns
returns c =
    let first = c.says_second.ensures ∙ ap edition_if c.if-says_second.false in
    rw c.u2_at.ensures.0 (guards.code_next c.wide-b.ensures.0 c.after_policy-c.ensures c.if-b-ne1.false first)
