-- `file_codes::handlers_of` meets its contract: the part after the handler count, or an empty one. Assumes nothing.
use Prim.Native.Nat.{ℕ, ◌+◌}
use native.Mathlib.Omega.{arith}
use mathlib.Core.Path.{◌∙◌, ap}
use Rattle.fields.specs.Editions.{edition_if}
use Rattle.files.proofs.Steps as steps
use Rattle.files.proofs.Guards as guards
use Rattle.file_codes.proofs.Guards as own
use Rattle.file_codes.proofs.handlers_of.Goals as goal

pub slice_bounds-result-end : goal.slice_bounds-result-end
slice_bounds-result-end c = omega (arith, steps.method_in_lem c.requires)

pub returns-then-not-is_second : goal.returns-then-not-is_second
returns-then-not-is_second c =
    let first = c.if-not-is_second.true in
    own.first_guards (c.is_second.ensures ∙ ap edition_if first) c.args.at

pub bounds-f-at : goal.bounds-f-at
bounds-f-at c =
    omega (arith, steps.method_in_lem c.requires)

pub slice_bounds-result-end-then-b-ne1 : goal.slice_bounds-result-end-then-b-ne1
slice_bounds-result-end-then-b-ne1 c =
    omega (arith, steps.method_in_lem c.requires)

pub returns-then-b-ne1 : goal.returns-then-b-ne1
returns-then-b-ne1 c =
    own.bare_guards c.wide-b.ensures.0 c.if-b-ne1.true c.args.at

pub overflow_add-at : goal.overflow_add-at
overflow_add-at c =
    omega (arith, steps.method_in_lem c.requires)

pub after_policy-c-requires : goal.after_policy-c-requires
after_policy-c-requires c =
    steps.method_policy c.requires

pub overflow_add-c : goal.overflow_add-c
overflow_add-c c =
    omega (arith, (guards.code_in c.wide-b.ensures.0 c.after_policy-c.ensures c.if-b-ne1.false c.requires).0)

pub u2_at-requires : goal.u2_at-requires
u2_at-requires c =
    (guards.code_in c.wide-b.ensures.0 c.after_policy-c.ensures c.if-b-ne1.false c.requires).0

pub overflow_add-c-2 : goal.overflow_add-c-2
overflow_add-c-2 c =
    omega (arith, (guards.code_in c.wide-b.ensures.0 c.after_policy-c.ensures c.if-b-ne1.false c.requires).1, c.u2_at.ensures.0)

pub counted_handlers-requires : goal.counted_handlers-requires
counted_handlers-requires c =
    let second = c.is_second.ensures ∙ ap edition_if (c.if-not-is_second.false) in
    rw c.u2_at.ensures.0
    (guards.guards_in c.wide-b.ensures.0 c.after_policy-c.ensures c.if-b-ne1.false second c.requires)

pub returns : goal.returns
returns c =
    let second = c.is_second.ensures ∙ ap edition_if (c.if-not-is_second.false) in
    let place = ap (λ (n : ℕ). c.after_policy-c.result + 2 + n) c.u2_at.ensures.0 in
    own.guards_are c.wide-b.ensures.0 c.after_policy-c.ensures c.if-b-ne1.false second place c.counted_handlers.ensures
