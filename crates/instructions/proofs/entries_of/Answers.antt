-- `instructions::entries_of` meets its contract: each switch reads the fields that its head has room for. Assumes nothing.
use native.Mathlib.Omega.{arith}
use mathlib.Core.Option.{some}
use mathlib.Core.Path.{sym, ap, ◌∙◌}
use Rattle.rules.specs.Code.{Switch, switch_entries}
use Rattle.instructions.proofs.Sizes.{pairs, switch_73, switch_74, head_least}
use Rattle.instructions.proofs.entries_of.Goals as goal
use Rattle.instructions.proofs.entries_of.Goals.{Then-form-eq4, Then-form-eq5}

pub overflow_add-at : goal.overflow_add-at
overflow_add-at c = omega (arith, head_least c.args.form)

pub u2_at-requires : goal.u2_at-requires
u2_at-requires c = omega (arith, ap (λ (w : Switch). w.head) (switch_73 c.args.form c.if-form-eq4.true))

pub overflow_add-at-then-form-eq4 : goal.overflow_add-at-then-form-eq4
overflow_add-at-then-form-eq4 c =
    let a = c.args in
    omega (arith, head_least a.form)

pub u2_at-requires-then-form-eq4 : goal.u2_at-requires-then-form-eq4
u2_at-requires-then-form-eq4 c =
    let a = c.args in
    omega (arith, ap (λ (w : Switch). w.head) (switch_73 a.form c.if-form-eq4.true))

pub returns-then-form-eq4 : goal.returns-then-form-eq4
returns-then-form-eq4 c =
    let a-told = c.args in
    let a = a-told in (
      ap (λ (w : Switch). switch_entries w a.code.now a.at) (switch_73 a.form c.if-form-eq4.true) ∙ (cc),
      c.numbers_from.ensures.1,
    )

pub overflow_add-at-then-form-eq5 : goal.overflow_add-at-then-form-eq5
overflow_add-at-then-form-eq5 c =
    let a = c.args in
    omega (arith, head_least a.form)

pub u4_at-requires : goal.u4_at-requires
u4_at-requires c =
    let a = c.args in
    omega (arith, ap (λ (w : Switch). w.head) (switch_74 a.form c.if-form-eq5.true))

pub overflow_add-at-then-form-eq5-2 : goal.overflow_add-at-then-form-eq5-2
overflow_add-at-then-form-eq5-2 c =
    let a = c.args in
    omega (arith, head_least a.form)

pub u4_at-requires-then-form-eq5 : goal.u4_at-requires-then-form-eq5
u4_at-requires-then-form-eq5 c =
    let a = c.args in
    omega (arith, ap (λ (w : Switch). w.head) (switch_74 a.form c.if-form-eq5.true))

pub returns-then-form-eq5 : goal.returns-then-form-eq5
returns-then-form-eq5 c =
    let a-told = c.args in
    let a = a-told in (
      ap (λ (w : Switch). switch_entries w a.code.now a.at) (switch_74 a.form c.if-form-eq5.true) ∙ (cc),
      c.numbers_from-then-form-eq5.ensures.1,
    )

pub overflow_add-at-2 : goal.overflow_add-at-2
overflow_add-at-2 c =
    let a = c.args in
    omega (arith, head_least a.form)

pub u2_at-requires-2 : goal.u2_at-requires-2
u2_at-requires-2 c =
    let a = c.args in
    omega (arith, head_least a.form)

pub returns : goal.returns
returns c =
    let a-told = c.args in
    let a = a-told in (
      pairs a.form a.code.now a.at (omega arith) ∙ ap some (sym c.u2_at-2.ensures.0),
      omega arith,
    )
