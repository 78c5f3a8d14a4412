-- `named::start_of` meets its contract. Assumes nothing.
use native.Mathlib.Omega.{arith}
use mathlib.Core.Path.{refl}
use Rattle.named.proofs.Rows as rows
use Rattle.named.proofs.start_of.Goals as goal
use Rattle.named.proofs.start_of.Goals.{Start}

pub returns-then-known-ne0 : goal.returns-then-known-ne0
returns-then-known-ne0 c = (λ e. absurd (c.if-known-ne0.true e), λ h. refl)

pub overflow_add-result : goal.overflow_add-result
overflow_add-result c =
    omega (arith, rows.classes_inside c.args.g.now c.classes_at.result c.requires c.classes_at.ensures)

pub returns : goal.returns
returns c =
    let a = c.args in
    (λ e. rows.from_start a.g.now c.classes_at.result c.classes_at.ensures, λ h. absurd (omega arith))
