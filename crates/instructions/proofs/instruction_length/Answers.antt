-- `instructions::instruction_length` meets its contract: too short, plain, or a switch that the code has whole or not. Assumes nothing.
use Prim.Native.Nat.{◌/◌, ◌%◌, ◌≤◌}
use native.Mathlib.Omega.{arith}
use mathlib.Core.Path.{ap, subst, ◌∙◌}
use Rattle.fields.specs.Told.{told as given}
use Rattle.instructions.specs.Table.{AtLeast}
use Rattle.instructions.proofs.Sizes.{plain_length, too_short, no_size, switch_none, switch_fits, switch_short}
use Rattle.instructions.proofs.instruction_length.Goals as goal
use Rattle.instructions.proofs.instruction_length.Goals.{then-size-eq0-via-then-size-eq0, then-size-eq0-via-else-size-eq0+then-code-at}

pub returns-then-size-eq0 : goal.returns-then-size-eq0
returns-then-size-eq0 c =
    let a = c.args in
    elim c.then-size-eq0.branch [
      | then-size-eq0-via-then-size-eq0 w ↦ (no_size a.code.now a.at (a.entry / 16) (a.entry % 16) c.requires.0 w.if-size-eq0.true, tt)
      | then-size-eq0-via-else-size-eq0+then-code-at w ↦ (too_short a.code.now a.at (a.entry / 16) (a.entry % 16) c.requires.0 (omega arith), tt)
    ]

pub returns-then-entry-lt64 : goal.returns-then-entry-lt64
returns-then-entry-lt64 c =
    let a = c.args in
    (plain_length a.code.now a.at (a.entry / 16) (a.entry % 16) c.requires.0 (omega arith) (omega arith) (omega arith), (omega arith, omega arith))

pub returns-in_err-n : goal.returns-in_err-n
returns-in_err-n c =
    let a = c.args in
    let none = switch_none a.code.now a.at (a.entry / 16) (a.entry % 16) c.requires.0 (omega arith) (omega arith)
    (c.switch_length.ensures.0 ∙ ap given c.in_err-n.was) in
    rw c.from_residual.ensures (none, tt)

pub returns-then-code-at-2 : goal.returns-then-code-at-2
returns-then-code-at-2 c =
    let a = c.args in (
      switch_short a.code.now a.at (a.entry / 16) (a.entry % 16) c.requires.0 c.in_ok-n.n (omega arith) (omega arith)
          (c.switch_length.ensures.0 ∙ ap given c.in_ok-n.was) (omega arith),
      tt,
    )

pub returns : goal.returns
returns c =
    let a = c.args in
    let least : a.entry % 16 ≤ c.in_ok-n.n = subst (AtLeast (a.entry % 16)) c.in_ok-n.was c.switch_length.ensures.1 in (
      switch_fits a.code.now a.at (a.entry / 16) (a.entry % 16) c.requires.0 c.in_ok-n.n (omega arith) (omega arith)
          (c.switch_length.ensures.0 ∙ ap given c.in_ok-n.was) (omega arith),
      (omega arith, omega arith),
    )
