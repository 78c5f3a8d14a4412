-- `instructions::switch_length` meets its contract: the head, and the bytes of the entries for each switch. Assumes nothing.
use native.Mathlib.Omega.{arith}
use mathlib.Core.Path.{◌≡◌, ap, ◌∙◌}
use mathlib.Core.Option.{some}
use Rattle.rules.specs.Code.{Switch, switch_entries}
use Rattle.fields.specs.Told.{told as given}
use Rattle.instructions.specs.Table.{switch_of}
use Rattle.instructions.proofs.Sizes.{switch_75, switch_76, said_none, said_number, bytes_are, entry_2}
use Rattle.instructions.proofs.switch_length.Goals as goal
use Rattle.instructions.proofs.switch_length.Goals.{In_ok-n}

-- the number of entries
entries : (k : In_ok-n) → switch_entries (switch_of k.args.form) k.args.code.now k.args.at ≡ some k.in_ok-n.n
entries k = k.entries_of.ensures.0 ∙ ap given k.in_ok-n.was

pub returns-in_err-n : goal.returns-in_err-n
returns-in_err-n c =
    let none = said_none c.args.form c.args.code.now c.args.at (c.entries_of.ensures.0 ∙ ap given c.in_err-n.was) in
    rw c.from_residual.ensures (none, tt)

pub returns-then-form-lt6 : goal.returns-then-form-lt6
returns-then-form-lt6 c = (
  said_number c.args.form c.args.code.now c.args.at c.in_ok-n.n _ (entries (goal.at.returns-then-form-lt6 c).In_ok-n)
      (bytes_are c.args.form c.args.head 2 c.in_ok-n.n c.requires.1 (entry_2 c.args.form c.requires.0 c.if-form-lt6.true)),
  omega arith,
)

pub returns-then-form-eq6 : goal.returns-then-form-eq6
returns-then-form-eq6 c = (
  said_number c.args.form c.args.code.now c.args.at c.in_ok-n.n _ (entries (goal.at.returns-then-form-eq6 c).In_ok-n)
      (bytes_are c.args.form c.args.head 4 c.in_ok-n.n c.requires.1 (ap (λ (w : Switch). w.entry) (switch_75 c.args.form c.if-form-eq6.true))),
  omega arith,
)

pub returns : goal.returns
returns c = (
  said_number c.args.form c.args.code.now c.args.at c.in_ok-n.n _ (entries (goal.at.returns c).In_ok-n)
      (bytes_are c.args.form c.args.head 6 c.in_ok-n.n c.requires.1 (ap (λ (w : Switch). w.entry) (switch_76 c.args.form (omega arith)))),
  omega arith,
)
