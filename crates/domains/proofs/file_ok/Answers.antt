-- `domains::file_ok` meets its contract: the reader's answer, then question 26 of what it read. Assumes nothing.
use mathlib.Core.Path.{◌≡◌, sym, ◌∙◌}
use mathlib.Core.Bool.{true}
use mathlib.Core.Option.{some}
use Rattle.std.proofs.Common.{inl, inr}
use Rattle.cursor.specs.Limits.{limits_of}
use Rattle.rules.specs.Package.{Package, read_file}
use Rattle.rules.specs.Store.{store_limits}
use Rattle.rules.specs.Questions.{q10_marked}
use Rattle.reader.proofs.Said as said
use Rattle.domains.proofs.Reading as reading
use Rattle.domains.proofs.file_ok.Goals as goal
use Rattle.domains.proofs.file_ok.Goals.{In-Ok}

reads : (k : In-Ok) → let a = k.args in
    (q10_marked a.g.now ≡ true) × ((p : Package) × (read_file (store_limits a.s.now) a.g.now ≡ some p))
reads k =
    let a = k.args in
    said.said_0 (store_limits a.s.now) (limits_of k.limits_of.result) k.limits_of.ensures a.g.now k.read_package.result k.read_package.ensures k.in-Ok.is

pub file_keeps-requires : goal.file_keeps-requires
file_keeps-requires c =
    let yes = reads (goal.at.file_keeps-requires c).In-Ok in
    ((store_limits c.args.s.now, yes.1.0, yes.1.1), c.table-table.ensures)

pub returns-in-Err : goal.returns-in-Err
returns-in-Err c =
    let a = c.args in
    elim (said.said_refused (store_limits a.s.now) (limits_of c.limits_of.result) c.limits_of.ensures a.g.now c.read_package.result c.read_package.ensures c.in-Err.is) [
      | inl why ↦ sym (reading.unmarked (store_limits a.s.now) a.g.now why.1)
      | inr why ↦ sym (reading.unread (store_limits a.s.now) a.g.now why.2)
    ]

pub returns-in-Ok : goal.returns-in-Ok
returns-in-Ok c =
    let a = c.args in
    let yes = reads (goal.at.returns-in-Ok c).In-Ok in
    c.file_keeps.ensures (store_limits a.s.now) yes.1.0 yes.1.1
    ∙ sym (reading.read (store_limits a.s.now) a.g.now yes.1.0 yes.0 yes.1.1)
