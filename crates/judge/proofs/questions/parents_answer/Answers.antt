-- `judge::questions::parents_answer` meets its contract: 10 and 11, then 12 to 14 of what was read. Assumes nothing.
use Rattle.std.proofs.Common.{inl, inr}
use Rattle.reader.proofs.Said as said
use Rattle.judge.proofs.Answers.{err_again}
use Rattle.judge.proofs.Parents as parents
use Rattle.judge.proofs.questions.parents_answer.Goals as goal

pub returns-in_err-read_package : goal.returns-in_err-read_package
returns-in_err-read_package c =
    let same = err_again c.from_residual.result c.in_err-read_package.field-0.0 c.from_residual.ensures in
    elim (said.said_refused _ _ c.limits_of.ensures _ _ c.read_package.ensures c.in_err-read_package.was) [
      | inl why ↦ record { parents_answer = rw same (parents.parents_10 _ _ _ _ why.0 why.1); tables_told = rw same tt }
      | inr why ↦ record { parents_answer = rw same (parents.parents_11 _ _ _ why.1 _ why.0 why.2); tables_told = rw same tt }
    ]

pub package_answer-requires : goal.package_answer-requires
package_answer-requires c =
    let read = said.said_0 _ _ c.limits_of.ensures _ _ c.read_package.ensures c.in_ok-read_package.was in
    record { over_some = (c.requires.over_some, read.0, read.1); indexed = c.requires.indexed; own_len = c.requires.own_len }
