-- `calls::group_answer` meets its contract: a number other than 18 is right, and so is the one by a table in which nothing is open. Assumes
-- nothing.
use native.Mathlib.Omega.{arith}
use mathlib.Core.Path.{refl, sym, ◌∙◌}
use Rattle.refusals.proofs.Said.{not_reference}
use Rattle.references.proofs.Telling.{lent_on}
use Rattle.references.proofs.Filled.{kept_same}
use Rattle.calls.proofs.Known as known
use Rattle.calls.proofs.group_answer.Goals as goal

pub group_calls-told-requires : goal.group_calls-told-requires
group_calls-told-requires c =
    record { judged = (c.requires.judged.0, c.requires.judged.1, c.requires.judged.2, c.requires.lent.small); kept_true = c.requires.kept_true }

pub returns-then-ne-clause-file_calls_are : goal.returns-then-ne-clause-file_calls_are
returns-then-ne-clause-file_calls_are c =
    let told = c.group_calls-told in
    known.table_answer c.args.a.group c.requires.kept_true _ told.ensures.file_calls_are
    (not_reference told.result told.ensures.before (sym c.ne.ensures ∙ c.if-ne.true))

pub returns-then-ne-2-clause-file_calls_are : goal.returns-then-ne-2-clause-file_calls_are
returns-then-ne-2-clause-file_calls_are c =
    let searched = c.group_calls-searched in
    known.table_answer c.args.a.group c.search_open.ensures.kept_true.0 _ searched.ensures.file_calls_are
    (not_reference searched.result searched.ensures.before (sym c.ne-2.ensures ∙ c.if-ne-2.true))

pub search_open-requires : goal.search_open-requires
search_open-requires c =
    record { judged = (c.requires.judged.0, c.requires.judged.2.file, kept_same _ _ _ c.group_calls-told.ensures.same_told c.requires.kept_true); lent = c.requires.lent; slots_true = c.requires.slots_true }

pub group_calls-searched-requires : goal.group_calls-searched-requires
group_calls-searched-requires c =
    record { judged = (c.requires.judged.0, c.requires.judged.1, c.requires.judged.2, c.requires.lent.small); kept_true = c.search_open.ensures.kept_true.0 }

pub search_open-requires-2 : goal.search_open-requires-2
search_open-requires-2 c =
    record { judged = (c.requires.judged.0, c.requires.judged.2.file, kept_same _ _ _ c.group_calls-searched.ensures.same_told c.search_open.ensures.kept_true.0); lent = lent_on _ c.requires.lent (omega (arith, c.search_open.auto)); slots_true = c.search_open.ensures.slots_true_2 }

pub group_calls-requires : goal.group_calls-requires
group_calls-requires c =
    record { judged = (c.requires.judged.0, c.requires.judged.1, c.requires.judged.2, c.requires.lent.small); kept_true = c.search_open-2.ensures.kept_true.0 }

pub shape_of-kept : goal.shape_of-kept
shape_of-kept c =
    omega (arith, c.group_calls-told.auto, c.search_open.auto, c.group_calls-searched.auto, c.search_open-2.auto, c.group_calls.auto)

pub returns : goal.returns
returns c =
    let a = c.args in
    record { file_calls_are = known.full_answer a.a.group c.search_open-2.ensures.kept_true.0 _ c.group_calls.ensures.file_calls_are (c.search_open-2.ensures.kept_true.1 refl); before = c.group_calls.ensures.before; slots_true_2 = c.search_open-2.ensures.slots_true_2 }
