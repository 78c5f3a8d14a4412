-- `loader::loader_delete` keeps its promise. Assumes nothing.
use mathlib.Core.Path.{refl, ◌∙◌, subst}
use Rattle.rules.specs.Operations.{delete, is_domain}
use Rattle.sound.specs.Says.{OpenedSays}
use Rattle.loader.specs.Promises.{Cuts}
use Rattle.loader.proofs.Numbers as numbers
use Rattle.loader.proofs.loader_delete.Goals as goal
use Rattle.loader.proofs.loader_delete.Goals.{After-delete_answer-answer}

-- what the answer cuts out
cuts : (k : After-delete_answer-answer) → Cuts k.args.store.now k.in-Ok.used (delete k.args.domain.now) k.delete_answer-answer.result
cuts k = (is_domain k.args.domain.now, (k.delete_answer-answer.ensures, λ es. refl))

pub returns-in-Err : goal.returns-in-Err
returns-in-Err c =
    let all = numbers.refused_number c.args.store.now (delete c.args.domain.now) _ (subst (OpenedSays c.args.store.now) c.in-Err.is c.open_store.ensures) in
    record { value = c.number.ensures.0 ∙ all.0; store_after = all.1 }

pub delete_answer-answer-requires : goal.delete_answer-answer-requires
delete_answer-answer-requires c = subst (OpenedSays c.args.store.now) c.in-Ok.is c.open_store.ensures

pub cut-requires : goal.cut-requires
cut-requires c =
    let sound = subst (OpenedSays c.args.store.now) c.in-Ok.is c.open_store.ensures in
    (sound, (delete c.args.domain.now, cuts (goal.at.cut-requires c).After-delete_answer-answer))

pub returns-in-Ok : goal.returns-in-Ok
returns-in-Ok c =
    let all = c.cut.ensures (delete c.args.domain.now) (cuts (goal.at.returns-in-Ok c).After-delete_answer-answer) in
    record { value = c.number_told.ensures ∙ all.0; store_after = all.1 }
