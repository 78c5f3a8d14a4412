-- `loader::loader_remove` keeps its promise. Assumes nothing.
use mathlib.Core.Path.{refl, ◌∙◌, subst}
use Rattle.rules.specs.Operations.{remove, is_package}
use Rattle.rules.specs.Store.{store_limits}
use Rattle.sound.specs.Says.{OpenedSays}
use Rattle.loader.specs.Promises.{Cuts}
use Rattle.loader.proofs.Numbers as numbers
use Rattle.loader.proofs.loader_remove.Goals as goal
use Rattle.loader.proofs.loader_remove.Goals.{After-remove_answer-answer}

-- what the answer cuts out
cuts : (k : After-remove_answer-answer) → Cuts k.args.store.now k.in-Ok.used (remove k.args.«package».now) k.remove_answer-answer.result
cuts k = (is_package (store_limits k.args.store.now) k.args.«package».now, (k.remove_answer-answer.ensures, λ es. refl))

pub returns-in-Err : goal.returns-in-Err
returns-in-Err c =
    let all = numbers.refused_number c.args.store.now (remove c.args.«package».now) _ (subst (OpenedSays c.args.store.now) c.in-Err.is c.open_store.ensures) in
    record { value = c.number.ensures.0 ∙ all.0; store_after = all.1 }

pub remove_answer-answer-requires : goal.remove_answer-answer-requires
remove_answer-answer-requires c = subst (OpenedSays c.args.store.now) c.in-Ok.is c.open_store.ensures

pub cut-requires : goal.cut-requires
cut-requires c =
    let sound = subst (OpenedSays c.args.store.now) c.in-Ok.is c.open_store.ensures in
    (sound, (remove c.args.«package».now, cuts (goal.at.cut-requires c).After-remove_answer-answer))

pub returns-in-Ok : goal.returns-in-Ok
returns-in-Ok c =
    let all = c.cut.ensures (remove c.args.«package».now) (cuts (goal.at.returns-in-Ok c).After-remove_answer-answer) in
    record { value = c.number_told.ensures ∙ all.0; store_after = all.1 }
