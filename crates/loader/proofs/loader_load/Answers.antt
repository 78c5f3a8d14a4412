-- `loader::loader_load` meets its contract. Assumes nothing.
use native.Mathlib.Omega.{arith}
use mathlib.Core.Path.{subst}
use Rattle.refusals.specs.Refusals.{number_of}
use Rattle.refusals.proofs.Numbers.{some_number}
use Rattle.sound.specs.Says.{LoadingSays}
use Rattle.loader.proofs.Additions as additions
use Rattle.loader.proofs.loader_load.Goals as goal

pub returns-in-Err : goal.returns-in-Err
returns-in-Err c =
    let a = c.args in
    let e = c.in-Err.refusal in
    let all = additions.load_refused a.store.now a.domain.now a.file.now (number_of e)
    (λ y. omega (arith, some_number e, y), subst (LoadingSays a.store.now a.domain.now a.file.now) c.in-Err.is c.judge_load.ensures) in
    record { load_promise = rw c.number.ensures.0 all.0; store_after = all.1 }

pub load_on-requires : goal.load_on-requires
load_on-requires c =
    let a = c.args in
    let all = subst (LoadingSays a.store.now a.domain.now a.file.now) c.in-Ok.is c.judge_load.ensures in record { sound_at = all.0; load_says = all.1 }
