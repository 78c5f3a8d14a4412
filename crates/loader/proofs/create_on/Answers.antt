-- `loader::create_on` meets its contract. Assumes nothing.
use native.Mathlib.Omega.{arith}
use mathlib.Core.Path.{subst, ap}
use Rattle.refusals.specs.Refusals.{number_of, number_said}
use Rattle.refusals.proofs.Numbers.{some_number}
use Rattle.rules.specs.Operations.{create}
use Rattle.store.specs.Sound.{Asked}
use Rattle.store.proofs.Sound.{asked_refused, asked_done}
use Rattle.writing.specs.Changes.{kind_said}
use Rattle.judge.proofs.Answers.{err_again}
use Rattle.loader.proofs.Additions as additions
use Rattle.loader.proofs.Numbers as numbers
use Rattle.loader.proofs.create_on.Goals as goal
use Rattle.loader.proofs.create_on.Goals.{In_ok-create_answer}

-- all questions were answered yes
asked : (k : In_ok-create_answer) → let a = k.args in Asked a.store.now k.in_ok-used.used (create (kind_said a.kind) a.domain.now) 0
asked k =
    let a = k.args in
    subst (Asked a.store.now k.in_ok-used.used (create (kind_said a.kind) a.domain.now)) (ap (number_said {A = Unit {0}}) k.in_ok-create_answer.was)
    (k.create_answer.ensures (kind_said a.kind))

pub returns-in_err-used : goal.returns-in_err-used
returns-in_err-used c =
    let a = c.args in
    let all = numbers.refused_number a.store.now (create (kind_said a.kind) a.domain.now) _ c.in_err-used.ensures in
    record { value = rw (err_again _ _ c.from_residual.ensures) all.0; store_after = all.1 }

pub create_answer-requires : goal.create_answer-requires
create_answer-requires c = c.in_ok-used.ensures

pub returns-in_err-create_answer : goal.returns-in_err-create_answer
returns-in_err-create_answer c =
    let a = c.args in
    let used = c.in_ok-used.used in
    let o = create (kind_said a.kind) a.domain.now in
    let e = c.in_err-create_answer.field-0.0 in
    let said = subst (Asked a.store.now used o) (ap (number_said {A = Unit {0}}) c.in_err-create_answer.was) (c.create_answer.ensures (kind_said a.kind)) in
    let all = asked_refused a.store.now used c.in_ok-used.ensures o (number_of e) (λ z. omega (arith, some_number e, z)) said in
    record { value = rw (err_again _ _ c.from_residual-in_err-create_answer.ensures) all.0; store_after = all.1 }

pub append_domain-requires : goal.append_domain-requires
append_domain-requires c =
    let a = c.args in
    let yes = asked (goal.at.append_domain-requires c).In_ok-create_answer in
    additions.create_room a.store.now c.in_ok-used.used c.in_ok-used.ensures (kind_said a.kind) a.domain.now yes

pub returns : goal.returns
returns c =
    let a = c.args in
    let yes = asked (goal.at.returns c).In_ok-create_answer in
    let all = asked_done a.store.now c.in_ok-used.used c.in_ok-used.ensures (create (kind_said a.kind) a.domain.now) _ yes c.append_domain.ensures in
    record { value = all.0; store_after = all.1 }
