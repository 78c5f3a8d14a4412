-- `judge::contents::inside_answer` meets its contract: one stage after the other. Assumes nothing.
use Prim.Native.Nat.{ℕ}
use native.Mathlib.Omega.{arith}
use mathlib.Core.Path.{◌≡◌, refl, ap, subst}
use mathlib.Core.Bool.{Bool, true, false, ◌||◌}
use lib.Dec.{eqb}
use Rattle.std.specs.Prelude.{Ok}
use Rattle.refusals.specs.declared.refusal.Refusal.{Refusal}
use Rattle.refusals.specs.Refusals.{number_of}
use Rattle.refusals.specs.Order.{code_told}
use Rattle.refusals.proofs.Numbers.{some_number}
use Rattle.refusals.proofs.Said.{not_calls}
use Rattle.names.specs.Say.{NamesIs}
use Rattle.file_codes.specs.Codes.{FileNumberIs}
use Rattle.homes.specs.Homes.{aid_at}
use Rattle.judge.proofs.Answers.{err_again}
use Rattle.judge.proofs.Settings as settings
use Rattle.judge.proofs.Stages as stages
use Rattle.judge.proofs.contents.inside_answer.Goals as goal
use Rattle.judge.proofs.contents.inside_answer.Goals.{After-codes_answer, In_ok-calls}

pub returns-then-not-names_ok : goal.returns-then-not-names_ok
returns-then-not-names_ok c =
    let a = c.args in
    let no = subst (NamesIs a.file.now) (c.if-not-names_ok.true) c.names_ok.ensures in
    stages.names_before a.s.now a.x.end (aid_at a.s.now a.x.aid) a.file.now no

pub codes_answer-requires : goal.codes_answer-requires
codes_answer-requires c =
    let a = c.args in
    (settings.read_some a.s.now a.x.end (aid_at a.s.now a.x.aid) a.file.now c.requires.asked14some.0, c.requires.s_len_bound.0)

fifteen : (k : After-codes_answer) → NamesIs k.args.file.now true
fifteen k = subst (NamesIs k.args.file.now) (k.if-not-names_ok.false) k.names_ok.ensures

pub returns-in_err-calls : goal.returns-in_err-calls
returns-in_err-calls c =
    let a = c.args in
    let e : Refusal = c.in_err-calls.field-0.0 in
    rw (err_again c.from_residual.result e c.from_residual.ensures)
    (stages.codes_before a.s.now a.x.end (aid_at a.s.now a.x.aid) a.file.now (fifteen (goal.at.returns-in_err-calls c).After-codes_answer) (number_of e)
    c.in_err-calls.ensures.number (λ z. omega (arith, some_number e, z)) (not_calls e c.in_err-calls.ensures.before))

pub subset_ok-requires : goal.subset_ok-requires
subset_ok-requires c =
    settings.readable c.args.s.now c.args.x.end (aid_at c.args.s.now c.args.x.aid) c.args.file.now c.requires.asked14some.0

-- 16, 17 and 24 were answered yes, whether there are calls or not
abbrev told : In_ok-calls → ℕ
told k = code_told (Ok k.in_ok-calls.calls)

is : (k : In_ok-calls) → FileNumberIs k.args.file.now (told k)
is k = k.in_ok-calls.ensures.number

passed : (k : In_ok-calls) → (eqb (told k) 0 || eqb (told k) 18) ≡ true
passed k = go k.in_ok-calls.calls
  where
    go : (b : Bool) → (eqb (code_told (Ok b)) 0 || eqb (code_told (Ok b)) 18) ≡ true
    go true = refl
    go false = refl

pub returns-then-not-subset_ok : goal.returns-then-not-subset_ok
returns-then-not-subset_ok c =
    let a = c.args in
    let k = (goal.at.returns-then-not-subset_ok c).In_ok-calls in
    stages.subset_before a.s.now a.x.end (aid_at a.s.now a.x.aid) a.file.now (fifteen (goal.at.In_ok-calls k).After-codes_answer) (told k) (is k)
    (passed k) a.x.subset c.subset_ok.result c.subset_ok.ensures c.requires.asked14some.1.asked (c.if-not-subset_ok.true)

pub returns-then-not-calls : goal.returns-then-not-calls
returns-then-not-calls c =
    let a = c.args in
    let k = (goal.at.returns-then-not-calls c).In_ok-calls in
    stages.quiet_before a.s.now a.x.end (aid_at a.s.now a.x.aid) a.file.now (fifteen (goal.at.In_ok-calls k).After-codes_answer) (told k) (is k)
    (passed k) a.x.subset c.subset_ok.result c.subset_ok.ensures c.requires.asked14some.1.asked (c.if-not-subset_ok.false)
    (ap (λ (b : Bool). code_told (Ok b)) c.if-not-calls.true)

pub calls_answer-requires : goal.calls_answer-requires
calls_answer-requires c =
    let a = c.args in
    let d = aid_at a.s.now a.x.aid in
    let k = (goal.at.calls_answer-requires c).In_ok-calls in
    let split = stages.codes_split a.s.now a.x.end d a.file.now (fifteen (goal.at.In_ok-calls k).After-codes_answer) (told k) (is k) c.requires.asked14some.0
    (ap (λ (b : Bool). code_told (Ok b)) c.if-not-calls.false) in
    record { asked14some = (c.requires.asked14some.0, split, c.requires.asked14some.1.there); indexed = c.requires.indexed; s_len_bound = c.requires.s_len_bound }

pub returns : goal.returns
returns c =
    let a = c.args in
    let k = (goal.at.returns c).In_ok-calls in
    stages.calls_behind a.s.now a.x.end (aid_at a.s.now a.x.aid) a.file.now (fifteen (goal.at.In_ok-calls k).After-codes_answer) (told k) (is k)
    (passed k) a.x.subset c.subset_ok.result c.subset_ok.ensures c.requires.asked14some.1.asked (c.if-not-subset_ok.false) _
    c.calls_answer.ensures
