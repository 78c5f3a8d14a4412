-- `judge::contents::calls_answer` meets its contract: the homes of the imports are entered, and 18 and 19 asked together. Assumes nothing.
use native.Mathlib.Omega.{arith}
use mathlib.Core.Path.{◌≡◌, refl, subst}
use Rattle.std.specs.Prelude.{Result, Ok, Err}
use Rattle.refusals.specs.declared.refusal.Refusal.{Refusal}
use Rattle.refusals.specs.Refusals.{number_said}
use Rattle.refusals.specs.Order.{call_told}
use Rattle.calls.specs.Calls.{CallsNumberIs}
use Rattle.store.proofs.Sound.{over_to}
use Rattle.homes.specs.Homes.{aid_at}
use Rattle.homes.proofs.Imported.{places_stand}
use Rattle.references.specs.Setting.{imports_of, Judged}
use Rattle.references.specs.Named.{Lent}
use Rattle.judge.proofs.Settings as settings
use Rattle.judge.proofs.Stages as stages
use Rattle.judge.proofs.contents.calls_answer.Goals as goal
use Rattle.judge.proofs.contents.calls_answer.Goals.{Start}

-- the file is judged
judged : (b : Start) → Judged b.args.file.now b.args.s.now b.args.x.end
judged b = let a = b.args in settings.judged a.s.now a.x.end (aid_at a.s.now a.x.domain) a.file.now b.requires.asked14some.0

pub enter_imports-requires : goal.enter_imports-requires
enter_imports-requires c =
    let a = c.args in
    let j = judged (goal.at.enter_imports-requires c).Start in
    let end = over_to a.s.now a.x.end (c.requires.asked14some.0.0, c.requires.asked14some.0.2.read.over) in
    record { slots_length_in_bounds = (c.requires.s_len_bound.1.2, omega (arith, end, c.requires.s_len_bound.0), c.requires.s_len_bound.0); places_len = (c.requires.indexed.1.size, places_stand _ _ _ _ c.requires.indexed.1 j.0 j.1 (imports_of j.2)) }

pub calls_ok-requires : goal.calls_ok-requires
calls_ok-requires c =
    let a = c.args in
    let lent : Lent a.s.now a.x.end a.index.now a.seen.now =
    record { indexed = c.requires.indexed.0; room = c.requires.s_len_bound.1.1; small = c.requires.s_len_bound.0 } in
    record { judged = (judged (goal.at.calls_ok-requires c).Start, c.requires.asked14some.1); ends = (c.requires.asked14some.2, c.requires.indexed.1); lent = lent; slots_true = c.enter_imports.ensures a.file.now c.requires.indexed.1 }

-- the answer's number
number : (r : Result (Unit {0}) Refusal) → call_told r ≡ number_said r
number (Ok u) = refl
number (Err e) = refl

pub returns : goal.returns
returns c =
    let a = c.args in
    let d = aid_at a.s.now a.x.domain in
    stages.calls_before a.s.now a.x.end d a.file.now (number_said c.calls_ok.result)
    (subst (CallsNumberIs a.file.now a.s.now a.x.end d) (number c.calls_ok.result) c.calls_ok.ensures.number)
