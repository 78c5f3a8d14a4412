-- `judge::questions::running_answer` meets its contract: 20, then 21. Assumes nothing.
use mathlib.Core.Path.{◌≡◌, refl, ◌∙◌, subst}
use mathlib.Core.Bool.{Bool, true, false}
use Rattle.rules.specs.Bytes.{Aid}
use Rattle.rules.specs.Store.{loaded}
use Rattle.store.specs.Answers.{Fits}
use Rattle.store.proofs.Sound.{over_to}
use Rattle.homes.specs.Homes.{aid_at}
use Rattle.homes.proofs.Domains.{aid_at_lem}
use Rattle.running.specs.Say.{RunningIs}
use Rattle.judge.proofs.Stages as stages
use Rattle.judge.proofs.questions.running_answer.Goals as goal
use Rattle.judge.proofs.questions.running_answer.Goals.{After-aid_bytes, After-package_fits, After-slice_known-4-1}

-- the answer to 20
twenty : (k : After-slice_known-4-1) (r : Bool) → k.running_ok.result ≡ r →
    let a = k.args in
    RunningIs a.file.now a.s.now a.x.end a.x.domain r
twenty k r e = let a = k.args in subst (RunningIs a.file.now a.s.now a.x.end a.x.domain) e k.running_ok.ensures

-- the loading domain's bytes, and the answer to 21
named : (k : After-aid_bytes) → let a = k.args in k.aid_bytes.result.now ≡ aid_at a.s.now a.x.domain
named k =
    k.aid_bytes.ensures k.requires.asked14some.1.0 k.requires.asked14some.1.1 k.requires.asked14some.1.2 ∙ aid_at_lem k.requires.asked14some.1.2

fits : (k : After-package_fits) (r : Bool) → k.package_fits.result ≡ r →
    let a = k.args in
    Fits a.s.now a.x.end (loaded (aid_at a.s.now a.x.domain) a.file.now) r
fits k r e =
    let a = k.args in
    subst (λ (d : Aid). Fits a.s.now a.x.end (loaded d a.file.now) r) (named (goal.at.After-package_fits k).After-aid_bytes)
    (subst (Fits a.s.now a.x.end (loaded k.aid_bytes.result.now a.file.now)) e k.package_fits.ensures)

pub running_ok-requires : goal.running_ok-requires
running_ok-requires c =
    let a = c.args in
    let d = aid_at a.s.now a.x.domain in
    let there = stages.judged_there a.s.now a.x.end d a.file.now a.x.domain c.requires.asked14some.1 refl c.requires.asked14some.0 in
    record { judged_there = (there, c.requires.indexed.1); indexed = (c.requires.indexed.0, c.requires.s_len_bound.0); s_in_bounds = c.requires.s_len_bound.1.0; s_in_bounds_2 = c.requires.s_len_bound.1.1 }

pub returns-then-not-running_ok : goal.returns-then-not-running_ok
returns-then-not-running_ok c =
    let a = c.args in
    stages.number_20 a.s.now a.x.end (aid_at a.s.now a.x.domain) a.file.now a.x.domain c.requires.asked14some.1 refl
    (twenty (goal.at.returns-then-not-running_ok c).After-slice_known-4-1 false (c.if-not-running_ok.true))

pub aid_bytes-requires : goal.aid_bytes-requires
aid_bytes-requires c = c.requires.asked14some.1

pub package_fits-requires : goal.package_fits-requires
package_fits-requires c =
    over_to c.args.s.now c.args.x.end (c.requires.asked14some.0.0, c.requires.asked14some.0.2.read.over)

-- 20 answered yes, and 21
number : (c : After-package_fits) (r : Bool) → c.package_fits.result ≡ r →
    let a = c.args in
    stages.From20 a.s.now a.x.end (aid_at a.s.now a.x.domain) a.file.now r
number c r e =
    let a = c.args in
    stages.number_21 a.s.now a.x.end (aid_at a.s.now a.x.domain) a.file.now a.x.domain c.requires.asked14some.1 refl r
    (twenty (goal.at.After-package_fits c).After-slice_known-4-1 true (c.if-not-running_ok.false)) (fits c r e)

pub returns-then-not-package_fits : goal.returns-then-not-package_fits
returns-then-not-package_fits c = number (goal.at.returns-then-not-package_fits c).After-package_fits false (c.if-not-package_fits.true)

pub returns : goal.returns
returns c = number (goal.at.returns c).After-package_fits true (c.if-not-package_fits.false)
