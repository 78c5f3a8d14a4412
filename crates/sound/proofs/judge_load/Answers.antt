-- `sound::judge_load` meets its contract. Assumes nothing.
use Rattle.judge.proofs.Answers.{err_again}
use Rattle.sound.specs.Says.{LaidAt}
use Rattle.sound.proofs.Laws as laws
use Rattle.sound.proofs.judge_load.Goals as goal
use Rattle.sound.proofs.judge_load.Goals.{In_ok-used}

-- the entries stand and their domains are accepted
laid : (k : In_ok-used) → LaidAt k.args.s.now k.in_ok-used.used
laid k = k.in_ok-used.ensures

pub returns-in_err-used : goal.returns-in_err-used
returns-in_err-used c =
    let a = c.args in
    rw (err_again _ _ c.from_residual.ensures) (laws.unopened_load a.s.now _ a.domain.now a.file.now c.in_err-used.ensures)

pub load_judged-requires : goal.load_judged-requires
load_judged-requires c =
    let l = laid (goal.at.load_judged-requires c).In_ok-used in
    record { stand_from = (l.stand, l.domains, l.field); s_len_bound = l.small }

pub returns-in_err-depth : goal.returns-in_err-depth
returns-in_err-depth c =
    let k = (goal.at.returns-in_err-depth c).In_ok-used in
    rw (err_again _ _ c.from_residual-in_err-depth.ensures)
    (laws.loading_refused _ _ (laid k) _ _ c.load_judged.result c.load_judged.ensures _ c.in_err-depth.was)

pub returns : goal.returns
returns c =
    laws.loading_done _ _ (laid (goal.at.returns c).In_ok-used) _ _ c.load_judged.result c.load_judged.ensures _ c.in_ok-depth.was
