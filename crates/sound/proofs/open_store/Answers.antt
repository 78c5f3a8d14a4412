-- `sound::open_store` meets its contract. Assumes nothing.
use mathlib.Core.Bool.{Bool}
use mathlib.Core.Path.{subst}
use Rattle.judge.specs.Says.{PackagesSay}
use Rattle.judge.proofs.Answers.{err_again}
use Rattle.sound.specs.Says.{LaidAt}
use Rattle.sound.proofs.Laws as laws
use Rattle.sound.proofs.open_store.Goals as goal
use Rattle.sound.proofs.open_store.Goals.{In_ok-used}

-- the entries stand and their domains are accepted
laid : (k : In_ok-used) → LaidAt k.args.s.now k.in_ok-used.used
laid k = k.in_ok-used.ensures

-- the packages are answered r
abbrev Packages : In_ok-used → Bool → Type 0
Packages k r = PackagesSay k.args.s.now k.in_ok-used.used r

pub returns-in_err-used : goal.returns-in_err-used
returns-in_err-used c = rw (err_again _ _ c.from_residual.ensures) c.in_err-used.ensures

pub packages_sound-requires : goal.packages_sound-requires
packages_sound-requires c =
    let l = laid (goal.at.packages_sound-requires c).In_ok-used in
    record { stand_from = (l.stand, l.domains); s_len_bound = l.small }

pub returns-then-packages_sound : goal.returns-then-packages_sound
returns-then-packages_sound c =
    let k = (goal.at.returns-then-packages_sound c).In_ok-used in
    laws.sound_at _ _ (laid k) (subst (Packages k) c.if-packages_sound.true c.packages_sound.ensures)

pub returns : goal.returns
returns c =
    let k = (goal.at.returns c).In_ok-used in
    laws.unopened_packages _ _ (laid k) (subst (Packages k) c.if-packages_sound.false c.packages_sound.ensures)
