-- `named::home_at` meets its contract: the own home, or the home at the import's place. Assumes nothing.
use mathlib.Core.Path.{◌∙◌, ap}
use Rattle.homes.specs.Homes.{home_of}
use Rattle.named.proofs.Numbers as numbers
use Rattle.named.proofs.home_at.Goals as goal
use Rattle.named.proofs.home_at.Goals.{After-long, After-shared_slice_known-1, Start}

pub returns-then-p-eq0 : goal.returns-then-p-eq0
returns-then-p-eq0 c = numbers.home_own _ _ _ c.args.p _ c.if-p-eq0.true c.own_home.ensures

pub home_at-requires : goal.home_at-requires
home_at-requires c = rw c.long.ensures.0 (c.requires.1.stands c.if-p-eq0.false)

pub returns : goal.returns
returns c =
    numbers.home_import _ _ _ c.args.p _ c.if-p-eq0.false (c.home_at.ensures ∙ ap (home_of c.args.s.now) c.long.ensures.0)
