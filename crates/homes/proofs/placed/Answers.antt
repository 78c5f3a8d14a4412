-- `homes::placed` meets its contract: the own home, or the home at the place of the import. Assumes nothing.
use Prim.Native.Nat.{◌-◌}
use native.Mathlib.Omega.{arith}
use mathlib.Core.Path.{sym, ◌∙◌, ap}
use Rattle.homes.specs.Homes.{home_of}
use Rattle.homes.proofs.Imported as imported
use Rattle.homes.proofs.placed.Goals as goal
use Rattle.homes.proofs.placed.Goals.{After-long-place, After-shared_slice_known-1, Start}

pub returns-then-p-eq0 : goal.returns-then-p-eq0
returns-then-p-eq0 c =
    imported.placed_own _ _ _ c.args.p _ c.if-p-eq0.true c.own_home.ensures

pub returns-then-p-gt15 : goal.returns-then-p-gt15
returns-then-p-gt15 c = imported.placed_past _ _ _ c.args.p (omega (arith, c.requires.0, c.if-p-gt15.true))

pub returns-then-place-eq0 : goal.returns-then-place-eq0
returns-then-place-eq0 c =
    imported.placed_none _ _ _ c.args.p c.if-p-eq0.false (sym c.long-place.ensures.0 ∙ c.if-place-eq0.true)

pub home_at-requires : goal.home_at-requires
home_at-requires c =
    rw c.long-place.ensures.0 (c.requires.1 (c.args.p - 1) (λ e. c.if-place-eq0.false (c.long-place.ensures.0 ∙ e)))

pub returns : goal.returns
returns c =
    imported.placed_at _ _ _ c.args.p _ c.if-p-eq0.false (λ e. c.if-place-eq0.false (c.long-place.ensures.0 ∙ e))
    (c.home_at.ensures ∙ ap (home_of c.args.s.now) c.long-place.ensures.0)
