-- `sorted::key_place` tells a package by its kind. Assumes nothing.
use native.Mathlib.Omega.{arith}
use mathlib.Core.Path.{sym}
use Rattle.sorted.proofs.Table as table
use Rattle.sorted.proofs.key_place.Goals as goal
use Rattle.sorted.proofs.key_place.Goals.{Else-s-p-ne2, Start}

pub returns-then-s-p-ne2 : goal.returns-then-s-p-ne2
returns-then-s-p-ne2 c =
    sym (table.key_place_domain c.args.s.now c.args.p c.if-s-p-ne2.true)

pub returns : goal.returns
returns c =
    let e = table.key_place_package c.args.s.now c.args.p c.if-s-p-ne2.false in
    omega (arith, e, c.wide.ensures.0)
