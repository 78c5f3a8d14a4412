-- `references::kept::keep_told` meets its contract: a declaration, nothing, or that it is open is written Assumes nothing.
use native.Mathlib.Omega.{arith}
use mathlib.Core.Path.{subst}
use Rattle.references.specs.Kept.{SmallTold}
use Rattle.references.proofs.Table as table
use Rattle.references.proofs.kept.keep_told.Goals as goal

pub keep_meant-requires : goal.keep_meant-requires
keep_meant-requires c =
    (c.requires.0, c.requires.1, subst SmallTold c.in-Method.is c.requires.2)

pub returns-in-Method : goal.returns-in-Method
returns-in-Method c =
    table.kept_meant_lem c.args.table.now _ c.args.k (omega (arith, c.requires.0, c.requires.1)) c.args.x c.in-Method.m
    c.in-Method.is c.keep_meant.ensures

pub returns-in-Nothing : goal.returns-in-Nothing
returns-in-Nothing c =
    table.kept_nothing c.args.table.now _ c.args.k (omega (arith, c.requires.0, c.requires.1)) c.args.x
    c.in-Nothing.is c.keep_nothing.ensures

pub keep_open-requires : goal.keep_open-requires
keep_open-requires c =
    let small = subst SmallTold c.in-Open.is c.requires.2 in
    (c.requires.0, c.requires.1, small.0, small.1)

pub returns-in-Open : goal.returns-in-Open
returns-in-Open c =
    table.kept_open c.args.table.now _ c.args.k (omega (arith, c.requires.0, c.requires.1)) c.args.x _ _ c.in-Open.is c.keep_open.ensures
