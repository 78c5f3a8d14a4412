-- `references::kept::keep` meets its contract: a declaration or nothing is written. Assumes nothing.
use native.Mathlib.Omega.{arith}
use mathlib.Core.Path.{ap, subst}
use Rattle.references.specs.Kept.{told_of, SmallFound}
use Rattle.references.specs.declared.Meant.{Meant}
use Rattle.references.proofs.Table as table
use Rattle.references.proofs.kept.keep.Goals as goal
use Rattle.references.proofs.kept.keep.Goals.{In-Some}

-- the declaration
abbrev meant : In-Some → Meant
meant k = k.in-Some.m

pub keep_meant-requires : goal.keep_meant-requires
keep_meant-requires c =
    (c.requires.0, c.requires.1, subst SmallFound c.in-Some.is c.requires.2)

pub returns-in-Some : goal.returns-in-Some
returns-in-Some c =
    table.kept_meant_lem c.args.table.now _ c.args.k (omega (arith, c.requires.0, c.requires.1)) (told_of c.args.x) (meant (goal.at.returns-in-Some c).In-Some)
    (ap told_of c.in-Some.is) c.keep_meant.ensures

pub returns-in-None : goal.returns-in-None
returns-in-None c =
    table.kept_nothing c.args.table.now _ c.args.k (omega (arith, c.requires.0, c.requires.1)) (told_of c.args.x)
    (ap told_of c.in-None.is) c.keep_nothing.ensures
