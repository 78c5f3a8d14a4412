-- `store::openings::limits_ok` meets its contract, a range at a time. Assumes nothing.
use native.Mathlib.Omega.{arith}
use mathlib.Core.Path.{◌≡◌, sym}
use mathlib.Core.Bool.{true}
use Rattle.rules.specs.Bytes.{within}
use Rattle.rules.specs.Limits.{Limits}
use Rattle.cursor.specs.Limits.{limits_of}
use Rattle.store.proofs.Opened as opened
use Rattle.store.proofs.openings.limits_ok.Goals as goal
use Rattle.store.proofs.openings.limits_ok.Goals.{After-struct_known-2-1, Else-l-gt16, Else-l-gt8}

-- the limits, from where the depth is compared with its most; the depth in its range, from where the parents are compared with their most
abbrev limits : After-struct_known-2-1 → Limits
limits k = limits_of k.args.l

-- the depth lies in its range, and so does the number of parents
depth-in : (k : Else-l-gt16) → within 1 16 (limits (goal.at.Else-l-gt16 k).After-struct_known-2-1).depth ≡ true
depth-in k = opened.within_yes 1 16 (limits (goal.at.Else-l-gt16 k).After-struct_known-2-1).depth (omega arith) (omega arith)

parents-in : (k : Else-l-gt8) → within 1 8 (limits (goal.at.Else-l-gt8 k).After-struct_known-2-1).parents ≡ true
parents-in k = opened.within_yes 1 8 (limits (goal.at.Else-l-gt8 k).After-struct_known-2-1).parents (omega arith) (omega arith)

pub returns-then-l-lt1 : goal.returns-then-l-lt1
returns-then-l-lt1 c =
    let l = limits_of c.args.l in
    opened.range_no l (opened.within_below 1 16 l.depth (omega (arith, c.if-l-lt1.true)))

pub returns-then-l-gt16 : goal.returns-then-l-gt16
returns-then-l-gt16 c =
    let l = limits (goal.at.returns-then-l-gt16 c).After-struct_known-2-1 in
    opened.range_no l (opened.within_above 1 16 l.depth (omega arith) (omega arith))

pub returns-then-l-lt1-2 : goal.returns-then-l-lt1-2
returns-then-l-lt1-2 c =
    let l = limits (goal.at.returns-then-l-lt1-2 c).After-struct_known-2-1 in
    opened.range_no_parents l (depth-in (goal.at.returns-then-l-lt1-2 c).Else-l-gt16) (opened.within_below 1 8 l.parents (omega arith))

pub returns-then-l-gt8 : goal.returns-then-l-gt8
returns-then-l-gt8 c =
    let l = limits (goal.at.returns-then-l-gt8 c).After-struct_known-2-1 in
    opened.range_no_parents l (depth-in (goal.at.returns-then-l-gt8 c).Else-l-gt16) (opened.within_above 1 8 l.parents (omega arith) (omega arith))

pub returns-then-l-lt1-3 : goal.returns-then-l-lt1-3
returns-then-l-lt1-3 c =
    let l = limits (goal.at.returns-then-l-lt1-3 c).After-struct_known-2-1 in
    opened.range_code l (depth-in (goal.at.returns-then-l-lt1-3 c).Else-l-gt16) (parents-in (goal.at.returns-then-l-lt1-3 c).Else-l-gt8) _ (sym (opened.within_below 1 32767 l.code (omega arith)))

pub returns : goal.returns
returns c =
    let l = limits (goal.at.returns c).After-struct_known-2-1 in
    opened.range_code l (depth-in (goal.at.returns c).Else-l-gt16) (parents-in (goal.at.returns c).Else-l-gt8) _ (sym (opened.within_from 1 32767 l.code (omega arith)))
