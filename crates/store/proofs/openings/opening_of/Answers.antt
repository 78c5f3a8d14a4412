-- `store::openings::opening_of` tells the opening that the definitions read, or that they read none. Assumes nothing.
use native.Mathlib.Omega.{arith}
use mathlib.Core.Path.{◌≡◌, sym, ◌∙◌}
use mathlib.Core.Bool.{true, false}
use lib.ListN.{take}
use Rattle.rules.specs.Bytes.{Bytes, same}
use Rattle.rules.specs.Store.{store_mark}
use borrow.Author.Tests.{not-false}
use Rattle.store.proofs.Opened as opened
use Rattle.store.proofs.openings.opening_of.Goals as goal
use Rattle.store.proofs.openings.opening_of.Goals.{After-limits_at-l, Else-not-opens, Else-opens}

-- the bytes, from where their mark is not version 1's; that, from where it is version 2's
abbrev bytes : Else-opens → Bytes
bytes k = k.args.s.now

-- the mark is not version 1's; it is version 2's
not_first : (k : Else-opens) → same (take 5 (bytes k)) (store_mark 1) ≡ false
not_first k = sym k.opens.ensures ∙ k.if-opens.false

second : (k : Else-not-opens) → same (take 5 (bytes (goal.at.Else-not-opens k).Else-opens)) (store_mark 2) ≡ true
second k = sym k.opens-2.ensures ∙ not-false _ k.if-not-opens.false-raw

pub opens-requires : goal.opens-requires
opens-requires c = omega arith

pub opens-requires-2 : goal.opens-requires-2
opens-requires-2 c = omega arith

pub limits_at-l-requires : goal.limits_at-l-requires
limits_at-l-requires c = omega arith

pub returns-then-s-lt5 : goal.returns-then-s-lt5
returns-then-s-lt5 c = opened.told_short _ (omega arith)

pub returns-then-opens : goal.returns-then-opens
returns-then-opens c = opened.told_first _ (sym c.opens.ensures ∙ c.if-opens.true)

pub returns-then-s-lt11 : goal.returns-then-s-lt11
returns-then-s-lt11 c = opened.told_cut _ (not_first (goal.at.returns-then-s-lt11 c).Else-opens) (omega arith)

pub returns-then-not-opens : goal.returns-then-not-opens
returns-then-not-opens c =
    opened.told_other _ (not_first (goal.at.returns-then-not-opens c).Else-opens) (sym c.opens-2.ensures ∙ c.if-not-opens.true)

pub returns-then-limits_ok : goal.returns-then-limits_ok
returns-then-limits_ok c =
    let ok = sym c.limits_ok.ensures ∙ c.if-limits_ok.true in
    opened.told_second _ (not_first (goal.at.returns-then-limits_ok c).Else-opens) (omega arith) (second (goal.at.returns-then-limits_ok c).Else-not-opens) _ c.limits_at-l.ensures ok

pub returns : goal.returns
returns c =
    let out = sym c.limits_ok.ensures ∙ c.if-limits_ok.false in
    opened.told_out _ (not_first (goal.at.returns c).Else-opens) (omega arith) (second (goal.at.returns c).Else-not-opens) _ c.limits_at-l.ensures out
