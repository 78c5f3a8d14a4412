-- `store::subset::is_without_int` tells a kind-3 domain by its kind byte, then by its AID. Assumes nothing.
use Rattle.store.proofs.Checks as checks
use mathlib.Core.Path.{◌∙◌}
use Rattle.rules.specs.Bytes.{Bytes}
use Rattle.store.specs.Entries.{part}
use Rattle.store.proofs.subset.is_without_int.Goals as goal
use Rattle.store.proofs.subset.is_without_int.Goals.{Else-s-at-ne3, Start}

abbrev aid : Start → Bytes
aid b = part b.args.s.now b.args.from b.args.next

pub returns-then-s-at-ne3 : goal.returns-then-s-at-ne3
returns-then-s-at-ne3 c =
    checks.other_kind c.args.s.now c.args.at c.args.aid.now (aid (goal.at.returns-then-s-at-ne3 c).Start) c.if-s-at-ne3.true

pub returns : goal.returns
returns c =
    c.same_bytes.ensures ∙ checks.third_kind c.args.s.now c.args.at c.args.aid.now (aid (goal.at.returns c).Start) c.if-s-at-ne3.false
