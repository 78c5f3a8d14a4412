-- `writing::write_fresh_limits` answers question 30, and leaves an empty store of version 2 where that is yes. Assumes nothing.
use Rattle.rules.proofs.Tests.{of_true}
use Rattle.rules.specs.Limits.{limits_range}
use Rattle.writing.specs.Changes.{limits_given}
use Rattle.writing.proofs.Empty as empty
use borrow.Author.Tests.{not-true, not-false}
use mathlib.Core.Path.{◌≡◌, refl, sym, ◌∙◌}
use mathlib.Core.Bool.{true, false}
use Rattle.writing.proofs.write_fresh_limits.Goals as goal
use Rattle.writing.proofs.write_fresh_limits.Goals.{After-write_limited, Else-not-limits_ok}

in_range : (k : Else-not-limits_ok) →
    let a = k.args in
    limits_range (limits_given a.depth a.parents a.code) ≡ true
in_range k = sym k.limits_ok.ensures ∙ not-false _ k.if-not-limits_ok.false-raw

pub returns-then-not-limits_ok : goal.returns-then-not-limits_ok
returns-then-not-limits_ok c =
    let a = c.args in
    record { value = empty.ranges_asked (limits_given a.depth a.parents a.code) false (sym c.limits_ok.ensures ∙ not-true c.limits_ok.result c.if-not-limits_ok.true-raw); store_after = refl }

pub write_limited-requires : goal.write_limited-requires
write_limited-requires c = (c.requires, of_true (in_range (goal.at.write_limited-requires c).Else-not-limits_ok))

pub returns : goal.returns
returns c =
    record { value = empty.ranges_asked _ true (in_range (goal.at.returns c).Else-not-limits_ok); store_after = c.write_limited.ensures }
