-- `policies::listed_as` meets its contract: the AID is compared first, then the number looked for. Assumes nothing.
use mathlib.Core.Path.{sym, ◌∙◌}
use borrow.Author.Tests.{not-true, not-false}
use Rattle.policies.proofs.Listed as listed
use Rattle.policies.proofs.listed_as.Goals as goal
use Rattle.policies.proofs.listed_as.Goals.{After-aid_is}

pub aid_is-requires : goal.aid_is-requires
aid_is-requires c = c.requires.ends

pub returns-then-not-aid_is : goal.returns-then-not-aid_is
returns-then-not-aid_is c =
    let a-told = c.args in
    listed.listed_other a-told.x.now a-told.at
    a-told.k (λ a j p. sym (not-true c.aid_is.result c.if-not-aid_is.true-raw) ∙ c.aid_is.ensures a j p)

pub lists-requires : goal.lists-requires
lists-requires c =
    c.requires.indexes_there

pub returns : goal.returns
returns c =
    let a-told = c.args in
    listed.listed_this a-told.x.now a-told.at
    a-told.k (λ a j p. sym (not-false c.aid_is.result c.if-not-aid_is.false-raw) ∙ c.aid_is.ensures a j p)
    c.lists.ensures
