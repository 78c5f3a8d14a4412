-- `policies::admits` meets its contract: FF allows every domain, a list what its slots stand for. Assumes nothing.
use mathlib.Core.Path.{sym, ◌∙◌}
use Rattle.policies.proofs.Rules as rules
use Rattle.policies.proofs.Listed as listed
use Rattle.policies.proofs.admits.Goals as goal

pub bounds-s-p : goal.bounds-s-p
bounds-s-p c = rules.over_in c.requires

pub returns-then-wide-eq255 : goal.returns-then-wide-eq255
returns-then-wide-eq255 c =
    let a = c.args in
    listed.admits_every a.own.now a.x.now (sym c.wide.ensures.0 ∙ c.if-wide-eq255.true)

pub listed_slot-requires : goal.listed_slot-requires
listed_slot-requires c = (c.requires, λ e. c.if-wide-eq255.false (c.wide.ensures.0 ∙ e))
