-- `coverage::lists_wanted` meets its contract: by the bit, or by looking for the AID with that index. Assumes nothing.
use mathlib.Core.Path.{sym, ◌∙◌}
use Rattle.policies.proofs.Rules as rules
use Rattle.coverage.proofs.Looked as looked
use Rattle.coverage.proofs.lists_wanted.Goals as goal

pub returns-then-has_bit : goal.returns-then-has_bit
returns-then-has_bit c =
    let a = c.args in
    looked.wanted_bit a.f.now a.g.now a.other.now a.l a.x a.m a.row.now (sym c.has_bit.ensures ∙ c.if-has_bit.true)

pub nth_aid-requires : goal.nth_aid-requires
nth_aid-requires c = rules.has_aids c.requires.has_slot.0

pub aid_bytes-requires : goal.aid_bytes-requires
aid_bytes-requires c =
    rules.nth_there c.args.x.index c.nth_aid.ensures c.in-Some.is c.requires.has_slot.0

pub lists_kept-requires : goal.lists_kept-requires
lists_kept-requires c =
    record { list_over = c.requires.has_slot.2; has_places = c.requires.has_places }

pub returns-in-Some : goal.returns-in-Some
returns-in-Some c =
    let a = c.args in
    looked.wanted_looked a.f.now a.g.now a.other.now a.l a.x a.m a.row.now c.requires.has_slot.0 c.nth_aid.ensures
    c.in-Some.is c.aid_bytes.ensures c.lists_kept.ensures

pub returns-in-None : goal.returns-in-None
returns-in-None c =
    let a = c.args in
    looked.wanted_missing a.f.now a.g.now a.other.now a.l a.x a.m a.row.now c.requires.has_slot.0 c.nth_aid.ensures
    c.requires.has_slot.1 c.in-None.is
