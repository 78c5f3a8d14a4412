-- `policies::listed_slot` meets its contract: a domain listed by its index is told first, then the own domain listed as FE. Assumes nothing.
use mathlib.Core.Path.{sym, ◌∙◌}
use Rattle.policies.proofs.Rules as rules
use Rattle.policies.proofs.Listed as listed
use Rattle.policies.proofs.listed_slot.Goals as goal
use Rattle.policies.proofs.listed_slot.Goals.{else-same_bytes-via-then-same_bytes+else-lists, else-same_bytes-via-else-same_bytes}

pub returns-in-Some : goal.returns-in-Some
returns-in-Some c = listed.slot_listed c.args.own.now c.args.x.now c.requires.1 c.in-Some.ensures

pub lists-requires : goal.lists-requires
lists-requires c = rules.over_indexes c.requires.0 c.requires.1

pub returns-then-lists : goal.returns-then-lists
returns-then-lists c =
    listed.slot_as_own c.args.own.now c.args.x.now c.requires.1 c.in-None.ensures (sym c.same_bytes.ensures ∙ c.if-same_bytes.true)
    (sym c.if-lists.true ∙ c.lists.ensures)

-- the policy does not list FE, or x is another domain
pub returns-else-same_bytes : goal.returns-else-same_bytes
returns-else-same_bytes c =
    elim c.else-same_bytes.branch [
      | else-same_bytes-via-then-same_bytes+else-lists w ↦
          listed.slot_unlisted c.args.own.now c.args.x.now c.requires.1 c.in-None.ensures (sym c.same_bytes.ensures ∙ w.if-same_bytes.true)
          (sym w.if-lists.false ∙ w.lists.ensures)
      | else-same_bytes-via-else-same_bytes w ↦
          listed.slot_none c.args.own.now c.args.x.now c.requires.1 c.in-None.ensures (sym c.same_bytes.ensures ∙ w.if-same_bytes.false)
    ]
