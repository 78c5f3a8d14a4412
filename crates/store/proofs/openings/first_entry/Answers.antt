-- `store::openings::first_entry` meets its contract. Assumes nothing.
use mathlib.Core.Path.{sym, ◌∙◌, ap}
use Rattle.rules.specs.Store.{version1, version2, opening_length}
use Rattle.cursor.specs.Limits.{limits_of}
use Rattle.std.specs.Prelude.{Some}
use Rattle.store.specs.Openings.{opening_told}
use Rattle.store.proofs.Opened as opened
use Rattle.store.proofs.openings.first_entry.Goals as goal

pub returns-in-Some-First : goal.returns-in-Some-First
returns-in-Some-First c =
    let k = opened.opening_told_lem _ c.opening_of.result version1 c.opening_of.ensures (ap opening_told (c.in-Some-First.is ∙ ap (λ o. Some o) c.in-Some-First.field-0-is)) in
    sym (ap opening_length k.0)

pub returns-in-Some-Second : goal.returns-in-Some-Second
returns-in-Some-Second c =
    let k = opened.opening_told_lem _ c.opening_of.result (version2 (limits_of c.in-Some-Second.field-0-0)) c.opening_of.ensures (ap opening_told (c.in-Some-Second.is ∙ ap (λ o. Some o) c.in-Some-Second.field-0-is)) in
    sym (ap opening_length k.0)

pub returns-in-None : goal.returns-in-None
returns-in-None c =
    sym (ap opening_length (opened.opening_none _ (sym (ap opening_told c.in-None.is) ∙ c.opening_of.ensures)))
