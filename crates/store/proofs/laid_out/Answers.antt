-- `store::laid_out` tells the used value of the layout that the definitions read, or that they read none. Assumes nothing.
use mathlib.Core.Path.{sym, ◌∙◌, ap, subst}
use Rattle.rules.specs.Store.{version1, version2, opening_length}
use Rattle.cursor.specs.Limits.{limits_of}
use Rattle.std.specs.Prelude.{Some}
use Rattle.store.specs.Openings.{opening_told}
use Rattle.store.specs.Answers.{LayoutSays}
use Rattle.store.proofs.Opened as opened
use Rattle.rules.proofs.Tests.{none_some}
use Rattle.store.proofs.Laid as laid
use Rattle.store.proofs.laid_out.Goals as goal

pub laid_from-requires : goal.laid_from-requires
laid_from-requires c =
    let k = opened.opening_told_lem _ c.opening_of.result version1 c.opening_of.ensures (ap opening_told (c.in_ok-opening_of.was ∙ ap (λ o. Some o) c.in-First.is)) in
    (k.1, sym (ap opening_length k.0))

pub laid_from-requires-in-Second : goal.laid_from-requires-in-Second
laid_from-requires-in-Second c =
    let k = opened.opening_told_lem _ c.opening_of.result (version2 (limits_of c.in-Second.field-0)) c.opening_of.ensures (ap opening_told (c.in_ok-opening_of.was ∙ ap (λ o. Some o) c.in-Second.is)) in
    (k.1, sym (ap opening_length k.0))

pub returns-in-First : goal.returns-in-First
returns-in-First c = c.laid_from.ensures

pub returns-in-Second : goal.returns-in-Second
returns-in-Second c = c.laid_from-in-Second.ensures

pub returns-in_err-opening_of : goal.returns-in_err-opening_of
returns-in_err-opening_of c =
    let s = c.args.s.now in
    let none = laid.laid_none s (λ i. (c.type_inv.s i).fits) (λ es t. none_some (c.in_err-opening_of.ensures ∙ t.opens)) in
    subst (LayoutSays s) (sym c.from_residual.ensures) none
