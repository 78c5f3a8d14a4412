-- `methods::enter` meets its contract: the method is put where its name belongs, unless its name is there. Assumes nothing.
use Rattle.methods.proofs.Entering as entering
use Rattle.methods.proofs.Search as search'
use Rattle.methods.specs.Table.{Lower}
use Prim.Native.Nat.{ℕ}
use mathlib.Core.Path.{sym, ◌∙◌, subst}
use Rattle.methods.proofs.enter.Goals as goal

pub returns-then-e-r : goal.returns-then-e-r
returns-then-e-r c =
    let a = c.args in
    entering.entered_over a.t.now a.places.now a.a a.e a.p c.requires.sorted c.open_at.new.places c.lower-r.result
    (subst (λ (x : ℕ). Lower a.t.now a.places.now a.a a.e x c.lower-r.result) c.name_at-name.ensures c.lower-r.ensures)
    c.open_at.ensures c.requires.e_in_bounds.0 c.requires.e_in_bounds.1 c.if-e-r.true

pub name_at-requires : goal.name_at-requires
name_at-requires c =
    let a = c.args in
    search'.named_of a.t.now a.places.now a.a a.e c.lower-r.result c.from.result c.requires.sorted c.lower-r.ensures.low c.if-e-r.false
    c.from.ensures

pub returns-then-name_at-name : goal.returns-then-name_at-name
returns-then-name_at-name c =
    let a = c.args in
    entering.entered_not a.t.now a.places.now a.a a.e a.p c.requires.sorted c.lower-r.result c.lower-r.ensures.low c.if-e-r.false
    (sym (search'.name_of a.t.now a.places.now c.lower-r.result c.from.result c.name_at.result c.from.ensures
    c.name_at.ensures) ∙ c.if-name_at-name.true ∙ c.name_at-name.ensures)

pub returns : goal.returns
returns c =
    let a = c.args in
    entering.entered_here a.t.now a.places.now a.a a.e a.p c.requires.sorted c.open_at-2.new.places c.lower-r.result
    (subst (λ (x : ℕ). Lower a.t.now a.places.now a.a a.e x c.lower-r.result) c.name_at-name.ensures c.lower-r.ensures) c.open_at-2.ensures
    c.requires.e_in_bounds.0 c.requires.e_in_bounds.1 c.if-e-r.false
    (λ z. c.if-name_at-name.false ((search'.name_of a.t.now a.places.now c.lower-r.result c.from.result c.name_at.result c.from.ensures
    c.name_at.ensures) ∙ z ∙ sym c.name_at-name.ensures))
