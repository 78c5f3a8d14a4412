-- `methods::find` meets its contract: the name at the bound is the one searched for, or none is. Assumes nothing.
use Rattle.methods.proofs.Search as search'
use mathlib.Core.Path.{sym, ◌∙◌}
use Rattle.methods.proofs.find.Goals as goal

pub returns-then-e-r : goal.returns-then-e-r
returns-then-e-r c =
    let a = c.args in
    search'.none_over a.t.now a.places.now a.a a.e a.name c.requires c.lower-r.result c.lower-r.ensures c.if-e-r.true

pub name_at-requires : goal.name_at-requires
name_at-requires c =
    let a = c.args in
    search'.named_of a.t.now a.places.now a.a a.e c.lower-r.result c.from.result c.requires c.lower-r.ensures.low c.if-e-r.false
    c.from.ensures

pub returns-then-name_at-name : goal.returns-then-name_at-name
returns-then-name_at-name c =
    let a = c.args in
    (search'.none_here a.t.now a.places.now a.a a.e a.name c.requires c.lower-r.result c.lower-r.ensures c.if-e-r.false
    (λ z. c.if-name_at-name.true ((search'.name_of a.t.now a.places.now c.lower-r.result c.from.result c.name_at.result c.from.ensures
    c.name_at.ensures) ∙ z)))

pub returns : goal.returns
returns c =
    let a = c.args in
    record {
      low = c.lower-r.ensures.low;
      high = c.if-e-r.false;
      named = (sym (search'.name_of a.t.now a.places.now c.lower-r.result c.from.result c.name_at.result c.from.ensures
          c.name_at.ensures) ∙ c.if-name_at-name.false);
    }
