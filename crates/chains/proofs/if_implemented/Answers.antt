-- `chains::if_implemented` meets its contract. Assumes nothing.
use Rattle.files.specs.Say.{ImplementedIs}
use mathlib.Core.Path.{refl, subst}
use mathlib.Core.Bool.{Bool}
use Rattle.chains.proofs.if_implemented.Goals as goal

pub is_implemented-requires : goal.is_implemented-requires
is_implemented-requires c = c.requires

pub returns-then-not-is_implemented : goal.returns-then-not-is_implemented
returns-then-not-is_implemented c =
    let a = c.args in
    subst (λ (v : Bool). ImplementedIs a.g.now a.at v) (c.if-not-is_implemented.true)
    c.is_implemented.ensures

pub returns : goal.returns
returns c =
    let a = c.args in
    (refl, subst (λ (v : Bool). ImplementedIs a.g.now a.at v) (c.if-not-is_implemented.false) c.is_implemented.ensures)
