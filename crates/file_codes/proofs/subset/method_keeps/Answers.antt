-- `file_codes::subset::method_keeps` meets its contract: a method that is not implemented has no code. Assumes nothing.
use mathlib.Core.Path.{subst}
use Rattle.files.specs.Say.{ImplementedIs}
use Rattle.file_codes.proofs.Keeping.{keeps_bare, keeps_code}
use Rattle.file_codes.proofs.subset.method_keeps.Goals as goal

pub returns-then-not-is_implemented : goal.returns-then-not-is_implemented
returns-then-not-is_implemented c =
    let a = c.args in
    keeps_bare (subst (ImplementedIs a.f.now a.at) (c.if-not-is_implemented.true) c.is_implemented.ensures)

pub returns : goal.returns
returns c =
    let a = c.args in
    keeps_code c.code_of.result.now c.without_int.result
    (subst (ImplementedIs a.f.now a.at) (c.if-not-is_implemented.false) c.is_implemented.ensures) c.code_of.ensures
    c.without_int.ensures
