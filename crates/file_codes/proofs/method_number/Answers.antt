-- `file_codes::method_number` meets its contract: a method that is not implemented has no code. Assumes nothing.
use mathlib.Core.Path.{subst}
use Rattle.refusals.specs.Order.{code_told}
use Rattle.files.specs.Say.{ImplementedIs}
use Rattle.file_codes.proofs.Loops.{method_short, bare_number, code_number_lem}
use Rattle.file_codes.proofs.method_number.Goals as goal

pub is_implemented-requires : goal.is_implemented-requires
is_implemented-requires c =
    (c.requires.method_here.0, c.requires.method_here.1, c.requires.method_here.2)

pub returns-then-not-is_implemented : goal.returns-then-not-is_implemented
returns-then-not-is_implemented c =
    let a = c.args in
    let told = subst (ImplementedIs a.f.now a.at) (c.if-not-is_implemented.true) c.is_implemented.ensures in
    record { number = bare_number told; before = tt }

pub code_of-requires : goal.code_of-requires
code_of-requires c =
    (c.requires.method_here.0, c.requires.method_here.1, c.requires.method_here.2)

pub handlers_of-requires : goal.handlers_of-requires
handlers_of-requires c =
    (c.requires.method_here.0, c.requires.method_here.1, c.requires.method_here.2)

pub check_code-requires : goal.check_code-requires
check_code-requires c =
    let a = c.args in
    let short = method_short a.starts.now a.targets.now c.code_of.result.now c.code_of.ensures
    c.requires.method_here in
    (c.requires.table_is, short.0, short.1)

pub returns : goal.returns
returns c =
    let a = c.args in
    let told = subst (ImplementedIs a.f.now a.at) (c.if-not-is_implemented.false) c.is_implemented.ensures in
    record {
      number = code_number_lem c.code_of.result.now c.handlers_of.result.now (code_told c.check_code.result) told c.code_of.ensures c.handlers_of.ensures c.check_code.ensures.0;
      before = c.check_code.ensures.1;
    }
