-- `names::form_ok` meets its contract: by the three bits. Assumes nothing.
use mathlib.Core.Bool.{not, true, false}
use Rattle.names.proofs.Rules as rules
use Rattle.names.proofs.form_ok.Goals as goal
use Rattle.names.proofs.form_ok.Goals.{After-is_implemented-implemented, After-is_static}

pub is_implemented-implemented-requires : goal.is_implemented-implemented-requires
is_implemented-implemented-requires c = c.requires

pub is_static-requires : goal.is_static-requires
is_static-requires c = c.requires

pub returns-then-interface : goal.returns-then-interface
returns-then-interface c =
    let a = c.args in
    rules.form_is a.interface false c.is_static.ensures c.is_implemented-implemented.ensures
    (rw (c.if-interface.true, c.if-is_static.true))

pub returns-then-is_static : goal.returns-then-is_static
returns-then-is_static c =
    let a = c.args in
    rules.form_is a.interface c.is_implemented-implemented.result c.is_static.ensures c.is_implemented-implemented.ensures (rw (c.if-interface.false, c.if-is_static.true))

pub returns-then-interface-2 : goal.returns-then-interface-2
returns-then-interface-2 c =
    let a = c.args in
    rules.form_is a.interface (not c.is_implemented-implemented.result) c.is_static.ensures c.is_implemented-implemented.ensures (rw (c.if-interface-2.true, c.if-is_static.false))

pub returns : goal.returns
returns c =
    let a = c.args in
    rules.form_is a.interface true c.is_static.ensures c.is_implemented-implemented.ensures
    (rw (c.if-interface-2.false, c.if-is_static.false))
