-- `calls::naming::named_well` meets its contract. Assumes nothing.
use mathlib.Core.Path.{refl, ap}
use mathlib.Core.Bool.{not}
use lib.Dec.{eqb}
use Rattle.calls.specs.Named.{SeenIs}
use Rattle.calls.proofs.Numbers.{was_no, was_yes}
use Rattle.calls.proofs.Forms as forms
use Rattle.calls.proofs.naming.named_well.Goals as goal

pub returns-then-not-is_seen : goal.returns-then-not-is_seen
returns-then-not-is_seen c =
    let a = c.args in
    let unseen = was_no (SeenIs a.g.now a.x.method (not (eqb a.x.home.from 0))) (ap not c.if-not-is_seen.true) c.is_seen.ensures in
    forms.well_unseen a.x _ a.kind refl unseen

pub returns : goal.returns
returns c =
    let a = c.args in
    forms.well_seen a.x _ a.kind c.has_form.result refl
    (was_yes (SeenIs a.g.now a.x.method (not (eqb a.x.home.from 0))) (ap not c.if-not-is_seen.false) c.is_seen.ensures) c.has_form.ensures
