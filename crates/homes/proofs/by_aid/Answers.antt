-- `homes::by_aid` meets its contract. Assumes nothing.
use Rattle.homes.proofs.Lookups as look
use Rattle.homes.proofs.by_aid.Goals as goal
use Rattle.homes.proofs.by_aid.Goals.{After-package_by}

pub package_by-requires : goal.package_by-requires
package_by-requires c =
    record { files_stand = c.requires.files; index_is = c.requires.is }

pub returns : goal.returns
returns c =
    let a = c.args in
    look.by_aid_file a.s.now a.end a.aid.now c.package_by.result c.in_ok-b.b c.in_ok-b.was c.package_by.ensures

pub returns-in_err-b : goal.returns-in_err-b
returns-in_err-b c =
    let a = c.args in
    rw c.from_residual.ensures (look.by_aid_missing a.s.now a.end a.aid.now c.package_by.result c.in_err-b.was c.package_by.ensures)
