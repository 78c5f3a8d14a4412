-- `imports::package_new` meets its contract. Assumes nothing.
use Rattle.imports.proofs.Imports as imports
use Rattle.imports.proofs.package_new.Goals as goal
use Rattle.imports.proofs.package_new.Goals.{After-own_aid, After-package_by, Start}

pub own_aid-requires : goal.own_aid-requires
own_aid-requires c =
    let a = c.args in
    imports.setting_reads a.f.now a.s.now a.end c.requires.setting_there

pub package_by-requires : goal.package_by-requires
package_by-requires c =
    let a = c.args in
    record { files_stand = imports.setting_stands a.f.now a.s.now a.end c.requires.setting_there; index_is = c.requires.index_is }

pub returns : goal.returns
returns c =
    let a = c.args in
    imports.new_is a.f.now a.s.now a.end c.own_aid.result.now c.own_aid.ensures c.package_by.result c.package_by.ensures _ c.is_none.ensures
