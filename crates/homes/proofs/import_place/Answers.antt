-- `homes::import_place` meets its contract. Assumes nothing.
use Rattle.homes.proofs.Lookups.{import_placed}
use Rattle.files.proofs.Walks.{imports_there}
use Rattle.homes.proofs.Lookups.{import_placed}
use Rattle.homes.proofs.import_place.Goals as goal

pub nth_aid-requires : goal.nth_aid-requires
nth_aid-requires c = imports_there c.imports_at.ensures c.requires

pub returns : goal.returns
returns c =
    let a = c.args in
    import_placed a.g.now c.imports_at.result a.k c.nth_aid.result c.imports_at.ensures c.nth_aid.ensures
