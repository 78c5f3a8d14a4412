-- `services::other_imports` meets its contract. Assumes nothing.
use Rattle.files.specs.Say.{AidIs}
use Rattle.files.proofs.Walks as walks
use Rattle.services.proofs.Importers as importers
use mathlib.Core.Path.{subst}
use Rattle.services.proofs.other_imports.Goals as goal

pub aid_is-requires : goal.aid_is-requires
aid_is-requires c =
    walks.file_aid c.requires

pub returns-then-aid_is : goal.returns-then-aid_is
returns-then-aid_is c =
    let a = c.args in
    let g = a.g.now in
    let aid = a.aid.now in
    importers.other_own g aid (subst (AidIs g 7 aid) c.if-aid_is.true c.aid_is.ensures)

pub returns : goal.returns
returns c =
    let g = c.args.g.now in
    let aid = c.args.aid.now in
    importers.other_is g aid c.imports.result (subst (AidIs g 7 aid) c.if-aid_is.false c.aid_is.ensures) c.imports.ensures
