-- `imports::import_home` meets its contract. Assumes nothing.
use Rattle.files.specs.Say.{AidNth}
use Rattle.imports.proofs.Imports as imports
use mathlib.Core.Path.{subst}
use Rattle.imports.proofs.import_home.Goals as goal
use Rattle.imports.proofs.import_home.Goals.{After-nth_aid, Start}

pub nth_aid-requires : goal.nth_aid-requires
nth_aid-requires c =
    let a = c.args in
    imports.imports_aids a.f.now a.s.now a.end a.at c.requires.import_there.1 c.requires.import_there.0

pub aid_bytes-requires : goal.aid_bytes-requires
aid_bytes-requires c =
    let a = c.args in
    imports.import_ends a.f.now a.s.now a.end a.at a.k c.requires.import_there.1 c.in_ok-c.c
    (subst (AidNth a.f.now a.at a.k) c.in_ok-c.was c.nth_aid.ensures) c.requires.import_there.0

pub by_aid-requires : goal.by_aid-requires
by_aid-requires c =
    let a = c.args in
    imports.indexed a.f.now a.s.now a.end _ c.requires.import_there.0 c.requires.index_is

pub returns : goal.returns
returns c =
    let a = c.args in
    imports.import_is a.f.now a.s.now a.end a.at a.k c.requires.import_there.1 c.in_ok-c.c c.aid_bytes.result.now
    (subst (AidNth a.f.now a.at a.k) c.in_ok-c.was c.nth_aid.ensures) c.aid_bytes.ensures c.by_aid.result
    c.by_aid.ensures

pub returns-in_err-c : goal.returns-in_err-c
returns-in_err-c c =
    let a = c.args in
    rw c.from_residual.ensures (imports.import_never a.f.now a.s.now a.end a.at a.k c.requires.import_there.1
    (subst (AidNth a.f.now a.at a.k) c.in_err-c.was c.nth_aid.ensures))
