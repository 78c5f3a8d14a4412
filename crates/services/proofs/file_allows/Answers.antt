-- `services::file_allows` meets its contract: the class by its number, and its answer. Assumes nothing.
use Rattle.std.specs.Prelude.{Some, None}
use mathlib.Core.Path.{refl}
use Rattle.services.proofs.Allows as allows
use Rattle.services.proofs.file_allows.Goals as goal

pub returns-in_err-c : goal.returns-in_err-c
returns-in_err-c c =
    let a = c.args in
    rw c.from_residual.ensures (allows.file_none a.g.now a.class a.name None c.in_err-c.ensures a.own.now a.domain.now refl)

pub class_allows-requires : goal.class_allows-requires
class_allows-requires c =
    allows.class_of c.args.g.now c.args.class c.args.name (Some c.in_ok-c.c) c.in_ok-c.ensures c.in_ok-c.c refl c.requires

pub returns : goal.returns
returns c =
    let a = c.args in
    allows.file_says a.g.now a.class a.name (Some c.in_ok-c.c) c.in_ok-c.ensures a.own.now c.in_ok-c.c a.domain.now
    c.class_allows.result refl c.class_allows.ensures
