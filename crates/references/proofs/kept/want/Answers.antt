-- `references::kept::want` meets its contract: what is open stays open. Assumes nothing.
use native.Mathlib.Omega.{arith}
use mathlib.Core.Path.{refl}
use Rattle.references.proofs.Table as table
use Rattle.references.proofs.kept.want.Goals as goal

pub returns : goal.returns
returns c =
    table.still_open c.args.table.now _ c.args.k (omega (arith, c.requires.0, c.requires.1)) c.requires.2 refl
