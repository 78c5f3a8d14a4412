-- `cursor::Limits::standard` meets its contract: the values are document 01's. Assumes nothing.
use mathlib.Core.Path.{refl}
use Rattle.rules.specs.Package.{standard}
use Rattle.cursor.proofs.Limits.standard.Goals as goal

pub returns : goal.returns
unfolding standard
returns c = refl
