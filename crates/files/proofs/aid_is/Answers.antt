-- `files::aid_is` meets its contract: the part that is the AID is compared. Assumes nothing.
use mathlib.Core.Path.{ap, ◌∙◌}
use Rattle.rules.specs.Bytes.{same}
use Rattle.files.proofs.aid_is.Goals as goal

pub aid_bytes-requires : goal.aid_bytes-requires
aid_bytes-requires c = c.requires

pub returns : goal.returns
returns c =
    let a-told = c.args in
    λ a j p. c.same_bytes.ensures ∙ ap (same a-told.x.now) (c.aid_bytes.ensures a j p)
