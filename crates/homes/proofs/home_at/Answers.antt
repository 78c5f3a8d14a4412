-- `homes::home_at` reads the home off the entry. Assumes nothing.
use Rattle.homes.proofs.Places.{package_head, home_is}
use Rattle.homes.proofs.home_at.Goals as goal
use Rattle.homes.proofs.home_at.Goals.{Start}

pub file_from-from-requires : goal.file_from-from-requires
file_from-from-requires c =
    package_head c.args.s.now c.args.before c.requires

pub entry_to-to-requires : goal.entry_to-to-requires
entry_to-to-requires c =
    package_head c.args.s.now c.args.before c.requires

pub returns : goal.returns
returns c =
    home_is c.args.s.now c.args.before c.file_from-from.result c.entry_to-to.result c.file_from-from.ensures c.entry_to-to.ensures
