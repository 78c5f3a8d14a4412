-- `index::enter_package` enters a place that has its bytes, room in the table and an AID of its own. Assumes nothing.
use Rattle.index.proofs.Entering as entering
use Rattle.index.proofs.enter_package.Goals as goal
use Rattle.index.proofs.enter_package.Goals.{After-enter, Start}

pub enter-requires : goal.enter-requires
enter-requires c = let all = entering.enter_ready c.args.s.now c.args.at c.args.file c.args.next c.args.index.now c.requires.index_is.0
    c.requires.index_is.1 c.requires.package_stands c.requires.s_len_bound in record { sorted = all.0; table_in_bounds = all.1 }

pub returns : goal.returns
returns c =
    entering.enter_is c.args.s.now c.args.at c.args.file c.args.next c.args.index.now c.requires.index_is.0
    c.requires.index_is.1 c.requires.package_stands c.enter.new.table c.enter.result c.enter.ensures
