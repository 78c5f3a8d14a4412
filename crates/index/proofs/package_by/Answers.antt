-- `index::package_by` reads the package off its entry, whose place the search finds. Assumes nothing.
use mathlib.Core.Path.{sym, subst}
use Rattle.store.specs.Answers.{FileAt}
use Rattle.index.proofs.Asked as asked
use Rattle.index.proofs.package_by.Goals as goal

pub find-requires : goal.find-requires
find-requires c =
    c.requires.index_is.table.sorted

pub returns-in_err-at : goal.returns-in_err-at
returns-in_err-at c =
    subst (FileAt c.args.s.now c.args.end c.args.aid.now) (sym c.from_residual.ensures)
    (asked.package_missing c.args.s.now c.args.end c.args.index.now c.args.aid.now c.requires.index_is c.in_err-at.ensures)

pub file_from-requires : goal.file_from-requires
file_from-requires c =
    asked.found_inside c.args.s.now c.args.end c.args.index.now c.args.aid.now c.requires.index_is c.in_ok-at.at c.in_ok-at.ensures

pub entry_to-requires : goal.entry_to-requires
entry_to-requires c =
    asked.found_inside c.args.s.now c.args.end c.args.index.now c.args.aid.now c.requires.index_is c.in_ok-at.at c.in_ok-at.ensures

pub returns : goal.returns
returns c =
    asked.package_there c.args.s.now c.args.end c.args.index.now c.args.aid.now c.requires.index_is c.in_ok-at.at
    c.file_from.result c.entry_to.result c.in_ok-at.ensures c.file_from.ensures c.entry_to.ensures
