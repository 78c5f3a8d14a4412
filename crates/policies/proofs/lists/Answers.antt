-- `policies::lists` meets its contract: the search through the indexes answers as the test of each. Assumes nothing.
use mathlib.Core.Path.{◌∙◌}
use lib.Dec.{eqb}
use Rattle.std.proofs.Common.{rules, tests}
use Rattle.std.proofs.lemmas.Iterator.{YieldsList-from_slice}
use Rattle.std.proofs.lemmas.Iterator.Search.{any_from_yields_List}
use Rattle.policies.specs.Say.{indexes_at}
use Rattle.policies.proofs.Indexes.{list_any_is}
use Rattle.policies.proofs.lists.Goals as goal

pub returns : goal.returns
returns c =
    let a = c.args in
    any_from_yields_List (eqb a.k) _ _ c.any.result c.any.ensures.ran (YieldsList-from_slice (indexes_at a.s.now a.at) cc) (λ x b q k. search (rules, tests))
    ∙ list_any_is _ (indexes_at a.s.now a.at)
