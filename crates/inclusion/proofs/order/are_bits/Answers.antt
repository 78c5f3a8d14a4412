-- `inclusion::order::are_bits` meets its contract: the search through the indexes answers as the test of each. Assumes nothing.
use Prim.Native.Nat.{ℕ}
use mathlib.Core.Path.{◌∙◌}
use Rattle.std.proofs.Common.{rules, tests}
use Rattle.std.proofs.lemmas.Iterator.{YieldsList-from_slice}
use Rattle.std.proofs.lemmas.Iterator.Search.{all_from_yields_List}
use Rattle.policies.specs.Say.{indexes_at}
use Rattle.policies.specs.Rows.{has_bit}
use Rattle.policies.proofs.Indexes.{list_all_is}
use Rattle.inclusion.specs.Order.{slot_as}
use Rattle.inclusion.proofs.order.are_bits.Goals as goal

pub returns : goal.returns
returns c =
    let a = c.args in
    all_from_yields_List (λ (k : ℕ). has_bit a.m (slot_as a.own k)) _ _ c.all.result c.all.ensures.ran (YieldsList-from_slice (indexes_at a.s.now a.at) cc)
    (λ x b q k. search (rules, tests)) ∙ list_all_is _ (indexes_at a.s.now a.at)
