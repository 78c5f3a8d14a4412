-- `inclusion::order::index_bits` meets its contract: the indexes passed are bits. Assumes nothing.
use Prim.Native.Nat.{ℕ, ◌%◌}
use Rattle.policies.specs.Say.{indexes_at}
use Rattle.policies.proofs.Gathered as gathered
use Rattle.inclusion.specs.Order.{slot_as}
use Rattle.inclusion.proofs.order.index_bits.Given as goal

-- what is gathered of an index, FE having the number `own`
abbrev pub bit : ℕ → ℕ → ℕ
bit own k = slot_as own k % 64

abbrev pub invariant-loop-i : goal.invariant-loop-i
invariant-loop-i l = gathered.Gathered (bit l.own) (indexes_at l.s l.at) l.i-index l.m
