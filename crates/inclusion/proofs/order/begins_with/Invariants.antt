-- `inclusion::order::begins_with` meets its contract: the loop passes one domain of both lists a turn, and all passed are the same. Assumes nothing.
use Prim.Native.Nat.{◌-◌}
use lib.ListN.{get_or}
use Rattle.inclusion.proofs.Begins as begins
use Rattle.inclusion.proofs.order.begins_with.Given as goal

abbrev pub invariant-loop : goal.invariant-loop
invariant-loop l = begins.OrderLoop l.a l.u l.b l.v (get_or l.a l.u 0 - l.counter) l.c (l.count - l.counter) l.d
