-- `pages::methods_in` meets its contract: the loop counts the methods of one class a turn. Assumes nothing.
use Prim.Native.Nat.{◌+◌, ◌-◌, ◌*◌, ◌≤◌}
use Rattle.pages.proofs.Methods.{Counts}
use Rattle.pages.proofs.methods_in.Given as goal

abbrev pub invariant-loop : goal.invariant-loop
invariant-loop l = Counts l.f l.start l.n (l.end - l.counter) l.c × (l.n + 255 * (l.end - l.counter) ≤ 65025)
