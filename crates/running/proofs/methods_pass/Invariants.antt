-- `running::methods_pass` meets its contract: the loop goes on while every method passed, and the row is that of the last one that ran. Assumes nothing.
use Prim.Native.Nat.{◌-◌}
use Rattle.running.specs.Rows.{RowFor}
use Rattle.running.proofs.Loops as loops
use Rattle.running.proofs.methods_pass.Given as goal

abbrev pub invariant-loop : goal.invariant-loop
invariant-loop l =
    loops.MethodsOn l.f l.s l.w.end l.v.domain l.w.own l.h l.start (l.end - l.counter) l.c × RowFor l.f l.s l.v.domain l.last l.h l.row
