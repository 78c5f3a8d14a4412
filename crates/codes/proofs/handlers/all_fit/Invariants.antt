-- `codes::handlers::all_fit` meets its contract. The invariant is `FitLoop`: all fit exactly if those from this place on do. Assumes nothing.
use Prim.Native.Nat.{◌*◌}
use Rattle.codes.proofs.Fitting.{FitLoop}
use Rattle.codes.proofs.handlers.all_fit.Given as goal

abbrev pub invariant-loop-k : goal.invariant-loop-k
invariant-loop-k l = FitLoop l.n l.starts l.handlers (6 * l.k)
