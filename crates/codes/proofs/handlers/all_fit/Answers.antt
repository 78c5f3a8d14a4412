-- `codes::handlers::all_fit` meets its contract. The invariant is `FitLoop`: all fit exactly if those from this place on do. Assumes nothing.
use Prim.Native.Nat.{◌+◌, ◌*◌}
use native.Mathlib.Omega.{arith}
use mathlib.Core.Path.{◌≡◌, subst}
use Rattle.codes.proofs.Fitting.{FitLoop, fit_start, fit_on, fit_bad, fit_done}
use Rattle.codes.proofs.handlers.all_fit.Goals as goal

pub loop-k-init : goal.loop-k-init
loop-k-init c = fit_start c.args.n c.args.starts.now c.args.handlers.now

pub returns-then-not-fits : goal.returns-then-not-fits
returns-then-not-fits c =
    let a = c.args in
    fit_bad a.n a.starts.now a.handlers.now (6 * c.loop-k.k) c.loop-k.invariant (omega arith) c.fits.result c.fits.ensures c.if-not-fits.true

pub loop-k-preserved : goal.loop-k-preserved
loop-k-preserved c =
    let a = c.args in
    let next : 6 * c.loop-k.k + 6 ≡ 6 * (c.loop-k.k + 1) = omega arith in
    subst (FitLoop a.n a.starts.now a.handlers.now) next
    (fit_on a.n a.starts.now a.handlers.now (6 * c.loop-k.k) c.loop-k.invariant (omega arith) c.fits.result c.fits.ensures c.if-not-fits.false)

pub returns : goal.returns
returns c =
    let a = c.args in
    fit_done a.n a.starts.now a.handlers.now (6 * c.loop-k.k) c.loop-k.invariant (omega arith)
