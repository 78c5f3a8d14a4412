-- `codes::handlers::fits` meets its contract: one case for each test. Assumes nothing.
use Rattle.codes.proofs.Fitting.{fits_empty, fits_past, fits_start, fits_target, fits_whole, fits_end}
use Rattle.codes.proofs.handlers.fits.Goals as goal

pub returns-then-end-start : goal.returns-then-end-start
returns-then-end-start c =
    let a = c.args in
    fits_empty a.n a.starts.now a.handlers.now a.at c.u2_at-start.result c.u2_at-end.result c.u2_at-start.ensures.0 c.u2_at-end.ensures.0 c.if-end-start.true

pub returns-then-n-end : goal.returns-then-n-end
returns-then-n-end c =
    let a = c.args in
    fits_past a.n a.starts.now a.handlers.now a.at c.u2_at-start.result c.u2_at-end.result c.u2_at-start.ensures.0 c.u2_at-end.ensures.0
    c.if-end-start.false c.if-n-end.true

pub returns-then-not-begins : goal.returns-then-not-begins
returns-then-not-begins c =
    let a = c.args in
    fits_start a.n a.starts.now a.handlers.now a.at c.u2_at-start.result c.u2_at-end.result c.u2_at-start.ensures.0 c.u2_at-end.ensures.0
    c.if-end-start.false c.if-n-end.false c.begins.result c.begins.ensures (c.if-not-begins.true)

pub returns-then-not-begins-2 : goal.returns-then-not-begins-2
returns-then-not-begins-2 c =
    let a = c.args in
    fits_target a.n a.starts.now a.handlers.now a.at c.u2_at-start.result c.u2_at-end.result c.u2_at-start.ensures.0 c.u2_at-end.ensures.0
    c.if-end-start.false c.if-n-end.false c.begins.result c.begins.ensures (c.if-not-begins.false)
    c.u2_at.result c.u2_at.ensures.0 c.begins-2.result c.begins-2.ensures (c.if-not-begins-2.true)

pub returns-then-end-n : goal.returns-then-end-n
returns-then-end-n c =
    let a = c.args in
    fits_whole a.n a.starts.now a.handlers.now a.at c.u2_at-start.result c.u2_at-end.result c.u2_at-start.ensures.0 c.u2_at-end.ensures.0
    c.if-end-start.false c.if-n-end.false c.begins.result c.begins.ensures (c.if-not-begins.false)
    c.u2_at.result c.u2_at.ensures.0 c.begins-2.result c.begins-2.ensures (c.if-not-begins-2.false) c.if-end-n.true

pub returns : goal.returns
returns c =
    let a = c.args in
    fits_end a.n a.starts.now a.handlers.now a.at c.u2_at-start.result c.u2_at-end.result c.u2_at-start.ensures.0 c.u2_at-end.ensures.0
    c.if-end-start.false c.if-n-end.false c.begins.result c.begins.ensures (c.if-not-begins.false)
    c.u2_at.result c.u2_at.ensures.0 c.begins-2.result c.begins-2.ensures (c.if-not-begins-2.false) c.if-end-n.false
    c.begins-3.result c.begins-3.ensures
