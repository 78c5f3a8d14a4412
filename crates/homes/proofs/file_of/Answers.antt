-- `homes::file_of` meets its contract. Assumes nothing.
use Rattle.homes.proofs.Lookups.{file_own, file_part}
use Rattle.homes.proofs.Lookups.{file_own, file_part}
use native.Mathlib.Omega.{arith}
use Rattle.homes.proofs.file_of.Goals as goal

pub returns-then-from-eq0 : goal.returns-then-from-eq0
returns-then-from-eq0 c = file_own c.args.f.now c.args.s.now c.args.h c.if-from-eq0.true

pub slice_bounds-result-count : goal.slice_bounds-result-count
slice_bounds-result-count c = omega (arith, c.requires.0, c.requires.1)

pub slice_bounds-result-start : goal.slice_bounds-result-start
slice_bounds-result-start c = omega (arith, c.requires.0, c.requires.1)

pub slice_bounds-result-end : goal.slice_bounds-result-end
slice_bounds-result-end c = omega (arith, c.requires.0, c.requires.1)

pub returns : goal.returns
returns c = file_part c.args.f.now c.args.s.now c.args.h c.if-from-eq0.false
