-- `judge::contents::codes_answer` meets its contract: the sets have room for the code limit. Assumes nothing.
use native.Mathlib.Omega.{arith}
use mathlib.Core.Path.{ap}
use Rattle.rules.specs.Limits.{Limits}
use Rattle.rules.proofs.Limits.{limits_range_lem}
use Rattle.judge.proofs.contents.codes_answer.Goals as goal

pub codes_with-requires : goal.codes_with-requires
codes_with-requires c = (c.requires.0, c.requires.1, omega (arith, (limits_range_lem c.args.s.now).2), omega arith)

pub codes_with-requires-2 : goal.codes_with-requires-2
codes_with-requires-2 c =
    let code = ap (λ (l : Limits). l.code) c.limits_of-limits.ensures in
    (c.requires.0, c.requires.1, omega (arith, code, c.if-limits-gt4096.false), omega arith)
