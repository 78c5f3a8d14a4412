-- `lines::read_line` meets its contract: the length, the letter, then the arguments. Assumes nothing.
use lib.ListN.{length-take, length-drop}
use Rattle.lines.proofs.Reading.{line_long, line_unspaced, line_alone, line_rest}
use mathlib.Core.Path.{◌∙◌}
use native.Mathlib.Omega.{arith}
use Rattle.lines.proofs.read_line.Goals as goal

pub returns-then-line-gt-LONGEST : goal.returns-then-line-gt-LONGEST
returns-then-line-gt-LONGEST c =
    let a = c.args in
    record { out_after = line_long a.line.now (omega arith); result_bound = tt }

pub returns-then-at-ne1 : goal.returns-then-at-ne1
returns-then-at-ne1 c =
    let a = c.args in
    record { out_after = line_unspaced a.line.now (λ e. c.if-at-ne1.true (omega arith)); result_bound = tt }

pub returns-then-line-eq1 : goal.returns-then-line-eq1
returns-then-line-eq1 c =
    let a = c.args in
    record { out_after = line_alone a.line.now (omega arith) c.if-line-eq1.true; result_bound = tt }

pub read_arguments-requires : goal.read_arguments-requires
read_arguments-requires c = simp (length-take, length-drop) (omega arith)

pub returns : goal.returns
returns c =
    let a = c.args in
    let args = a in record { out_after = c.read_arguments.ensures.out_after ∙ line_rest args.line.now (omega arith) (omega arith) (omega arith); result_bound = c.read_arguments.ensures.result_bound }
