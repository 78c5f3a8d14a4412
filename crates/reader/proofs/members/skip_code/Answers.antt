-- `reader::members::skip_code` meets its contract: by each test of the length. Assumes nothing.
use native.Mathlib.Omega.{arith}
use mathlib.Core.Path.{◌≡◌}
use mathlib.Core.Bool.{true, false}
use Rattle.cursor.specs.Limits.{limits_of}
use Rattle.cursor.proofs.Steps.{said_inside}
use Rattle.reader.proofs.Formats.{code_absent, code_none, code_empty, code_long, code_leads}
use Rattle.reader.proofs.members.skip_code.Goals as goal

pub returns-then-not-implemented : goal.returns-then-not-implemented
returns-then-not-implemented c =
    let unimplemented : c.args.implemented ≡ false = c.if-not-implemented.true in
    rw unimplemented (code_absent (limits_of c.args.limits) c.requires)

pub returns-in_err-size : goal.returns-in_err-size
returns-in_err-size c =
    let implemented : c.args.implemented ≡ true = c.if-not-implemented.false in
    rw c.from_residual.ensures (rw implemented (code_none (limits_of c.args.limits) c.in_err-size.ensures))

pub returns-then-size-lt1 : goal.returns-then-size-lt1
returns-then-size-lt1 c =
    let implemented : c.args.implemented ≡ true = c.if-not-implemented.false in
    rw implemented (code_empty (limits_of c.args.limits) c.in_ok-size.ensures (omega arith))

pub returns-then-most-size : goal.returns-then-most-size
returns-then-most-size c =
    let implemented : c.args.implemented ≡ true = c.if-not-implemented.false in
    rw implemented (code_long (limits_of c.args.limits) c.in_ok-size.ensures (omega arith) (omega arith))

pub skip-requires : goal.skip-requires
skip-requires c =
    said_inside c.in_ok-size.ensures

pub returns : goal.returns
returns c =
    let implemented : c.args.implemented ≡ true = c.if-not-implemented.false in
    rw implemented (code_leads (limits_of c.args.limits) c.in_ok-size.ensures (omega arith) (omega arith) _ c.skip.ensures)
