-- `reader::members::skip_method` meets its contract: by each of its parts. Assumes nothing.
use Prim.Native.Nat.{◌%◌}
use native.Mathlib.Omega.{arith}
use borrow.Author.Tests.{eq-eqb, ne_eqb}
use Rattle.rules.specs.Package.{Format, format_of, policy}
use Rattle.cursor.specs.Limits.{limits_of}
use Rattle.cursor.proofs.Steps.{stopped_inside}
use Rattle.reader.proofs.Formats.{method_none, method_spare, method_name_none, method_policy_none, method_code_none, method_leads, inside_any}
use Rattle.reader.proofs.members.skip_method.Goals as goal
use Rattle.reader.proofs.members.skip_method.Goals.{Start}

-- the format of the file
abbrev format : Start → Format
format start = format_of (limits_of start.args.limits) start.args.f.now

pub returns-in_err-bits : goal.returns-in_err-bits
returns-in_err-bits c =
    λ ds e. rw c.from_residual.ensures (method_none (format (goal.at.returns-in_err-bits c).Start) ds c.in_err-bits.ensures)

pub returns-then-bits-ne0 : goal.returns-then-bits-ne0
returns-then-bits-ne0 c =
    λ ds e. method_spare (format (goal.at.returns-then-bits-ne0 c).Start) ds c.in_ok-bits.ensures (ne_eqb (c.in_ok-bits.bits % 32) 0 (λ z. omega arith))

pub returns-in_err-allowed : goal.returns-in_err-allowed
returns-in_err-allowed c =
    let zero-spare = eq-eqb (c.in_ok-bits.bits % 32) 0 (omega (arith, c.if-bits-ne0.false)) in
    let t = format (goal.at.returns-in_err-allowed c).Start in
    λ ds e. rw c.from_residual-in_err-allowed.ensures (method_name_none t ds c.in_ok-bits.ensures zero-spare c.in_err-allowed.ensures)

pub returns-in_err-code : goal.returns-in_err-code
returns-in_err-code c =
    let zero-spare = eq-eqb (c.in_ok-bits.bits % 32) 0 (omega (arith, c.if-bits-ne0.false)) in
    let t = format (goal.at.returns-in_err-code c).Start in
    λ ds e. rw c.from_residual-in_err-code.ensures
    (method_policy_none t ds c.in_ok-bits.ensures zero-spare c.in_ok-allowed.ensures (c.in_err-code.ensures ds e))

pub skip_code-requires : goal.skip_code-requires
skip_code-requires c =
    inside_any {r = policy} c.args.domains c.in_ok-code.ensures

pub returns-in_err-handlers : goal.returns-in_err-handlers
returns-in_err-handlers c =
    let zero-spare = eq-eqb (c.in_ok-bits.bits % 32) 0 (omega (arith, c.if-bits-ne0.false)) in
    let t = format (goal.at.returns-in_err-handlers c).Start in
    λ ds e. rw c.from_residual-in_err-handlers.ensures
    (method_code_none t ds c.in_ok-bits.ensures zero-spare c.in_ok-allowed.ensures (c.in_ok-code.ensures ds e) c.in_err-handlers.ensures)

pub skip_handlers-requires : goal.skip_handlers-requires
skip_handlers-requires c =
    stopped_inside c.in_ok-handlers.ensures

pub returns : goal.returns
returns c =
    let zero-spare = eq-eqb (c.in_ok-bits.bits % 32) 0 (omega (arith, c.if-bits-ne0.false)) in
    let t = format (goal.at.returns c).Start in
    λ ds e. method_leads t ds c.in_ok-bits.ensures zero-spare c.in_ok-allowed.ensures (c.in_ok-code.ensures ds e) c.in_ok-handlers.ensures _
    c.skip_handlers.ensures
