-- `codes::subset::without_int` meets its contract. The invariant: none of the instructions passed is barred. Assumes nothing.
use native.Mathlib.Omega.{arith}
use Prim.Native.Nat.{◌+◌, ◌<◌, ◌≤◌}
use mathlib.Core.Path.{◌≡◌, sym, ◌∙◌}
use mathlib.Core.Option.{some}
use lib.ListN.{length}
use Rattle.rules.specs.Code.{instruction_length}
use Rattle.instructions.proofs.Sizes.{length_some, length_none}
use Rattle.codes.proofs.Barred.{unbarred_start, unbarred_end, unbarred_broken, whole, unbarred_hit, unbarred_on}
use Rattle.codes.proofs.subset.without_int.Goals as goal
use Rattle.codes.proofs.subset.without_int.Goals.{In-Some}

pub loop-at-init : goal.loop-at-init
loop-at-init c = unbarred_start c.args.code.now

pub instruction_length-requires : goal.instruction_length-requires
instruction_length-requires c = (c.entry_at.ensures.0, c.loop-at-test.true)

pub returns-in_default : goal.returns-in_default
returns-in_default c =
    sym (unbarred_broken c.args.code.now c.loop-at.at c.loop-at.invariant c.loop-at-test.true
    (length_none _ _ c.instruction_length.result c.instruction_length.ensures c.in_default.is))

-- the length of the instruction at hand
abbrev there : (k : In-Some) → let code = k.args.code.now in
    (instruction_length code k.loop-at.at ≡ some k.in-Some.n) × (0 < k.in-Some.n) × (k.loop-at.at + k.in-Some.n ≤ length code)
there k = length_some _ _ k.instruction_length.result k.instruction_length.ensures k.in-Some.n k.in-Some.is

pub is_barred-requires : goal.is_barred-requires
is_barred-requires c =
    let t = there c in
    (c.loop-at-test.true, whole c.args.code.now c.loop-at.at c.loop-at.invariant c.loop-at-test.true c.in-Some.n t.0 t.1)

pub returns-then-is_barred : goal.returns-then-is_barred
returns-then-is_barred c =
    let t = there (goal.at.returns-then-is_barred c).In-Some in
    sym (unbarred_hit c.args.code.now c.loop-at.at c.loop-at.invariant c.loop-at-test.true c.in-Some.n t.0 t.1 (sym c.is_barred.ensures ∙ c.if-is_barred.true))

pub loop-at-smaller : goal.loop-at-smaller
loop-at-smaller c = let t = there (goal.at.loop-at-smaller c).In-Some in omega (arith, t.1, t.2)

pub loop-at-preserved : goal.loop-at-preserved
loop-at-preserved c =
    let t = there (goal.at.loop-at-preserved c).In-Some in
    unbarred_on c.args.code.now c.loop-at.at c.loop-at.invariant c.loop-at-test.true c.in-Some.n t.0 t.1 (sym c.is_barred.ensures ∙ c.if-is_barred.false) t.2

pub returns : goal.returns
returns c =
    let a = c.args in
    sym (unbarred_end a.code.now c.loop-at.at c.loop-at.invariant c.loop-at-test.false)
