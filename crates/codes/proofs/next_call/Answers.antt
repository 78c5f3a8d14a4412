-- `codes::next_call` meets its contract. The invariant: the calls from here on are the calls from the start of the walk on. Assumes nothing.
use native.Mathlib.Omega.{arith}
use Prim.Native.Nat.{◌+◌, ◌<◌, ◌≤◌}
use mathlib.Core.Path.{◌≡◌, refl, ◌∙◌}
use mathlib.Core.Option.{some}
use lib.ListN.{length}
use Rattle.rules.specs.Code.{instruction_length}
use Rattle.instructions.proofs.Sizes.{length_some, length_none, whole_none}
use Rattle.codes.proofs.Calls.{splits_whole, calls_end, walk_call, walk_on}
use Rattle.codes.proofs.next_call.Goals as goal
use Rattle.codes.proofs.next_call.Goals.{In_ok-n}

pub loop-at-init : goal.loop-at-init
loop-at-init c = (c.requires.1, refl, omega arith)

pub instruction_length-requires : goal.instruction_length-requires
instruction_length-requires c = (c.entry_at.ensures.0, c.loop-at-test.true)

pub call_at-requires : goal.call_at-requires
call_at-requires c = (c.loop-at-test.true, splits_whole c.args.code.now c.loop-at.at c.loop-at.invariant.0 c.loop-at-test.true)

-- the length of the instruction at hand
abbrev there : (k : In_ok-n) → let code = k.args.code.now in
    (instruction_length code k.loop-at.at ≡ some k.in_ok-n.n) × (0 < k.in_ok-n.n) × (k.loop-at.at + k.in_ok-n.n ≤ length code)
there k = length_some _ _ k.instruction_length.result k.instruction_length.ensures k.in_ok-n.n k.in_ok-n.was

pub returns-in_err-n : goal.returns-in_err-n
returns-in_err-n c =
    whole_none _ (splits_whole c.args.code.now c.loop-at.at c.loop-at.invariant.0 c.loop-at-test.true)
    (length_none _ _ c.instruction_length.result c.instruction_length.ensures c.in_err-n.was)

pub returns-in-Some : goal.returns-in-Some
returns-in-Some c =
    let t = there (goal.at.returns-in-Some c).In_ok-n in
    walk_call c.args.code.now c.args.from.0 c.loop-at.at c.in_ok-n.n c.loop-at.invariant.0 c.loop-at-test.true c.loop-at.invariant.1 t.0
    c.call_at.result c.call_at.ensures.0 c.in-Some.call c.in-Some.is c.call_at.ensures.1 c.loop-at.invariant.2 t.1 t.2

pub loop-at-smaller : goal.loop-at-smaller
loop-at-smaller c = let t = there (goal.at.loop-at-smaller c).In_ok-n in omega (arith, t.1, t.2)

pub loop-at-preserved : goal.loop-at-preserved
loop-at-preserved c =
    let t = there (goal.at.loop-at-preserved c).In_ok-n in
    let on = walk_on c.args.code.now c.args.from.0 c.loop-at.at c.in_ok-n.n c.loop-at.invariant.0 c.loop-at-test.true c.loop-at.invariant.1 t.0
    c.call_at.result c.call_at.ensures.0 c.in_default.is in
    (on.0, on.1, omega (arith, c.loop-at.invariant.2))

pub returns : goal.returns
returns c =
    c.loop-at.invariant.1 ∙ calls_end c.args.code.now c.loop-at.at c.loop-at.invariant.0 c.loop-at-test.false
