-- `codes::walk` meets its contract. The invariant is `Walking`: the instructions before this offset are passed. Assumes nothing.
use Prim.Native.Nat.{◌+◌}
use native.Mathlib.Omega.{arith}
use mathlib.Core.Path.{refl}
use mathlib.Core.Bool.{Bool}
use mathlib.Core.List.{[], ◌∷◌, ◌++◌}
use Rattle.rules.specs.Bytes.{Bytes}
use Rattle.codes.specs.Marks.{Passed}
use Rattle.std.specs.Prelude.{Some}
use Rattle.instructions.proofs.Sizes.{whole_is, length_some, length_none}
use Rattle.codes.proofs.Walking.{Walking, passed_straight, passed_branch, walking_start, walking_on, walking_bad, walking_done}
use Rattle.codes.proofs.walk.Goals as goal
use Rattle.codes.proofs.walk.Goals.{In-Some}

-- the walk goes on behind an instruction, where that is passed
on : (k : In-Some) (starts targets : Bytes) (inside calls : Bool) →
    let code = k.args.code.now in
    Passed code inside calls starts targets (k.loop-at.invariant.0.before ++ k.loop-at.at ∷ []) →
    Walking code (k.loop-at.at + k.in-Some.n) (Some k.loop-at.at) inside calls starts targets
on k =
    let there = length_some _ _ k.instruction_length.result k.instruction_length.ensures k.in-Some.n k.in-Some.is in
    walking_on _ _ _ _ _ _ _ k.loop-at.invariant.0 k.in-Some.n k.loop-at-test.true there.0 there.1 there.2

pub loop-at-init : goal.loop-at-init
loop-at-init c =
    (walking_start _ _ _ c.requires.by_index.0 c.requires.by_index.1, refl, refl)

pub instruction_length-requires : goal.instruction_length-requires
instruction_length-requires c = (c.entry_at-entry.ensures.0, c.loop-at-test.true)

pub returns-in_default : goal.returns-in_default
returns-in_default c =
    walking_bad _ _ _ _ _ _ _ c.loop-at.invariant.0 c.loop-at-test.true (length_none _ _ c.instruction_length.result c.instruction_length.ensures c.in_default.is)

pub set-requires : goal.set-requires
set-requires c =
    omega (arith, c.loop-at.invariant.1, c.requires.table_is.1, c.loop-at-test.true)

pub loop-at-preserved-then-entry-lt32 : goal.loop-at-preserved-then-entry-lt32
loop-at-preserved-then-entry-lt32 c =
    let one = passed_straight _ _ _ _ _ _ c.loop-at.invariant.0.passed _ _ _ _ c.entry_at-entry.ensures.0 c.loop-at-test.true c.set.ensures in
    (on (goal.at.loop-at-preserved-then-entry-lt32 c).In-Some _ _ _ _ (one (omega (arith, c.if-entry-lt32.true))), omega (arith, c.loop-at.invariant.1, c.set.auto), c.loop-at.invariant.2)

pub mark_targets-inside-requires : goal.mark_targets-inside-requires
mark_targets-inside-requires c =
    record { code_len_bound = (omega (arith, c.loop-at.invariant.2, c.requires.table_is.2), c.loop-at-test.true, omega arith); says = (c.entry_at-entry.ensures.0, whole_is _ c.in-Some.n (length_some _ _ c.instruction_length.result c.instruction_length.ensures c.in-Some.n c.in-Some.is).0) }

pub loop-at-preserved : goal.loop-at-preserved
loop-at-preserved c =
    let one = passed_branch _ _ _ _ _ _ c.loop-at.invariant.0.passed _ _ _ _ c.entry_at-entry.ensures.0 c.loop-at-test.true c.set.ensures in (
      on (goal.at.loop-at-preserved c).In-Some _ _ _ _ (one _ _ c.mark_targets-inside.ensures),
      omega (arith, c.loop-at.invariant.1, c.set.auto),
      omega (arith, c.loop-at.invariant.2, c.mark_targets-inside.auto),
    )

pub returns : goal.returns
returns c = walking_done _ _ _ _ _ _ _ c.loop-at.invariant.0 c.loop-at-test.false
