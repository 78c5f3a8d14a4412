-- `codes::branches::mark_targets` meets its contract: one case for each form. Assumes nothing.
use Prim.Native.Nat.{◌+◌, ◌/◌, ◌%◌}
use native.Mathlib.Omega.{arith}
use mathlib.Core.Path.{refl, sym}
use mathlib.Core.List.{[], ◌∷◌}
use lib.ListN.{length}
use lib.IntN.{pos, ◌+ℤ◌}
use Rattle.rules.specs.Code.{s2_at}
use Rattle.bits.specs.Bits.{bit_at}
use Rattle.codes.specs.Marks.{Adds}
use Rattle.instructions.proofs.Sizes.{room_s1, room_s2}
use Rattle.codes.proofs.Targets.{s1_target, s2_target, switch_targets_lem, wide_target}
use Rattle.codes.proofs.Adding.{adds_is, adds_field, adds_yes, adds_no}
use Rattle.codes.proofs.branches.mark_targets.Goals as goal
use Rattle.codes.proofs.branches.mark_targets.Goals.{After-mark_branch-2}

-- the target of the field of two bytes, marked
first : (k : After-mark_branch-2) →
    let a = k.args in
    Adds (length a.code.now) (bit_at a.targets.now) k.mark_branch-2.new.targets k.mark_branch-2.result ((pos a.at +ℤ s2_at a.code.now (a.at + 1)) ∷ [])
first k = adds_field _ 0x8000 k.u2_at.ensures.0 k.mark_branch-2.ensures

pub bounds-code-at : goal.bounds-code-at
bounds-code-at c =
    omega (arith, room_s1 _ _ (c.args.entry / 16) (c.args.entry % 16) c.requires.says.0 (omega arith) c.requires.says.1)

pub mark_branch-requires : goal.mark_branch-requires
mark_branch-requires c = (c.requires.code_len_bound.0, c.requires.code_len_bound.1, c.wide.ensures.1, omega arith)

pub returns-then-entry-lt48 : goal.returns-then-entry-lt48
returns-then-entry-lt48 c =
    let target = s1_target _ _ (c.args.entry / 16) (c.args.entry % 16) c.requires.says.0 (omega arith) in
    adds_is refl (sym target) (adds_field _ 0x80 c.wide.ensures.0 c.mark_branch.ensures)

pub u2_at-requires : goal.u2_at-requires
u2_at-requires c =
    omega (arith, room_s2 _ _ (c.args.entry / 16) (c.args.entry % 16) c.requires.says.0 (omega arith) c.requires.says.1)

pub mark_branch-requires-2 : goal.mark_branch-requires-2
mark_branch-requires-2 c = (c.requires.code_len_bound.0, c.requires.code_len_bound.1, c.u2_at.ensures.1, omega arith)

pub returns-then-entry-lt64 : goal.returns-then-entry-lt64
returns-then-entry-lt64 c =
    adds_is c.if-mark_branch.true (sym (s2_target _ _ (c.args.entry / 16) (c.args.entry % 16) c.requires.says.0 (omega arith))) (first (goal.at.returns-then-entry-lt64 c).After-mark_branch-2)

pub mark_switch-requires : goal.mark_switch-requires
mark_switch-requires c =
    record { code_len_bound = (omega (arith, c.requires.code_len_bound.0, c.mark_branch-2.auto), c.requires.code_len_bound.1); lt_form = (omega arith, c.requires.says.0, c.requires.says.1) }

pub returns-then-mark_branch : goal.returns-then-mark_branch
returns-then-mark_branch c =
    adds_is refl (sym (switch_targets_lem _ _ (c.args.entry / 16) (c.args.entry % 16) c.requires.says.0 (omega arith)))
    (adds_yes c.if-mark_branch.true (first (goal.at.returns-then-mark_branch c).After-mark_branch-2) c.mark_switch.ensures)

pub returns : goal.returns
returns c =
    let w = wide_target _ _ (c.args.entry / 16) (c.args.entry % 16) c.requires.says.0 (omega arith) in
    adds_is refl (sym w.1) (adds_no w.0 c.if-mark_branch.false (first (goal.at.returns c).After-mark_branch-2))
