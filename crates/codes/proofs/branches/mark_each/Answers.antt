-- `codes::branches::mark_each` meets its contract. The invariant: adding the fields that are left comes to what adding all of them does. Assumes nothing.
use Prim.Native.Nat.{◌+◌, ◌-◌, ◌*◌}
use native.Mathlib.Omega.{arith}
use mathlib.Core.Path.{◌≡◌, refl, sym}
use mathlib.Core.Bool.{true, false}
use mathlib.Core.List.{[], ◌∷◌}
use lib.IntN.{pos, ◌+ℤ◌}
use lib.ListN.{length}
use Rattle.rules.specs.Code.{s2_at, targets_each}
use Rattle.bits.specs.Bits.{bit_at}
use Rattle.codes.specs.Marks.{Adds}
use Rattle.codes.proofs.Targets.{mul_less, each_done, each_more}
use Rattle.codes.proofs.Adding.{adds_nil, adds_is, adds_field, adds_yes, adds_no}
use Rattle.codes.proofs.branches.mark_each.Goals as goal
use Rattle.codes.proofs.branches.mark_each.Goals.{After-mark_branch, In-loop}

-- the fields that are left stand behind each other
fields : (k : In-loop) →
    let step = k.args.step in
    step * (k.args.n - k.loop.counter) ≡ step * (k.args.n - (k.loop.counter + 1)) + step
fields k = mul_less k.args.step (k.args.n - k.loop.counter) (k.args.n - (k.loop.counter + 1)) (omega arith)

-- the target of the turn, marked
one : (k : After-mark_branch) →
    let code = k.args.code.now in
    Adds (length code) (bit_at k.loop.targets) k.mark_branch.new.targets k.mark_branch.result ((pos k.args.at +ℤ s2_at code k.loop.field) ∷ [])
one k = adds_field _ 0x8000 k.u2_at.ensures.0 k.mark_branch.ensures

-- the targets that are left: that of the turn and the others
left : (k : In-loop) →
    let a = k.args in
    let code = a.code.now in
    targets_each (k.args.n - k.loop.counter) code a.at k.loop.field a.step
    ≡ (pos a.at +ℤ s2_at code k.loop.field) ∷ targets_each (k.args.n - (k.loop.counter + 1)) code a.at (k.loop.field + a.step) a.step
left k =
    let a = k.args in
    each_more a.code.now a.at k.loop.field a.step (k.args.n - k.loop.counter) (k.args.n - (k.loop.counter + 1)) (omega arith)

pub loop-init : goal.loop-init
loop-init c = let all : c.args.n - 0 ≡ c.args.n = omega arith in rw all (refl, omega arith, λ new r a. a)

pub u2_at-requires : goal.u2_at-requires
u2_at-requires c = omega (arith, fields (goal.at.u2_at-requires c).In-loop)

pub mark_branch-requires : goal.mark_branch-requires
mark_branch-requires c =
    (omega (arith, c.loop.invariant.0, c.requires.code_len_bound), c.requires.code_len_bound.1, c.u2_at.ensures.1, omega arith)

pub overflow_add-field : goal.overflow_add-field
overflow_add-field c = omega (arith, fields (goal.at.overflow_add-field c).In-loop)

pub loop-preserved : goal.loop-preserved
loop-preserved c = (
  omega (arith, c.loop.invariant.0, c.mark_branch.auto),
  omega (arith, fields (goal.at.loop-preserved c).In-loop),
  λ new r x. c.loop.invariant.2 new r (adds_is refl (sym (left (goal.at.loop-preserved c).In-loop)) (adds_yes c.if-not-mark_branch.false (one (goal.at.loop-preserved c).After-mark_branch) x)),
)

pub returns-then-not-mark_branch : goal.returns-then-not-mark_branch
returns-then-not-mark_branch c =
    c.loop.invariant.2 _ false (adds_is refl (sym (left (goal.at.returns-then-not-mark_branch c).In-loop)) (adds_no _ c.if-not-mark_branch.true (one (goal.at.returns-then-not-mark_branch c).After-mark_branch)))

pub returns : goal.returns
returns c =
    let a = c.args in
    let none = each_done a.code.now a.at c.loop.field a.step (c.args.n - c.loop.counter) (omega arith) in
    c.loop.invariant.2 c.loop.targets true (adds_is refl (sym none) (adds_nil _ c.loop.targets))
