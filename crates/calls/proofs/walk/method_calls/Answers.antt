-- `calls::walk::method_calls` meets its contract: the loop keeps the first no of the calls passed; what is left of the code falls. Assumes nothing.
use native.Mathlib.Omega.{arith}
use mathlib.Core.Path.{refl, subst, ap, ◌∙◌}
use Rattle.refusals.specs.Order.{call_told}
use Rattle.refusals.proofs.Said.{first_calls}
use Rattle.codes.specs.declared.NextCall.{NextCall}
use Rattle.codes.specs.Calls.{Follows}
use Rattle.std.specs.Prelude.{Some, None}
use Rattle.std.specs.Prelude.{Option as Optional}
use Rattle.homes.specs.Homes.{aid_at}
use Rattle.references.proofs.Filled.{told_stays, told_after, kept_same}
use Rattle.calls.specs.Calls.{Which, with_table, CallNumberIs}
use Rattle.calls.proofs.Known.{same_table}
use Rattle.calls.proofs.Asked as asked
use Rattle.calls.proofs.walk.method_calls.Goals as goal
use Rattle.calls.proofs.walk.method_calls.Goals.{At-loop-call, In-Some, Start}

-- the calls that are asked
abbrev which : Start → Which
which b = with_table b.args.a.group b.args.kept.now

-- r is what follows in the code
abbrev Next : At-loop-call → Optional NextCall → Type 0
Next k r = Follows k.code_of-code.result.now k.loop-call.from.0 r

-- a call follows
follows : (k : In-Some) → Next (goal.at.In-Some k).At-loop-call (Some k.in-Some.call)
follows k = subst (Next (goal.at.In-Some k).At-loop-call) k.in-Some.is k.next_call.ensures

pub code_of-code-requires : goal.code_of-code-requires
code_of-code-requires c = asked.method_there c.requires.own_method.0

pub loop-call-init : goal.loop-call-init
loop-call-init c =
    (refl, refl, told_stays refl, c.requires.map_true, asked.calls_begin (which (goal.at.loop-call-init c).Start) c.code_of-code.result.now c.code_of-code.ensures c.requires.own_method.0, tt)

pub next_call-requires : goal.next_call-requires
next_call-requires c = (c.requires.own_method.2, c.loop-call.invariant.4.splits)

pub call_answer-requires : goal.call_answer-requires
call_answer-requires c =
    record { own_method = (c.requires.own_method.0, c.requires.own_method.1); kept_true = kept_same _ _ _ c.loop-call.invariant.2 c.requires.kept_true; map_true = c.loop-call.invariant.3 }

pub loop-call-smaller : goal.loop-call-smaller
loop-call-smaller c = let w = follows (goal.at.loop-call-smaller c).In-Some in omega (arith, w.2, w.3)

pub loop-call-preserved : goal.loop-call-preserved
loop-call-preserved c =
    let w = follows (goal.at.loop-call-preserved c).In-Some in
    let a = c.args in
    let table = same_table a.a.group c.loop-call.invariant.2 in
    let end = a.a.group.end in
    let answer = subst (λ (z : Which). CallNumberIs a.f.now a.s.now end (aid_at a.s.now a.a.domain) z a.a.at c.in-Some.call.kind c.in-Some.call.index (call_told c.call_answer.result))
    table c.call_answer.ensures.call_number_is in
    let first = first_calls c.loop-call.number c.call_answer.result c.loop-call.invariant.5 c.call_answer.ensures.before in (
      omega (arith, c.call_answer.auto, c.loop-call.invariant.0),
      omega (arith, c.call_answer.auto, c.loop-call.invariant.1),
      told_after c.loop-call.invariant.2 c.call_answer.ensures.same_told,
      c.call_answer.ensures.map_true_2,
      asked.calls_on (which (goal.at.loop-call-preserved c).Start) _ _ _ c.loop-call.invariant.4 c.in-Some.call.kind _ _ w.0 _ answer w.1 _ (ap call_told c.first_said-number.ensures ∙ first.0),
      rw c.first_said-number.ensures first.1,
    )

pub shape_of-kept : goal.shape_of-kept
shape_of-kept c = c.loop-call.invariant.0

pub shape_of-map : goal.shape_of-map
shape_of-map c = c.loop-call.invariant.1

pub returns : goal.returns
returns c =
    let none = subst (Next (goal.at.returns c).At-loop-call) c.in_default.is c.next_call.ensures in
    record { method_calls_are = asked.calls_end (which (goal.at.returns c).Start) _ _ _ c.loop-call.invariant.4 none; before = c.loop-call.invariant.5; map_true_2 = c.loop-call.invariant.3; same_told = c.loop-call.invariant.2 }
