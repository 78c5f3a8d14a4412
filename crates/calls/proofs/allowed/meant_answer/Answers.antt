-- `calls::allowed::meant_answer` meets its contract: the declaration stands in its file, visible and of the form asked, and may be called.
-- Assumes nothing.
use mathlib.Core.Path.{subst}
use mathlib.Core.Bool.{Bool, true}
use Rattle.homes.specs.Homes.{aid_at}
use Rattle.homes.proofs.Lookups.{there_bounds}
use Rattle.calls.specs.Named.{CallNamedIs}
use Rattle.calls.specs.Rights.{CallAllowedIs}
use Rattle.refusals.proofs.Said.{reference_before, policy_before}
use Rattle.calls.proofs.Asked as asked
use Rattle.calls.proofs.Forms as forms
use Rattle.calls.proofs.Rights as rights
use Rattle.calls.proofs.allowed.meant_answer.Goals as goal
use Rattle.calls.proofs.allowed.meant_answer.Goals.{After-callee_allows, After-named_well, Else-not-named_well, Start}

-- question 18 is answered r
abbrev Named : Start → Bool → Type 0
Named b r = let a = b.args in CallNamedIs a.f.now a.s.now a.a.group.end a.c.kind a.c.reference r

well : (k : After-named_well) → Named (goal.at.After-named_well k).Start k.named_well.result
well k =
    forms.call_named_is k.args.c.kind k.args.x k.requires.reference_is _ k.file_of-g.ensures _ k.named_well.ensures

yes-named : (k : Else-not-named_well) → Named (goal.at.Else-not-named_well k).Start true
yes-named k = subst (Named (goal.at.Else-not-named_well k).Start) (k.if-not-named_well.false) (well (goal.at.Else-not-named_well k).After-named_well)

-- question 19 is answered r
abbrev Allowed : Start → Bool → Type 0
Allowed b r =
    let a = b.args in
    CallAllowedIs a.f.now a.s.now a.a.group.end (aid_at a.s.now a.a.domain) a.a.at a.c.reference r

allows : (k : After-callee_allows) → Allowed (goal.at.After-callee_allows k).Start k.callee_allows.result
allows k = k.callee_allows.ensures.callee_allows k.args.c.reference k.requires.reference_is

pub file_of-g-requires : goal.file_of-g-requires
file_of-g-requires c =
    there_bounds _ _ _ (forms.named_home c.args.c.kind c.args.x c.requires.reference_is (rights.caller_judged c.requires.own_method.0))

pub named_well-requires : goal.named_well-requires
named_well-requires c =
    let kind = c.args.c.kind in
    let judged = rights.caller_judged c.requires.own_method.0 in
    record { class_there = forms.named_class_lem kind c.args.x c.requires.reference_is _ c.file_of-g.ensures judged; method_there = forms.named_method kind c.args.x c.requires.reference_is _ c.file_of-g.ensures judged }

pub returns-then-not-named_well : goal.returns-then-not-named_well
returns-then-not-named_well c =
    record { call_number_is = asked.call_18 c.args.c.kind (subst (Named (goal.at.returns-then-not-named_well c).Start) (c.if-not-named_well.true) (well (goal.at.returns-then-not-named_well c).After-named_well)); before = reference_before; map_true_2 = c.requires.map_true }

pub callee_allows-requires : goal.callee_allows-requires
callee_allows-requires c =
    record { own_method = (c.requires.own_method.0, (c.args.c.reference, c.requires.reference_is)); asker_true = c.requires.own_method.1; map_true = c.requires.map_true }

pub returns-then-not-callee_allows : goal.returns-then-not-callee_allows
returns-then-not-callee_allows c =
    let no = subst (Allowed (goal.at.returns-then-not-callee_allows c).Start) (c.if-not-callee_allows.true) (allows (goal.at.returns-then-not-callee_allows c).After-callee_allows) in
    record { call_number_is = asked.call_19 c.args.c.kind (yes-named (goal.at.returns-then-not-callee_allows c).Else-not-named_well) no; before = policy_before; map_true_2 = c.callee_allows.ensures.map_true_2 }

pub returns : goal.returns
returns c =
    let allowed = subst (Allowed (goal.at.returns c).Start) (c.if-not-callee_allows.false) (allows (goal.at.returns c).After-callee_allows) in
    record { call_number_is = asked.call_0 c.args.c.kind (yes-named (goal.at.returns c).Else-not-named_well) allowed; before = tt; map_true_2 = c.callee_allows.ensures.map_true_2 }
