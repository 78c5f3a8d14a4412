-- `calls::walk::call_answer` meets its contract: a call that is not asked with the group answers 0, one that is open 18. Assumes nothing.
use mathlib.Core.Path.{◌≡◌, refl, sym, ◌∙◌, ap, subst}
use mathlib.Core.Bool.{true}
use Rattle.references.specs.Named.{ToldIs}
use Rattle.references.specs.Kept.{is_told, in_group, told_in}
use Rattle.references.specs.declared.Told.{Told}
use Rattle.references.proofs.Filled.{told_true, told_stays}
use Rattle.calls.specs.Calls.{with_table}
use Rattle.refusals.proofs.Said.{reference_before}
use Rattle.calls.proofs.Asked as asked
use Rattle.calls.proofs.Forms as forms
use Rattle.calls.proofs.walk.call_answer.Goals as goal
use Rattle.calls.proofs.walk.call_answer.Goals.{After-told_in, Else-not-in_group}

-- the call is asked
there : (k : Else-not-in_group) → let a = k.args in in_group a.a.group a.c.reference ≡ true
there k = sym k.in_group.ensures ∙ k.if-not-in_group.false

-- what is told of its reference is r; that is true
is-told : (k : After-told_in) (r : Told) → k.told_in.result ≡ r →
    let a = k.args in
    told_in a.kept.now a.a.group a.c.reference ≡ r
is-told k r e = sym k.told_in.ensures ∙ e

told : (k : After-told_in) (r : Told) → k.told_in.result ≡ r →
    let a = k.args in
    ToldIs a.f.now a.s.now a.a.group.end a.c.reference r
told k r e =
    let a = k.args in
    subst (ToldIs a.f.now a.s.now a.a.group.end a.c.reference) (is-told k r e)
    (told_true a.a.group a.c.reference (there (goal.at.After-told_in k).Else-not-in_group) k.requires.own_method.1.file k.requires.kept_true)

pub returns-then-not-in_group : goal.returns-then-not-in_group
returns-then-not-in_group c =
    let a = c.args in
    let no = sym c.in_group.ensures ∙ c.if-not-in_group.true in
    record { call_number_is = asked.call_passed (with_table a.a.group a.kept.now) a.c.kind a.c.reference no; before = tt; map_true_2 = c.requires.map_true; same_told = told_stays refl }

pub told_in-requires : goal.told_in-requires
told_in-requires c = (c.requires.kept_true.size, there c)

pub meant_answer-requires : goal.meant_answer-requires
meant_answer-requires c =
    record { own_method = (c.requires.own_method.0, c.requires.own_method.1); reference_is = told (goal.at.meant_answer-requires c).After-told_in _ c.in-Method.is; map_true = c.requires.map_true }

pub want_in-requires : goal.want_in-requires
want_in-requires c =
    (c.requires.kept_true.size, there (goal.at.want_in-requires c).Else-not-in_group, ap is_told (is-told (goal.at.want_in-requires c).After-told_in _ c.in-Open.is))

pub returns-in-Method : goal.returns-in-Method
returns-in-Method c =
    let a = c.args in
    let known = ap is_told (is-told (goal.at.returns-in-Method c).After-told_in _ c.in-Method.is) in
    let which = with_table a.a.group a.kept.now in
    let answer = asked.call_asked which a.c.kind a.c.reference (there (goal.at.returns-in-Method c).Else-not-in_group) known _ c.meant_answer.ensures.call_number_is in
    record { call_number_is = answer; before = c.meant_answer.ensures.before; map_true_2 = c.meant_answer.ensures.map_true_2; same_told = told_stays refl }

pub returns-in-Nothing : goal.returns-in-Nothing
returns-in-Nothing c =
    let a = c.args in
    let none = asked.call_18 a.c.kind (forms.call_unnamed a.c.kind (told (goal.at.returns-in-Nothing c).After-told_in _ c.in-Nothing.is)) in
    let which = with_table a.a.group a.kept.now in
    record { call_number_is = asked.call_asked which a.c.kind a.c.reference (there (goal.at.returns-in-Nothing c).Else-not-in_group) (ap is_told (is-told (goal.at.returns-in-Nothing c).After-told_in _ c.in-Nothing.is)) _ none; before = reference_before; map_true_2 = c.requires.map_true; same_told = told_stays refl }

pub returns-in-Open : goal.returns-in-Open
returns-in-Open c =
    let a = c.args in
    let open_told = ap is_told (is-told (goal.at.returns-in-Open c).After-told_in _ c.in-Open.is) in
    let which = with_table a.a.group a.kept.now in
    record { call_number_is = asked.call_open which a.c.kind a.c.reference (there (goal.at.returns-in-Open c).Else-not-in_group) open_told; before = reference_before; map_true_2 = c.requires.map_true; same_told = c.want_in.ensures }
