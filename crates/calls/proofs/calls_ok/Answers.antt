-- `calls::calls_ok` meets its contract: the loop keeps the first no of the calls asked with the groups passed. Assumes nothing.
use native.Mathlib.Omega.{arith}
use Prim.Native.Nat.{ℕ, ◌+◌}
use mathlib.Core.Path.{◌≡◌, refl, sym, ◌∙◌, ap, subst}
use Rattle.homes.specs.Homes.{aid_at}
use Rattle.homes.specs.Found.{ImportPlaces}
use Rattle.references.specs.Setting.{Judged}
use Rattle.references.proofs.Telling.{lent_on, lent_at}
use Rattle.calls.specs.Maps.{AskerTrue}
use Rattle.refusals.specs.Order.{call_told, Before}
use Rattle.refusals.proofs.Said.{first_calls}
use Rattle.calls.specs.Calls.{asking, with_group, FileCallsAre}
use Rattle.calls.specs.declared.Asker.{Asker}
use Rattle.calls.proofs.Groups as groups
use Rattle.calls.proofs.Rights.{asker_from_lem}
use Rattle.calls.proofs.Walked as walked
use Rattle.calls.proofs.calls_ok.Goals as goal
use Rattle.calls.proofs.calls_ok.Goals.{After-asker_from-a, After-first_said-number, At-loop-first}

-- the file that is told of
abbrev told : At-loop-first → Asker
told k = k.told_of-told.result

-- what is told of the file holds for the group of the turn
asker : (k : After-asker_from-a) →
    let a = k.args in
    Judged a.f.now a.s.now k.asker_from-a.result.group.end × AskerTrue a.f.now a.s.now k.asker_from-a.result
asker k =
    let f = k.args.f.now in
    let s = k.args.s.now in
    subst (λ (x : Asker). Judged f s x.group.end × AskerTrue f s x) (sym k.asker_from-a.ensures)
    (subst (Judged f s) (sym k.told_of-told.ensures.0) k.requires.judged.0, asker_from_lem k.told_of-told.ensures.3 k.loop-first.invariant.4)

-- where the earlier entries end, and how many references there are
ends : (k : After-asker_from-a) → k.asker_from-a.result.group.end ≡ k.args.x.end
ends k = ap (λ (x : Asker). x.group.end) k.asker_from-a.ensures ∙ k.told_of-told.ensures.0

counts : (k : After-asker_from-a) → k.asker_from-a.result.group.count ≡ (told (goal.at.After-asker_from-a k).At-loop-first).group.count
counts k = ap (λ (x : Asker). x.group.count) k.asker_from-a.ensures

-- the first no of the calls asked so far
passed : (c : After-first_said-number) →
    let a = c.args in
    let x = told (goal.at.After-first_said-number c).At-loop-first in
    FileCallsAre a.f.now a.s.now x.group.end (aid_at a.s.now x.domain) (asking (groups.asked_to x.group.count (c.loop-first.first + 32)))
    (call_told c.first_said-number.result) × Before 0 c.first_said-number.result
passed c =
    let a = c.args in
    let x = told (goal.at.After-first_said-number c).At-loop-first in
    let here = subst (λ (y : Asker). FileCallsAre a.f.now a.s.now y.group.end (aid_at a.s.now y.domain) (with_group y.group) (call_told c.group_answer-n.result))
    c.asker_from-a.ensures c.group_answer-n.ensures.file_calls_are in
    let which = asking (groups.asked_to x.group.count (c.loop-first.first + 32)) in
    let first = first_calls c.loop-first.number c.group_answer-n.result c.loop-first.invariant.6 c.group_answer-n.ensures.before in
    let both = groups.groups_on x.group c.loop-first.first (call_told c.loop-first.number) (call_told c.group_answer-n.result) c.loop-first.invariant.5 here in (
      subst (FileCallsAre a.f.now a.s.now x.group.end (aid_at a.s.now x.domain) which) (sym (ap call_told c.first_said-number.ensures ∙ first.0)) both,
      rw c.first_said-number.ensures first.1,
    )

pub told_of-told-requires : goal.told_of-told-requires
told_of-told-requires c = record { judged = c.requires.judged.0; ends = c.requires.ends.0 }

pub loop-first-init : goal.loop-first-init
loop-first-init c =
    (refl, refl, refl, c.requires.slots_true, omega arith, groups.groups_begin c.told_of-told.result.group.count, tt)

pub tell_group-requires : goal.tell_group-requires
tell_group-requires c =
    let x = asker (goal.at.tell_group-requires c).After-asker_from-a in
    let a = c.args in
    let placed = subst (λ (end : ℕ). ImportPlaces a.f.now a.s.now end a.places.now) (sym (ends (goal.at.tell_group-requires c).After-asker_from-a)) c.requires.ends.1 in
    record { judged = (x.0, x.1.file, c.loop-first.invariant.2); import_places = (placed, c.requires.lent.small); slots_true = c.loop-first.invariant.3 }

pub group_answer-n-requires : goal.group_answer-n-requires
group_answer-n-requires c =
    let x = asker (goal.at.group_answer-n-requires c).After-asker_from-a in
    record { judged = (x.0, c.requires.judged.1, x.1); kept_true = c.tell_group.ensures.kept_true; lent = lent_on _ (lent_at (sym (ends (goal.at.group_answer-n-requires c).After-asker_from-a)) c.requires.lent) c.loop-first.invariant.1; slots_true = c.tell_group.ensures.slots_true_2 }

pub overflow_add-first : goal.overflow_add-first
overflow_add-first c = omega (arith, c.loop-first.invariant.4)

pub shape_of-slots-then-g-first : goal.shape_of-slots-then-g-first
shape_of-slots-then-g-first c = omega (arith, c.group_answer-n.auto, c.tell_group.auto, c.loop-first.invariant.0)

pub shape_of-seen-then-g-first : goal.shape_of-seen-then-g-first
shape_of-seen-then-g-first c = omega (arith, c.group_answer-n.auto, c.loop-first.invariant.1)

pub returns-then-g-first : goal.returns-then-g-first
returns-then-g-first c =
    let a = c.args in
    let done = passed (goal.at.returns-then-g-first c).After-first_said-number in
    let all = groups.groups_end (told (goal.at.returns-then-g-first c).At-loop-first).group.count (c.loop-first.first + 32) _ (omega arith) (omega (arith, counts (goal.at.returns-then-g-first c).After-asker_from-a, c.if-g-first.true)) done.0 in
    record { number = walked.calls_number_at _ c.told_of-told.ensures.0 (ap (aid_at a.s.now) c.told_of-told.ensures.1) all; before = done.1 }

pub loop-first-smaller : goal.loop-first-smaller
loop-first-smaller c = omega (arith, counts (goal.at.loop-first-smaller c).After-asker_from-a, c.if-g-first.false)

pub loop-first-preserved : goal.loop-first-preserved
loop-first-preserved c = (
  omega (arith, c.group_answer-n.auto, c.tell_group.auto, c.loop-first.invariant.0),
  omega (arith, c.group_answer-n.auto, c.loop-first.invariant.1),
  omega (arith, c.group_answer-n.auto, c.tell_group.auto, c.loop-first.invariant.2),
  c.group_answer-n.ensures.slots_true_2,
  omega (arith, counts (goal.at.loop-first-preserved c).After-asker_from-a, c.if-g-first.false, c.told_of-told.ensures.2),
  (passed (goal.at.loop-first-preserved c).After-first_said-number).0,
  (passed (goal.at.loop-first-preserved c).After-first_said-number).1,
)
